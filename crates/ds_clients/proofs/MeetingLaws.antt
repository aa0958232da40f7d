-- Sessions that meet: by taking the greatest of all each meets all others.
use Rattle.std.proofs.Common.{◌≡◌, ℕ, List, [], ◌∷◌, map, ◌∙◌}
use Rattle.ds_model.specs.Sessions.{Session, raised_to}
use Rattle.ds_protocol.specs.Watermarks.{HaveCounts, greatest_of, raised_by}
use Rattle.ds_protocol.proofs.Meetings.{all_met}
use Rattle.ds_clients.specs.Runs.{HaveMet, HaveTaken, seen_of}
use Rattle.ds_client.specs.Sessions.{SessionParts}

each_met : (greatest : Session) (all : List Session) (before after : List SessionParts)
    → map (raised_by greatest) (seen_of before) ≡ map (raised_to all) (seen_of before) → HaveTaken greatest before after
    → HaveMet all before after
each_met greatest all [] [] same taken = tt
each_met greatest all [] (t ∷ after) same taken = absurd taken
each_met greatest all (s ∷ before) [] same taken = absurd taken
each_met greatest all (s ∷ before) (t ∷ after) same taken =
    let head : raised_by greatest s.seen ≡ raised_to all s.seen = cc in
    let others : map (raised_by greatest) (seen_of before) ≡ map (raised_to all) (seen_of before) = cc in (
      record { client = taken.0.client; seen = taken.0.seen ∙ head; read = taken.0.read; text = taken.0.text },
      each_met greatest all before after others taken.1,
    )

-- where each has taken the greatest of all
pub have_met : (shards : ℕ) (before after : List SessionParts) → HaveCounts shards (seen_of before)
    → HaveTaken (greatest_of shards (seen_of before)) before after → HaveMet (seen_of before) before after
have_met shards before after counts taken =
    each_met (greatest_of shards (seen_of before)) (seen_of before) before after (all_met shards (seen_of before) counts) taken
