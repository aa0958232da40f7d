-- How sessions begin behind what is kept.
use Rattle.std.proofs.Common.{◌≡◌, ◌∙◌, ℕ, ◌+◌, List, ap, length}
use Rattle.std.specs.Prelude.{None, replicate}
use Rattle.ds_base.specs.Limits.{greatest_client}
use Rattle.ds_kept_file.specs.Files.{Kept}
use Rattle.ds_model.specs.Sessions.{Session}
use Rattle.ds_restoring.specs.LegalFrom.{session_from, sessions_from}

pub seen_from : (seen : List Session) (kept : Kept) (shards m place next : ℕ) → place ≡ length kept.journal → next ≡ kept.next
    → m ≡ shards → seen ≡ replicate (greatest_client + 1) (record {
      place = place;
      counts = replicate m 0;
      next_id = next;
      transaction = None;
    }) → seen ≡ sessions_from shards kept
seen_from seen kept shards m place next many counter same is = is ∙ ap (replicate (greatest_client + 1)) one where
  first : Session
  first = record { place = place; counts = replicate m 0; next_id = next; transaction = None }

  one : first ≡ session_from shards kept
  one = λ i. record { place = many i; counts = replicate (same i) 0; next_id = counter i; transaction = None }
