-- What a legal run is that goes on from a journal which was there before.
use Rattle.std.specs.Prelude.{◌≡◌, ℕ, ◌+◌, ◌-◌, ◌<◌, ◌≤◌, List, ◌++◌, Option, length, flat_map, All, IsPermutation}
use Rattle.std.specs.List.{range_with_len}
use mathlib.Core.List.{IsPrefix}
use Rattle.ds_base.specs.Limits.{first_drawn_id}
use Rattle.ds_indexdef.specs.declared.IndexDef.{IndexDef}
use Rattle.ds_log.specs.declared.Commit.{Commit}
use Rattle.ds_reply.specs.declared.reply.Reply.{Reply}
use Rattle.ds_rounds.specs.Rounds.{NumberedLine}
use Rattle.ds_model.specs.Asked.{Reading, asked}
use Rattle.ds_model.specs.Legal.{RoundsSteps, acknowledged, accepted, printed_next, drawn_in, answered_lines}
use Rattle.ds_model.specs.Sessions.{Session}
use Rattle.ds_model.specs.Worlds.{world_of}
use Rattle.ds_store.specs.Passes.{PassParts}

-- The drawn ids are those from a counter up to a bound, each once; accepted ids are below it, printed counters not above. With the
-- counter that a server begins with by itself, it is the condition on ids of a legal run.
pub record IdsDrawnFrom (reading : Reading) (next : ℕ) (rounds : List (List NumberedLine)) (replies : List Reply) : Type 0 where
  pub bound : ℕ
  pub from_kept : next ≤ bound
  pub each_once : IsPermutation (drawn_in reading (answered_lines reading rounds) replies) (range_with_len next (bound - next))
  pub accepted_below : All (λ id. id < bound) (flat_map accepted replies)
  pub printed_within : All (λ printed. printed ≤ bound) (flat_map printed_next replies)

-- One legal run that goes on from a journal and an id counter. Its journal begins with that one; the replies of the rounds are steps of
-- the sessions over it, from these first ones; the commits behind are those that are acknowledged, each once; and ids are drawn each once,
-- from the counter on.
pub record LegalBehind (definitions : List IndexDef) (shards : ℕ) (window : Option ℕ) (kept : List Commit) (next : ℕ)
    (first : List Session) (rounds : List (List NumberedLine)) (journal : List Commit) (replies : List Reply) : Type 0 where
  pub behind : List Commit
  pub begins : journal ≡ kept ++ behind
  pub after : List Session
  pub steps : RoundsSteps (asked shards) (world_of definitions shards window journal) rounds first replies after
  pub commits : IsPermutation (flat_map acknowledged replies) (range_with_len (length kept + 1) (length behind))
  pub ids : IdsDrawnFrom (asked shards) next rounds replies

-- A pass has committed just this journal, and drawn just the ids below this counter, whatever it has seen since.
pub record HasLoaded (kept : List Commit) (next : ℕ) (p : PassParts) : Type 0 where
  pub least : first_drawn_id ≤ next
  pub seen : IsPrefix kept p.journal
  pub shown : next ≤ p.next
  pub commits : p.commits ≡ range_with_len 1 (length kept)
  pub draws : p.draws ≡ range_with_len first_drawn_id (next - first_drawn_id)
