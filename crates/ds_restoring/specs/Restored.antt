-- What a run has made before its first round.
use Rattle.std.specs.Prelude.{◌≡◌, ℕ, ◌+◌, ◌≤◌, List, length, replicate, All}
use Rattle.ds_base.specs.Limits.{greatest_client}
use Rattle.ds_rounds.specs.Reading.{ReaderParts, first_reader}
use Rattle.ds_kept_file.specs.Files.{Kept}
use Rattle.ds_store.specs.Loads.{loaded}
use Rattle.ds_store.specs.Passes.{PassParts, StoreParts}
use Rattle.ds_clients.specs.Sessions.{SessionParts}
use Rattle.ds_clients.specs.Runs.{AreWritten, IsIdle, seen_of}
use Rattle.ds_restoring.specs.LegalFrom.{sessions_from}

-- The sessions have seen what is kept, and their passes have committed and drawn nothing; the pass that follows the journal is the one that
-- loaded it; and the appliers' passes, which have done nothing, have room for all others.
pub record IsReady (shards : ℕ) (kept : Kept) (store : StoreParts) (reader : ReaderParts) (sessions : List SessionParts)
    (follower : PassParts) (counts : List ℕ) (appliers : List PassParts) (capacity : ℕ) : Type 0 where
  pub store_has : store.shards ≡ shards
  pub first : reader ≡ first_reader
  pub seen : seen_of sessions ≡ sessions_from shards kept
  pub idle : All (λ s. IsIdle s.pass) sessions
  pub written : AreWritten sessions
  pub follows : follower ≡ loaded shards kept.journal kept.next
  pub none_counted : counts ≡ replicate shards 0
  pub appliers_idle : All IsIdle appliers
  pub all : length appliers + (greatest_client + 2) ≡ store.passes
  pub room : store.passes ≤ capacity
