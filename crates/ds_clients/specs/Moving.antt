-- Sessions that go on over another store.
use Rattle.std.specs.Prelude.{◌≡◌, ◌<◌, ◌≤◌, List, All, map}
use Rattle.ds_client.specs.Sessions.{SessionParts}
use Rattle.ds_clients.specs.Clients.{clients_of}
use Rattle.ds_clients.specs.Runs.{AreWritten, IsIdle, seen_of}
use Rattle.ds_store.specs.Answered.{AreAtLeast}
use Rattle.ds_store.specs.Passes.{PassParts, counts_of}

-- A pass stands no lower than that of a session. No commit of the session's is above its place, and no id that the session drew is at its
-- id counter or above.
abbrev pub IsMetBy : PassParts → SessionParts → Type 0
IsMetBy p s =
    (s.pass.place ≤ p.place) × AreAtLeast (counts_of s.pass) (counts_of p) × (s.pass.next ≤ p.next)
    × All (λ n. n ≤ p.place) s.pass.commits × All (λ id. id < p.next) s.pass.draws

-- the same of all sessions
abbrev pub HaveBeenMet : PassParts → List SessionParts → Type 0
HaveBeenMet p sessions = All (IsMetBy p) sessions

-- The same clients have seen the same, transactions included, and have the same replies to write; their passes have done nothing.
pub record AreMoved (before after : List SessionParts) : Type 0 where
  pub clients : clients_of after ≡ clients_of before
  pub seen : seen_of after ≡ seen_of before
  pub texts : map (λ s. s.text) after ≡ map (λ s. s.text) before
  pub idle : All (λ s. IsIdle s.pass) after
  pub written : AreWritten before → AreWritten after
