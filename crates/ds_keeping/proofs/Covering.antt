-- What the sessions' passes committed and drew, and what is kept of it.
use Rattle.std.proofs.Common.{ℕ, ◌<◌, ◌≤◌, List, arith}
use Rattle.std.specs.Prelude.{All}
use Rattle.std.proofs.lemmas.List.Elements.{All-weaker}
use Rattle.ds_clients.specs.Sessions.{SessionParts}
use Rattle.ds_keeping.specs.Holding.{AreCovered}

pub covered_up_to : (commits next commits_now next_now : ℕ) (sessions : List SessionParts) → commits ≤ commits_now → next ≤ next_now
    → All (λ s. All (λ n. n ≤ commits) s.pass.commits) sessions → All (λ s. All (λ id. id < next) s.pass.draws) sessions
    → AreCovered commits_now next_now sessions
covered_up_to commits next commits_now next_now sessions many later committed drawn = record {
  committed = All-weaker (λ s. All (λ n. n ≤ commits) s.pass.commits) (λ s. All (λ n. n ≤ commits_now) s.pass.commits)
      (λ s below. All-weaker (λ n. n ≤ commits) (λ n. n ≤ commits_now) (λ n le. omega (arith, le, many)) s.pass.commits below) sessions
      committed;
  drawn = All-weaker (λ s. All (λ id. id < next) s.pass.draws) (λ s. All (λ id. id < next_now) s.pass.draws)
      (λ s below. All-weaker (λ id. id < next) (λ id. id < next_now) (λ id lt. omega (arith, lt, later)) s.pass.draws below) sessions drawn;
}
