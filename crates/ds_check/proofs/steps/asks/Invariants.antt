use Rattle.std.proofs.Common.{◌≡◌, ◌≤◌, take}
use Rattle.ds_check.specs.Walks.{asks}
use Rattle.ds_check.proofs.steps.asks.Given as goal

-- so many are counted so far
abbrev pub invariant-loop-step : goal.invariant-loop-step
invariant-loop-step l = (l.count ≡ asks (take l.step-index l.steps)) × (l.count ≤ l.step-index)
