-- Each name so far comes before the next.
use Rattle.std.proofs.Common.{ℕ, ◌-◌, ◌<◌, get_or, []}
use Rattle.ds_reply.specs.Orders.{IsBefore}
use Rattle.ds_reply.proofs.projection.are_ascending.Given as goal

abbrev pub invariant-loop-k : goal.invariant-loop-k
invariant-loop-k l = (j : ℕ) → j < l.k → 0 < j → IsBefore (get_or l.names (j - 1) []) (get_or l.names j [])
