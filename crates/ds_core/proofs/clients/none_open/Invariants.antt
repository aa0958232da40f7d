use Rattle.ds_core.proofs.Words.{◌≡◌, None, replicate}
use Rattle.ds_core.proofs.clients.none_open.Given as goal

abbrev pub invariant-loop-client : goal.invariant-loop-client
invariant-loop-client l = l.opens.items ≡ replicate l._client None
