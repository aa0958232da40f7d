use Rattle.ds_core.proofs.Words.{◌≡◌, replicate, first_session}
use Rattle.ds_core.proofs.clients.first_sessions.Given as goal

abbrev pub invariant-loop-client : goal.invariant-loop-client
invariant-loop-client l = l.sessions.items ≡ replicate l._client (first_session l.shards)
