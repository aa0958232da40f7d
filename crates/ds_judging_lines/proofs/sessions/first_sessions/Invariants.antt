use Rattle.std.proofs.Common.{◌≡◌, replicate}
use Rattle.ds_model.specs.Sessions.{first_session}
use Rattle.ds_judging_lines.proofs.sessions.first_sessions.Given as goal

abbrev pub invariant-loop-client : goal.invariant-loop-client
invariant-loop-client l = l.sessions.items ≡ replicate l._client (first_session l.shards)
