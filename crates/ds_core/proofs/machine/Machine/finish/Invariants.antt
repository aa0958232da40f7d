use Rattle.ds_core.proofs.Words.{◌≡◌, None, take, replicate, GoesOn, course_of, moment_of, IsLegal, IsSameRun, parts, AreWaiting}
use Rattle.ds_core.proofs.machine.Machine.finish.Given as goal

-- the clients so far have no request open
abbrev pub invariant-loop-client : goal.invariant-loop-client
invariant-loop-client l = record {
  legal : IsLegal (parts l.self);
  same : IsSameRun (parts l.initial.self) (parts l.self);
  closed : take l.client l.self.opens.items ≡ replicate l.client None;
  waiting : AreWaiting l.self.state.store.shards (moment_of (parts l.self));
  goes : GoesOn l.initial.self.state.store.shards (course_of (parts l.initial.self)) (course_of (parts l.self));
}
