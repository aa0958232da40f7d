use Rattle.ds_core.proofs.Words.{◌≡◌, slice_set, GoesOn, course_of, moment_of, IsLegal, IsSameRun, parts, AreWaiting, open_of}
use Rattle.ds_core.proofs.Remaining.{remaining}
use Rattle.ds_core.proofs.machine.Machine.finish_client.Given as goal

-- the requests of other clients stay
abbrev pub invariant-steps : goal.invariant-steps
invariant-steps l = record {
  legal : IsLegal (parts l.self);
  same : IsSameRun (parts l.initial.self) (parts l.self);
  opens : l.self.opens.items ≡ slice_set l.initial.self.opens.items l.client (open_of (moment_of (parts l.self)) l.client);
  waiting : AreWaiting l.self.state.store.shards (moment_of (parts l.self));
  goes : GoesOn l.initial.self.state.store.shards (course_of (parts l.initial.self)) (course_of (parts l.self));
}

abbrev pub decreases-steps : goal.decreases-steps
decreases-steps l = remaining l.self.state.store.shards (course_of (parts l.self)) l.client
