use Rattle.ds_core.proofs.Words.{subst, parts, Advances, course_of}
use Rattle.ds_core.proofs.Calls.{ok-then}
use Rattle.ds_core.proofs.Legals.{same-run}
use Rattle.ds_core.proofs.machine.Machine.take.Goals as goal

pub returns-clause-same : goal.returns-clause-same
returns-clause-same c =
    ok-then c.advance.result (same-run (parts c.args.self.now) (parts c.gather.new.self) (parts c.advance.new.self)
    c.in_ok-gather.ensures.same) c.advance.ensures.same

pub returns-clause-takes : goal.returns-clause-takes
returns-clause-takes c =
    ok-then c.advance.result (λ is. (
      c.gather.ensures.counted,
      subst (λ x. Advances c.args.self.now.state.store.shards c.args.step c.args.client x (course_of (parts c.advance.new.self)))
          c.in_ok-gather.ensures.stepped
          (subst (λ n. Advances n c.args.step c.args.client (course_of (parts c.gather.new.self)) (course_of (parts c.advance.new.self)))
          c.in_ok-gather.ensures.same.1 is),
    )) c.advance.ensures.advances
