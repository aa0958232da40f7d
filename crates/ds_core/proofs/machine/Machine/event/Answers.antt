use Rattle.ds_core.proofs.Words.{subst, parts, TakesAt, course_of}
use Rattle.ds_core.proofs.Calls.{ok-then}
use Rattle.ds_core.proofs.machine.Machine.event.Goals as goal

pub returns-clause-happens : goal.returns-clause-happens
returns-clause-happens c =
    ok-then c.take.result (λ is. record {
      between = course_of (parts c.begin_if.new.self);
      opens = c.in_ok-begin_if.ensures.opens;
      takes = subst (λ n. TakesAt n c.args.event.step c.args.event.client (course_of (parts c.begin_if.new.self))
          (course_of (parts c.take.new.self))) c.in_ok-begin_if.ensures.same.1 is;
    }) c.take.ensures.takes
