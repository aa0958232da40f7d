use Rattle.ds_core.proofs.Words.{◌∙◌, None, ap, refl, subst, sym, slice_set, set-get_or, moment_of, open_in, parts, AreWaiting, Course}
use Rattle.ds_core.proofs.Words.{GoesOn, course_of}
use Rattle.ds_core.proofs.Happened.{goes-none, goes-then}
use Rattle.ds_core.proofs.Legals.{same-run}
use Rattle.ds_core.proofs.Lists.{set-again}
use Rattle.ds_core.proofs.Remaining.{step-done}
use Rattle.ds_core.proofs.machine.Machine.finish_client.Goals as goal

pub steps-init : goal.steps-init
steps-init c = record {
  legal = c.requires.legal;
  same = (refl, refl);
  opens = sym (set-get_or c.args.self.now.opens.items c.args.client None);
  waiting = c.requires.waiting;
  goes = goes-none c.args.self.now.state.store.shards (course_of (parts c.args.self.now));
}

pub steps-preserved : goal.steps-preserved
steps-preserved c =
    let first = parts c.args.self.now in
    let m = parts c.steps.self in
    let n = parts c.missing.new.self in
    let o = parts c.take.new.self in
    let found = c.in_ok-step.ensures in
    let taken = c.in_ok-take-in-Some.ensures in
    let was = c.steps.invariant in
    let done = step-done m n o c.args.client c.in-Some.step was.legal c.requires.client was.waiting found.still found.same taken.same
    taken.takes (rw c.in-Some.is at found.step) in
    record {
      legal = taken.legal;
      same = same-run first m o was.same (same-run m n o found.same taken.same);
      opens = done.1 ∙ ap (λ os. slice_set os c.args.client (open_in o c.args.client)) was.opens
          ∙ set-again first.opens c.args.client (open_in m c.args.client) (open_in o c.args.client);
      waiting = done.0;
      goes = goes-then first.state.store.shards (course_of first) (course_of m) (course_of o) was.goes
          (subst (λ k. GoesOn k (course_of m) (course_of o)) was.same.1 done.2);
    }

pub steps-smaller : goal.steps-smaller
steps-smaller c =
    let was = c.steps.invariant in
    let found = c.in_ok-step.ensures in
    let taken = c.in_ok-take-in-Some.ensures in
    (step-done (parts c.steps.self) (parts c.missing.new.self) (parts c.take.new.self) c.args.client c.in-Some.step was.legal
    c.requires.client was.waiting found.still found.same taken.same taken.takes (rw c.in-Some.is at found.step)).3

pub returns-in-None : goal.returns-in-None
returns-in-None c =
    let first = parts c.args.self.now in
    let m = parts c.steps.self in
    let n = parts c.missing.new.self in
    let found = c.in_ok-step.ensures in
    let was = c.steps.invariant in
    record {
      legal = found.legal;
      waiting = subst (λ k. AreWaiting k (moment_of n)) (sym found.same.1)
          (subst (λ (x : Course). AreWaiting c.steps.self.state.store.shards x.moment) (sym found.still) was.waiting);
      same = same-run first m n was.same found.same;
      closed = ap (λ (x : Course). x.moment.opens) found.still ∙ was.opens
          ∙ ap (slice_set first.opens c.args.client) (rw c.in-None.is at found.step);
      goes = subst (GoesOn first.state.store.shards (course_of first)) (sym found.still) was.goes;
    }
