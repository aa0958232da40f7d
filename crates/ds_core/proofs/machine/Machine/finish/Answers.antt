use Rattle.ds_core.proofs.Words.{◌≡◌, ◌+◌, None, arith, refl, subst, suc, sym, take, replicate, parts, GoesOn, course_of}
use Rattle.ds_core.proofs.Happened.{goes-none, goes-then}
use Rattle.ds_core.proofs.Legals.{same-run}
use Rattle.ds_core.proofs.Remaining.{all-closed, closed-more}
use Rattle.ds_core.proofs.machine.Machine.finish.Goals as goal

pub loop-client-init : goal.loop-client-init
loop-client-init c = record {
  legal = c.requires.legal;
  same = (refl, refl);
  closed = refl;
  waiting = c.requires.waiting;
  goes = goes-none c.args.self.now.state.store.shards (course_of (parts c.args.self.now));
}

pub loop-client-preserved : goal.loop-client-preserved
loop-client-preserved c =
    let first = parts c.args.self.now in
    let was = parts c.loop-client.self in
    let is = parts c.finish_client.new.self in
    let taken = c.in_ok-finish_client.ensures in
    record {
      legal = taken.legal;
      same = same-run first was is c.loop-client.invariant.same taken.same;
      closed = subst (λ n. take n is.opens ≡ replicate n None)
          (let more : suc c.loop-client.client ≡ c.loop-client.client + 1 = omega arith in more)
          (subst (λ os. take (suc c.loop-client.client) os ≡ replicate (suc c.loop-client.client) None) (sym taken.closed)
          (closed-more was.opens c.loop-client.client (omega (arith, c.loop-client.invariant.legal.places))
          c.loop-client.invariant.closed));
      waiting = taken.waiting;
      goes = goes-then first.state.store.shards (course_of first) (course_of was) (course_of is) c.loop-client.invariant.goes
          (subst (λ k. GoesOn k (course_of was) (course_of is)) c.loop-client.invariant.same.1 taken.goes);
    }

pub returns-clause-closed : goal.returns-clause-closed
returns-clause-closed c =
    all-closed c.loop-client.self.opens.items c.loop-client.client (omega arith) c.loop-client.invariant.legal.places
    c.loop-client.invariant.closed
