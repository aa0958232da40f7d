use Rattle.std.proofs.Common.{◌∙◌, List, ℕ, [], ap, inl, length, refl, subst, sym}
use Rattle.std.proofs.lemmas.List.{append-nil}
use Rattle.ds_protocol.specs.Watermarks.{HaveCounts}
use Rattle.ds_store_passes.proofs.Seeing.{HasRead-itself}
use Rattle.ds_kept_rounds.specs.declared.stopped.RoundOutcome.{RoundOutcome}
use Rattle.ds_kept_rounds.specs.Ending.{LeavesKept}
use Rattle.ds_keeping.specs.Holding.{kept_at}
use Rattle.ds_keeping.specs.Moments.{IsBetween}
use Rattle.ds_keeping.proofs.Between.{between_first, untouched}
use Rattle.ds_kept_rounds.proofs.Kept.{covered_alike}
use Rattle.ds_kept_rounds.proofs.Stops.{between_holds, kept_served, kept_unsent, none_kept, not_kept, settled_holds}
use Rattle.ds_kept_rounds.proofs.serving.serve_round.Goals as goal

pub returns-in-Ok-send-clause-leaves : goal.returns-in-Ok-send-clause-leaves
returns-in-Ok-send-clause-leaves g c = λ first left held before.
    let k = c.in-Ok.kept in
    kept_served c.args.serving.now first c.args.keeper.commits c.args.keeper.next k.commits k.next before c.in-Ran.ensures.next
    c.send.ensures.alike c.in-Ok-send.ensures.ok
    (covered_alike k.commits k.next c.run_next.new.sessions c.send.new.sessions c.send.ensures.alike c.in-Ok.ensures.covered)

pub returns-in-Ok-send-clause-going : goal.returns-in-Ok-send-clause-going
returns-in-Ok-send-clause-going g c =
    let k = c.in-Ok.kept in
    record {
      seen = subst (HaveCounts c.args.serving.now.shards) (sym c.send.ensures.alike.seen) c.run_next.ensures.counts;
      written = c.send.ensures.written;
      covered = covered_alike k.commits k.next c.run_next.new.sessions c.send.new.sessions c.send.ensures.alike c.in-Ok.ensures.covered;
      stands = c.in-Ok.ensures.stands;
      many = ap (λ (cs : List ℕ). length cs) c.keep_round.ensures.counts ∙ c.requires.going.many;
    }

pub returns-in-Err-send-clause-leaves : goal.returns-in-Err-send-clause-leaves
returns-in-Err-send-clause-leaves g c = λ first left held before.
    let k = c.in-Ok.kept in
    record {
      commits = k.commits;
      next = k.next;
      held = [];
      stopped = kept_unsent c.args.serving.now first c.args.keeper.commits c.args.keeper.next k.commits k.next c.in-Err-send.unsent
          before c.in-Ran.ensures.next c.send.ensures.alike c.in-Err-send.ensures.err
          (covered_alike k.commits k.next c.run_next.new.sessions c.send.new.sessions c.send.ensures.alike c.in-Ok.ensures.covered);
      held_is = inl refl;
      on_disk = λ honest image here.
          settled_holds g.D.Disk.is_honest g.D.Disk.contents g.D.Disk.images k c.keep_round.new.follower.pass c.keep_round.new.disk
          (c.in-Ok.ensures.settled honest) image here;
    }

pub returns-in-Err-clause-leaves : goal.returns-in-Err-clause-leaves
returns-in-Err-clause-leaves g c = λ first left held before.
    not_kept c.args.serving.now first c.args.keeper.commits c.args.keeper.next
    (record { status = c.status_of.result; unsent = c.hold_back.result }) (g.D.Disk.is_honest c.args.disk.now)
    (g.D.Disk.images c.keep_round.new.disk) c.in-Err.unkept before c.in-Ran.ensures.next c.hold_back.ensures.alike c.status_of.ensures
    c.hold_back.ensures.unsent
    (λ honest image here.
    let run = c.keep_round.ensures.any_moment honest in
    between_holds c.args.keeper c.args.running.now.follower.pass c.keep_round.new.follower.pass.journal image c.requires.going.stands
    (run.each image
    (g.met.D.Disk.counts_now c.keep_round.new.disk (g.D.Disk.moment c.args.disk.now) image run.later here)))

pub returns-in-Ended-clause-leaves : goal.returns-in-Ended-clause-leaves
returns-in-Ended-clause-leaves g c = λ first left held before.
    subst (λ (s : RoundOutcome). LeavesKept c.args.serving.now first s left (g.I.Source.left c.run_next.new.input) held
    (g.O.Sink.held c.args.output.now) c.run_next.new.rounds c.run_next.new.sessions (g.D.Disk.is_honest c.args.disk.now)
    (g.D.Disk.images c.args.disk.now)) (sym c.stop_with.ensures)
    (record {
      commits = c.args.keeper.commits;
      next = c.args.keeper.next;
      held = [];
      stopped = none_kept c.args.serving.now first c.args.keeper.commits c.args.keeper.next c.in-Ended.status before
          c.in-Ended.ensures.next;
      held_is = inl refl;
      on_disk = λ honest image here.
          settled_holds g.D.Disk.is_honest g.D.Disk.contents g.D.Disk.images c.args.keeper c.args.running.now.follower.pass
          c.args.disk.now (c.requires.settled honest) image here;
    })

pub returns-in-Ended-clause-read : goal.returns-in-Ended-clause-read
returns-in-Ended-clause-read g c = HasRead-itself c.args.running.now.follower.pass

pub returns-in-Ended-clause-any_moment : goal.returns-in-Ended-clause-any_moment
returns-in-Ended-clause-any_moment g c = λ honest.
    let pass = c.args.running.now.follower.pass in
    let kept = kept_at pass c.args.keeper.next in
    untouched g.D.Disk.is_honest g.D.Disk.contents g.D.Disk.images g.D.Disk.moment g.D.Disk.left_since c.args.keeper kept c.args.disk.now
    (IsBetween kept pass.journal) g.met.D.Disk.only_now (c.requires.settled honest)
    (λ image stands. between_first kept pass.journal image ([], append-nil pass.journal) stands)
