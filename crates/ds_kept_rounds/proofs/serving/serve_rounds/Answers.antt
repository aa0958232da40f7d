use Rattle.std.proofs.Common.{◌∙◌, [], arith, refl, subst, sym}
use Rattle.std.specs.Prelude.{IsTrue}
use Rattle.std.proofs.lemmas.List.{append-nil}
use Rattle.ds_rounds.specs.Reading.{ReaderParts}
use Rattle.ds_serving.specs.Rounds.{HasServed}
use Rattle.ds_store_passes.proofs.Seeing.{HasRead-itself, HasRead-through}
use Rattle.ds_kept_rounds.specs.Going.{HasRunKept}
use Rattle.ds_keeping.specs.Holding.{kept_at}
use Rattle.ds_keeping.specs.Moments.{IsBetween}
use Rattle.ds_keeping.proofs.Between.{between_first, between_on, untouched}
use Rattle.ds_kept_rounds.proofs.serving.serve_rounds.Goals as goal

pub serve-init : goal.serve-init
serve-init g c =
    let left = g.I.Source.left c.args.input.now in
    let held = g.O.Sink.held c.args.output.now in
    let pass = c.args.running.now.follower.pass in
    let kept = kept_at pass c.args.keeper.next in
    record {
      served = λ first given.
          subst (λ (r : ReaderParts).
          HasServed (HasRunKept c.args.serving.now first c.args.keeper.commits c.args.keeper.next []) left left held held r
          c.args.running.now.sessions) (sym c.requires.reader) given;
      going = c.requires.going;
      settled = c.requires.settled;
      read = HasRead-itself pass;
      rises = omega arith;
      moments = λ honest.
          untouched g.D.Disk.is_honest g.D.Disk.contents g.D.Disk.images g.D.Disk.moment g.D.Disk.left_since c.args.keeper kept
          c.args.disk.now (IsBetween kept pass.journal) g.met.D.Disk.only_now (c.requires.settled honest)
          (λ image stands. between_first kept pass.journal image ([], append-nil pass.journal) stands);
      honest = refl;
      disk_faults = omega arith;
      read_faults = refl;
      write_faults = refl;
    }

pub serve-preserved : goal.serve-preserved
serve-preserved g c =
    let left = g.I.Source.left c.args.input.now in
    let held = g.O.Sink.held c.args.output.now in
    let first_pass = c.args.running.now.follower.pass in
    let so_far = c.serve.running.follower.pass in
    let pass = c.serve_round.new.running.follower.pass in
    record {
      served = λ first given. c.in-Served.ensures.leaves first left held (c.serve.invariant.served first given);
      going = c.in-Served.ensures.going;
      settled = λ honest. c.in-Served.ensures.settled (subst IsTrue (sym c.serve.invariant.honest) honest);
      read = HasRead-through first_pass so_far pass c.serve.invariant.read c.in-Served.ensures.read;
      rises = omega (arith, c.serve.invariant.rises, c.in-Served.ensures.rises.1);
      moments = λ honest.
          between_on g.D.Disk.moment g.D.Disk.left_since c.args.disk.now c.serve.disk c.serve_round.new.disk
          (kept_at first_pass c.args.keeper.next) (kept_at so_far c.serve.keeper.next) so_far.journal pass.journal
          c.serve.invariant.read.journal c.serve.invariant.rises c.in-Served.ensures.read.journal (c.serve.invariant.moments honest)
          (c.in-Served.ensures.any_moment (subst IsTrue (sym c.serve.invariant.honest) honest));
      honest = c.in-Served.ensures.honest ∙ c.serve.invariant.honest;
      disk_faults = omega (arith, c.serve.invariant.disk_faults, c.in-Served.ensures.disk_faults);
      read_faults = c.in-Served.ensures.read_faults ∙ c.serve.invariant.read_faults;
      write_faults = c.in-Served.ensures.write_faults ∙ c.serve.invariant.write_faults;
    }

pub returns-in-Stopped-clause-read : goal.returns-in-Stopped-clause-read
returns-in-Stopped-clause-read g c =
    HasRead-through c.args.running.now.follower.pass c.serve.running.follower.pass c.serve_round.new.running.follower.pass
    c.serve.invariant.read c.in-Stopped.ensures.read

pub returns-in-Stopped-clause-any_moment : goal.returns-in-Stopped-clause-any_moment
returns-in-Stopped-clause-any_moment g c = λ honest.
    let first_pass = c.args.running.now.follower.pass in
    let so_far = c.serve.running.follower.pass in
    let pass = c.serve_round.new.running.follower.pass in
    between_on g.D.Disk.moment g.D.Disk.left_since c.args.disk.now c.serve.disk c.serve_round.new.disk
    (kept_at first_pass c.args.keeper.next) (kept_at so_far c.serve.keeper.next) so_far.journal pass.journal
    c.serve.invariant.read.journal c.serve.invariant.rises c.in-Stopped.ensures.read.journal (c.serve.invariant.moments honest)
    (c.in-Stopped.ensures.any_moment (subst IsTrue (sym c.serve.invariant.honest) honest))
