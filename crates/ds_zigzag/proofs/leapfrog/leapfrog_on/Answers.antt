use Rattle.std.proofs.Common.{◌<◌, length, map, arith}
use Rattle.std.proofs.lemmas.List.{length-map}
use Rattle.ds_zigzag.specs.Walks.{standing_at}
use Rattle.ds_zigzag.proofs.Walks.{walk_within, called_on, called_within}
use Rattle.ds_zigzag.proofs.leapfrog.leapfrog_on.Goals as goal

pub returns-in_err-above_standing-clause-walk_within : goal.returns-in_err-above_standing-clause-walk_within
returns-in_err-above_standing-clause-walk_within g c start begun w =
    walk_within (length c.args.scans.now) start (standing_at c.args.stands c.args.target.now.items) (map g.S.Scan.strings c.args.scans.now) (map g.S.Scan.passed c.args.scans.now) begun c.args.steps.now w

pub returns-clause-walks_on : goal.returns-clause-walks_on
returns-clause-walks_on g c =
    let some : 0 < length (map g.S.Scan.strings c.args.scans.now) = omega (arith, c.requires.some, length-map c.args.scans.now g.S.Scan.strings) in
    rw (c.leapfrog.ensures.same_strings, c.leapfrog.ensures.same_passed)
    (called_on (length c.args.scans.now) (standing_at c.args.stands c.args.target.now.items) (map g.S.Scan.strings c.args.scans.now) (map g.S.Scan.passed c.args.scans.now) c.args.steps.now c.leapfrog.new.steps c.leapfrog.new.target.items some c.leapfrog.result
    (rw c.in_ok-above_standing.ensures.below at c.leapfrog.ensures.next_common)
    (rw c.in_ok-above_standing.ensures.below at c.leapfrog.ensures.steps_with_answer))

pub returns-clause-walk_within : goal.returns-clause-walk_within
returns-clause-walk_within g c =
    let some : 0 < length (map g.S.Scan.strings c.args.scans.now) = omega (arith, c.requires.some, length-map c.args.scans.now g.S.Scan.strings) in
    called_within (length c.args.scans.now) (standing_at c.args.stands c.args.target.now.items) (map g.S.Scan.strings c.args.scans.now) (map g.S.Scan.passed c.args.scans.now) c.args.steps.now c.leapfrog.new.steps c.leapfrog.new.target.items some c.leapfrog.result
    (rw c.in_ok-above_standing.ensures.below at c.leapfrog.ensures.next_common)
    (rw c.in_ok-above_standing.ensures.below at c.leapfrog.ensures.steps_with_answer)
    (rw c.in_ok-above_standing.ensures.below at c.leapfrog.ensures.steps_with_none)
    (rw c.in_ok-above_standing.ensures.below at c.leapfrog.ensures.steps_when_refused)
