use Rattle.std.proofs.Common.{rules, ◌<◌, length, map, sym, subst, ◌∙◌, arith}
use Rattle.std.proofs.Math.Seq.{map-set_same}
use Rattle.std.proofs.lemmas.List.{length-map}
use Rattle.ds_zigzag.specs.Targets.{string_below}
use Rattle.ds_zigzag.proofs.Progress.{Progress, started, found_common, with_answer}
use Rattle.ds_zigzag.proofs.Turns.{at_turn, turn_same, turn_greater, turn_nothing, turn_without, smaller_same, smaller_greater}
use Rattle.ds_zigzag.proofs.leapfrog.leapfrog.Goals as goal
use Rattle.ds_zigzag.proofs.leapfrog.leapfrog.Goals.{in-Same, in-Greater}

pub loop-agreed-init : goal.loop-agreed-init
loop-agreed-init g c =
    let as_many = length-map c.args.scans.now g.S.Scan.passed ∙ sym (length-map c.args.scans.now g.S.Scan.strings) in
    record {
      progress = subst (λ v. Progress (string_below c.args.target.now.items) (map g.S.Scan.strings c.args.scans.now) (map g.S.Scan.passed c.args.scans.now) v 0 0 c.args.steps.now c.args.steps.now) (sym c.requires.from_above)
          (started (string_below c.args.target.now.items) (map g.S.Scan.strings c.args.scans.now) (map g.S.Scan.passed c.args.scans.now) c.args.steps.now as_many);
      sought = search rules;
      same_strings = search rules;
      same_passed = search rules;
    }

pub returns-in_err-seek_target-clause-same_strings : goal.returns-in_err-seek_target-clause-same_strings
returns-in_err-seek_target-clause-same_strings g c =
    map-set_same g.S.Scan.strings c.loop-agreed.scans c.wrapped-at.result c.seek_target.new.scan c.index-scans-at.result c.seek_target.ensures.same_strings ∙ c.loop-agreed.invariant.same_strings

pub returns-in_err-seek_target-clause-same_passed : goal.returns-in_err-seek_target-clause-same_passed
returns-in_err-seek_target-clause-same_passed g c =
    map-set_same g.S.Scan.passed c.loop-agreed.scans c.wrapped-at.result c.seek_target.new.scan c.index-scans-at.result c.seek_target.ensures.same_passed ∙ c.loop-agreed.invariant.same_passed

pub returns-in-Nothing-clause-same_strings : goal.returns-in-Nothing-clause-same_strings
returns-in-Nothing-clause-same_strings g c =
    map-set_same g.S.Scan.strings c.loop-agreed.scans c.wrapped-at.result c.seek_target.new.scan c.index-scans-at.result c.seek_target.ensures.same_strings ∙ c.loop-agreed.invariant.same_strings

pub returns-in-Nothing-clause-same_passed : goal.returns-in-Nothing-clause-same_passed
returns-in-Nothing-clause-same_passed g c =
    map-set_same g.S.Scan.passed c.loop-agreed.scans c.wrapped-at.result c.seek_target.new.scan c.index-scans-at.result c.seek_target.ensures.same_passed ∙ c.loop-agreed.invariant.same_passed

pub returns-in_err-seek_target-clause-steps_when_refused : goal.returns-in_err-seek_target-clause-steps_when_refused
returns-in_err-seek_target-clause-steps_when_refused g c =
    let t = at_turn g.S.Scan.strings g.S.Scan.passed c.loop-agreed.scans c.args.scans.now (string_below c.args.target.now.items) c.loop-agreed.target.items c.loop-agreed.turn c.loop-agreed.agreed c.args.steps.now c.loop-agreed.steps c.wrapped-at.result c.index-scans-at.result c.loop-agreed.invariant.same_strings c.loop-agreed.invariant.same_passed c.loop-agreed.invariant.progress c.loop-agreed-test.true c.wrapped-at.ensures.within c.wrapped-at.ensures.same c.wrapped-at.ensures.again in
    let bound = rw length-map at (turn_without t c.seek_target.new.steps c.in_err-seek_target.ensures.steps_when_refused) in
    search rules

pub returns-in-Nothing-clause-none_is_left : goal.returns-in-Nothing-clause-none_is_left
returns-in-Nothing-clause-none_is_left g c _ =
    let t = at_turn g.S.Scan.strings g.S.Scan.passed c.loop-agreed.scans c.args.scans.now (string_below c.args.target.now.items) c.loop-agreed.target.items c.loop-agreed.turn c.loop-agreed.agreed c.args.steps.now c.loop-agreed.steps c.wrapped-at.result c.index-scans-at.result c.loop-agreed.invariant.same_strings c.loop-agreed.invariant.same_passed c.loop-agreed.invariant.progress c.loop-agreed-test.true c.wrapped-at.ensures.within c.wrapped-at.ensures.same c.wrapped-at.ensures.again in
    turn_nothing t c.seek_target.new.target.items (rw c.in-Nothing.is at c.in_ok-seek_target.ensures.sought)

pub returns-in-Nothing-clause-steps_with_none : goal.returns-in-Nothing-clause-steps_with_none
returns-in-Nothing-clause-steps_with_none g c _ =
    let t = at_turn g.S.Scan.strings g.S.Scan.passed c.loop-agreed.scans c.args.scans.now (string_below c.args.target.now.items) c.loop-agreed.target.items c.loop-agreed.turn c.loop-agreed.agreed c.args.steps.now c.loop-agreed.steps c.wrapped-at.result c.index-scans-at.result c.loop-agreed.invariant.same_strings c.loop-agreed.invariant.same_passed c.loop-agreed.invariant.progress c.loop-agreed-test.true c.wrapped-at.ensures.within c.wrapped-at.ensures.same c.wrapped-at.ensures.again in
    rw length-map at (turn_without t c.seek_target.new.steps (rw c.in-Nothing.is at c.in_ok-seek_target.ensures.steps_when_done))

pub loop-agreed-smaller : goal.loop-agreed-smaller
loop-agreed-smaller g c =
    let t = at_turn g.S.Scan.strings g.S.Scan.passed c.loop-agreed.scans c.args.scans.now (string_below c.args.target.now.items) c.loop-agreed.target.items c.loop-agreed.turn c.loop-agreed.agreed c.args.steps.now c.loop-agreed.steps c.wrapped-at.result c.index-scans-at.result c.loop-agreed.invariant.same_strings c.loop-agreed.invariant.same_passed c.loop-agreed.invariant.progress c.loop-agreed-test.true c.wrapped-at.ensures.within c.wrapped-at.ensures.same c.wrapped-at.ensures.again in
    elim c.match-branch-2.branch [
      | in-Same w ↦ smaller_same t c.seek_target.new.target.items c.match-branch-2.agreed (rw w.in-Same.is at c.in_ok-seek_target.ensures.sought) w.agreed-is
      | in-Greater w ↦ smaller_greater t c.seek_target.new.target.items c.match-branch-2.agreed (rw w.in-Greater.is at c.in_ok-seek_target.ensures.sought) w.agreed-is
    ]

pub loop-agreed-preserved : goal.loop-agreed-preserved
loop-agreed-preserved g c =
    let t = at_turn g.S.Scan.strings g.S.Scan.passed c.loop-agreed.scans c.args.scans.now (string_below c.args.target.now.items) c.loop-agreed.target.items c.loop-agreed.turn c.loop-agreed.agreed c.args.steps.now c.loop-agreed.steps c.wrapped-at.result c.index-scans-at.result c.loop-agreed.invariant.same_strings c.loop-agreed.invariant.same_passed c.loop-agreed.invariant.progress c.loop-agreed-test.true c.wrapped-at.ensures.within c.wrapped-at.ensures.same c.wrapped-at.ensures.again in
    record {
      progress = elim c.match-branch-2.branch [
        | in-Same w ↦ turn_same t c.seek_target.new.target.items c.seek_target.new.steps c.match-branch-2.agreed c.in_ok-seek_target.ensures.strings_ascend (rw w.in-Same.is at c.in_ok-seek_target.ensures.sought) (rw w.in-Same.is at c.in_ok-seek_target.ensures.steps_when_done) c.seek_target.ensures.steps_stay_counted w.agreed-is
        | in-Greater w ↦ turn_greater t c.seek_target.new.target.items c.seek_target.new.steps c.match-branch-2.agreed c.in_ok-seek_target.ensures.strings_ascend (rw w.in-Greater.is at c.in_ok-seek_target.ensures.sought) (rw w.in-Greater.is at c.in_ok-seek_target.ensures.steps_when_done) c.seek_target.ensures.steps_stay_counted w.agreed-is
      ];
      sought = elim c.match-branch-2.branch [
        | in-Same w ↦ omega (arith, w.agreed-is, c.loop-agreed.invariant.sought, c.in_ok-seek_target.ensures.takes_a_step)
        | in-Greater w ↦ omega (arith, w.agreed-is, c.loop-agreed.invariant.sought, c.in_ok-seek_target.ensures.takes_a_step)
      ];
      same_strings = map-set_same g.S.Scan.strings c.loop-agreed.scans c.wrapped-at.result c.seek_target.new.scan c.index-scans-at.result c.seek_target.ensures.same_strings ∙ c.loop-agreed.invariant.same_strings;
      same_passed = map-set_same g.S.Scan.passed c.loop-agreed.scans c.wrapped-at.result c.seek_target.new.scan c.index-scans-at.result c.seek_target.ensures.same_passed ∙ c.loop-agreed.invariant.same_passed;
    }

pub returns-clause-next_common : goal.returns-clause-next_common
returns-clause-next_common g c _ =
    found_common (string_below c.args.target.now.items) (map g.S.Scan.strings c.args.scans.now) (map g.S.Scan.passed c.args.scans.now) c.loop-agreed.target.items c.loop-agreed.turn c.loop-agreed.agreed c.args.steps.now c.loop-agreed.steps c.loop-agreed.invariant.progress
    (omega (arith, length-map c.args.scans.now g.S.Scan.strings))

pub returns-clause-steps_with_answer : goal.returns-clause-steps_with_answer
returns-clause-steps_with_answer g c _ =
    let some : 0 < length (map g.S.Scan.strings c.args.scans.now) = omega (arith, length-map c.args.scans.now g.S.Scan.strings) in
    rw length-map at (with_answer (string_below c.args.target.now.items) (map g.S.Scan.strings c.args.scans.now) (map g.S.Scan.passed c.args.scans.now) c.loop-agreed.target.items c.loop-agreed.turn c.loop-agreed.agreed c.args.steps.now c.loop-agreed.steps c.loop-agreed.invariant.progress
    (omega (arith, length-map c.args.scans.now g.S.Scan.strings)) some)
