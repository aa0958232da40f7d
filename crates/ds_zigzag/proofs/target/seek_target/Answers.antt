use Rattle.std.proofs.Common.{rules, ◌≡◌, ◌+◌, ◌≤◌, option_copied, Some, None, sym, ◌∙◌, ap, arith}
use Rattle.std.specs.Prelude.{find}
use Rattle.ds_zigzag.specs.Spans.{is_from, count_from}
use Rattle.ds_zigzag.proofs.Seeks.{greater, count_from-le}
use Rattle.ds_zigzag.proofs.target.seek_target.Goals as goal

pub returns-in_err-extend_from_slice-clause-steps_when_refused : goal.returns-in_err-extend_from_slice-clause-steps_when_refused
returns-in_err-extend_from_slice-clause-steps_when_refused g c =
    let most = count_from-le c.args.target.now.items (option_copied c.in_ok-found.field-0) (g.S.Scan.passed c.args.scan.now) in
    let done = rw c.as_slice.ensures.value at c.in_ok-found.ensures.steps_when_done in
    let taken : c.seek.new.steps ≤ c.args.steps.now + 1 + count_from c.args.target.now.items None (g.S.Scan.passed c.args.scan.now) = omega arith in
    search rules

pub returns-clause-sought : goal.returns-clause-sought
returns-clause-sought g c =
    let first : Some c.in-Some.found.now ≡ find (is_from c.args.target.now.items) (g.S.Scan.strings c.args.scan.now) =
    ap option_copied (sym c.in-Some.is) ∙ (rw c.as_slice.ensures.value at c.in_ok-found.ensures.finds_the_first) in
    greater c.args.target.now.items c.in-Some.found.now _ (g.S.Scan.strings c.args.scan.now) first
    (rw c.as_slice-2.ensures.value at c.if-eq.ensures) (rw c.clear.ensures.items at c.in_ok-extend_from_slice.ensures.items)
