use Rattle.std.proofs.Common.{◌≡◌, ◌++◌, take, option_copied, refl, sym, ◌∙◌, ap, arith}
use Rattle.ds_base.specs.Bytes.{AreBytes}
use Rattle.ds_scan.specs.Ranges.{later}
use Rattle.ds_scan.specs.Kept.{range_of}
use Rattle.ds_scan.proofs.Rests.{rests-ascend, rests-do_not_fall}
use Rattle.ds_scan.proofs.Kept.{if_some, some_if, same_rests, found_long, finds_first, passes_few}
use Rattle.ds_scan.proofs.range.RangeScanScan.seek.Goals as goal

pub rest_of-requires : goal.rest_of-requires
rest_of-requires g c =
    let s = c.self.inside in
    let a = c.args.at_least.now in
    let aimed : c.as_slice.result.now ≡ take s.front s.sought.items ++ later s.low a =
    c.as_slice.ensures.value ∙ (c.in_ok-aim.ensures.aimed ∙ ap (λ l. take s.front s.sought.items ++ later l a) c.bytes.ensures) in
    if_some c.seek_near-found.result _
    (λ x e. found_long s.sought.items s.front s.low a s.bounded s.end c.self.invariant c.as_slice.result.now (option_copied c.bytes_of.result) aimed c.bytes_of.ensures
    (g.R.Rows.seen s.rows) x (sym c.seek_near-found.ensures.finds_the_first ∙ e))

pub returns : goal.returns
returns g c =
    let s = c.self.inside in
    let a = c.args.at_least.now in
    let aimed : c.as_slice.result.now ≡ take s.front s.sought.items ++ later s.low a =
    c.as_slice.ensures.value ∙ (c.in_ok-aim.ensures.aimed ∙ ap (λ l. take s.front s.sought.items ++ later l a) c.bytes.ensures) in
    let range = range_of s.sought.items s.front s.low s.bounded s.end in
    let bytes = some_if c.seek_near-found.result AreBytes c.rest_of.ensures.of_bytes in
    let found = c.seek_near-found.ensures in
    let few = passes_few s.sought.items s.front s.low a s.bounded s.end c.self.invariant c.as_slice.result.now (option_copied c.bytes_of.result) aimed c.bytes_of.ensures
    (g.R.Rows.seen s.rows) (g.R.Rows.unseen s.rows) (option_copied c.seek_near-found.result) (option_copied c.rest_of.result) found.finds_the_first bytes c.rest_of.ensures.rest found.passed_are_bytes in (
      (
        refl,
        (λ v. tt),
        (
          rw (← c.self.view_is) (same_rests c.aim.new.sought.items s.sought.items s.front s.low s.bounded s.end (g.R.Rows.seen s.rows) c.in_ok-aim.ensures.same_front),
          rw (← c.self.view_is) (same_rests c.aim.new.sought.items s.sought.items s.front s.low s.bounded s.end (g.R.Rows.unseen s.rows) c.in_ok-aim.ensures.same_front),
        ),
      ),
      record {
        finds_the_first =
            rw (← c.self.view_is)
            (finds_first s.sought.items s.front s.low a s.bounded s.end c.self.invariant c.as_slice.result.now (option_copied c.bytes_of.result) aimed c.bytes_of.ensures
            (g.R.Rows.seen s.rows) (option_copied c.seek_near-found.result) (option_copied c.rest_of.result) found.finds_the_first bytes c.rest_of.ensures.rest);
        same_lists = tt;
        strings_ascend = rw (← c.self.view_is) (rests-ascend range (g.R.Rows.seen s.rows) found.rows_ascend);
        passed_do_not_fall = rw (← c.self.view_is) (rests-do_not_fall range (g.R.Rows.unseen s.rows) found.passed_do_not_fall);
        steps_when_done = rw (← c.self.view_is) (omega (arith, few, found.steps_bounded));
        steps_when_refused = tt;
        takes_a_step = found.takes_a_step;
        steps_stay_counted = omega (arith, found.takes_a_step);
      },
    )
