use Rattle.std.proofs.Common.{◌≡◌, Some, map, refl, arith}
use Rattle.ds_reply_lines.specs.ReplyLines.{whole_lines}
use Rattle.ds_load.proofs.Telling.{each_ok, of_runs}
use Rattle.ds_load.proofs.reading.read_summary.Goals as goal

pub returns-in-Some-clause-told : goal.returns-in-Some-clause-told
returns-in-Some-clause-told c =
    let lines : whole_lines c.args.text.now ≡ Some (map (λ l. l.now) c.as_slice.result.now) =
    rw (← c.in_ok-lines.ensures, c.in-Some.is, c.as_slice.ensures.value) refl in
    each_ok c.read_last.result
    (λ s last. of_runs c.args.items c.args.text.now (map (λ l. l.now) c.as_slice.result.now) s (omega (arith, c.ranges.items.fits)) lines
    last) c.read_last.ensures.told

pub returns-in-Some-clause-settled : goal.returns-in-Some-clause-settled
returns-in-Some-clause-settled c =
    let lines : whole_lines c.args.text.now ≡ Some (map (λ l. l.now) c.as_slice.result.now) =
    rw (← c.in_ok-lines.ensures, c.in-Some.is, c.as_slice.ensures.value) refl in
    each_ok c.read_last.result (λ s settled. record { lines = map (λ l. l.now) c.as_slice.result.now; whole = lines; settled = settled })
    c.read_last.ensures.settled
