use Rattle.std.proofs.Common.{List, ℕ, subst}
use Rattle.ds_json_printing.proofs.Escapes.{escape-stop, escape-end}
use Rattle.ds_json_printing.proofs.text.write_escaped.Goals as goal

pub loop-run-preserved : goal.loop-run-preserved
loop-run-preserved g c =
    let j = g.met.O.Output.joined in
    let whole = escape-stop c.loop-run.rest.now c.loop-run.run c.loop-run-test.true c.loop-run.invariant.plain in
    record {
      within = c.plain_run-run-in-loop-run.ensures.within;
      in_memory = c.plain_run-run-in-loop-run.ensures.in_memory;
      plain = c.plain_run-run-in-loop-run.ensures.plain;
      whole = λ u h. c.loop-run.invariant.whole u (subst (λ (l : List ℕ). g.O.Output.Writes l c.loop-run.out u) whole (j _ _ _ _ _ c.put.ensures (j _ _ _ _ _ c.write_escape.ensures h)));
    }

pub returns : goal.returns
returns g c =
    let all = escape-end c.loop-run.rest.now c.loop-run.run c.loop-run-test.false c.loop-run.invariant.plain in
    c.loop-run.invariant.whole c.put-2.new.self (subst (λ (l : List ℕ). g.O.Output.Writes l c.loop-run.out c.put-2.new.self) all c.put-2.ensures)
