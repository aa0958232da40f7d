use Rattle.std.proofs.Common.{arith}
use Rattle.ds_json_printing.proofs.Escapes.{plain-more}
use Rattle.ds_json_printing.proofs.text.plain_run.Goals as goal

pub loop-run-preserved : goal.loop-run-preserved
loop-run-preserved c = record {
  within = omega arith;
  plain = plain-more c.args.text.now c.loop-run.run c.loop-run-test.true c.loop-run.invariant.plain (c.is_plain.ensures c.if-not-is_plain.false);
}
