use Rattle.std.proofs.Common.{◌+◌, arith, refl}
use Rattle.ds_json_printing.proofs.Escapes.{plain-chunk}
use Rattle.ds_json_printing.proofs.text.plain_chunks.Goals as goal

pub loop-run-preserved : goal.loop-run-preserved
loop-run-preserved c = record {
  within = omega arith;
  plain = plain-chunk c.args.text.now c.loop-run.run 16 (c.loop-run.run + 16) refl c.loop-run.invariant.plain (c.are_plain.ensures c.if-not-are_plain.false);
}
