use Rattle.std.proofs.lemmas.Bool.{and_parts}
use Rattle.ds_json_printing.proofs.Escapes.{plain-more}
use Rattle.ds_json_printing.proofs.text.are_plain.Goals as goal

pub loop-byte-preserved : goal.loop-byte-preserved
loop-byte-preserved c = λ h.
    let both = and_parts c.loop-byte.plain c.is_plain-plain.result h in
    plain-more c.args.bytes.now c.loop-byte.byte-index c.loop-byte-test.true (c.loop-byte.invariant both.0) (c.is_plain-plain.ensures both.1)
