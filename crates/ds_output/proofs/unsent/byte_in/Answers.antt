use Rattle.std.proofs.Common.{◌∙◌, ap, arith, length, sym}
use Rattle.std.specs.Prelude.{slice_get}
use Rattle.ds_output.proofs.TextLaws.{byte-found, byte-passed, get-there}
use Rattle.ds_output.proofs.unsent.byte_in.Goals as goal

pub returns-then-left-bytes : goal.returns-then-left-bytes
returns-then-left-bytes c =
    sym (get-there c.bytes-bytes.result.now c.loop-text.left c.if-left-bytes.true)
    ∙ ap (λ bs. slice_get bs c.loop-text.left) c.bytes-bytes.ensures
    ∙ byte-found c.args.texts.now c.loop-text.text-index c.loop-text.left c.args.place c.text-item.result c.loop-text-test.true
    c.text-item.is (omega (arith, c.if-left-bytes.true, ap length c.bytes-bytes.ensures)) c.loop-text.invariant

pub loop-text-preserved : goal.loop-text-preserved
loop-text-preserved c =
    let same = ap length c.bytes-bytes.ensures in
    let next = byte-passed c.args.texts.now c.loop-text.text-index c.loop-text.left c.args.place c.text-item.result c.loop-text-test.true
    c.text-item.is (omega (arith, c.if-left-bytes.false, same)) c.loop-text.invariant in
    rw same next
