use Rattle.std.proofs.Common.{◌≡◌, take, subst, arith}
use Rattle.std.specs.Prelude.{All}
use Rattle.std.proofs.lemmas.List.{take_all}
use Rattle.std.proofs.lemmas.List.Elements.{All-more}
use Rattle.ds_journal_text.specs.Lawful.{IsLawfulTouch}
use Rattle.ds_journal_text.proofs.lawful.touches_are_lawful.Goals as goal

pub loop-touch-preserved : goal.loop-touch-preserved
loop-touch-preserved c =
    All-more IsLawfulTouch c.args.touches.now c.loop-touch.touch-index c.touch-item.result c.loop-touch-test.true c.loop-touch.invariant (subst IsLawfulTouch c.touch-item.is c.touch_is_lawful.ensures)

pub returns : goal.returns
returns c =
    let all : take c.loop-touch.touch-index c.args.touches.now ≡ c.args.touches.now = take_all c.loop-touch.touch-index c.args.touches.now (omega arith) in
    subst (All IsLawfulTouch) all c.loop-touch.invariant
