use Rattle.std.proofs.Common.{◌≡◌, take, subst, arith}
use Rattle.std.specs.Prelude.{All}
use Rattle.std.proofs.lemmas.List.{take_all}
use Rattle.std.proofs.lemmas.List.Elements.{All-more}
use Rattle.ds_bytes.specs.Lawful.{IsLawfulElem}
use Rattle.ds_journal_text.proofs.lawful.elems_are_lawful.Goals as goal

pub loop-elem-preserved : goal.loop-elem-preserved
loop-elem-preserved c =
    All-more IsLawfulElem c.args.path.now c.loop-elem.elem-index c.elem-item.result c.loop-elem-test.true c.loop-elem.invariant (subst IsLawfulElem c.elem-item.is c.elem_is_lawful.ensures)

pub returns : goal.returns
returns c =
    let all : take c.loop-elem.elem-index c.args.path.now ≡ c.args.path.now = take_all c.loop-elem.elem-index c.args.path.now (omega arith) in
    subst (All IsLawfulElem) all c.loop-elem.invariant
