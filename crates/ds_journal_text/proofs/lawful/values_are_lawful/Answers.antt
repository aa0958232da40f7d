use Rattle.std.proofs.Common.{◌≡◌, take, subst, arith}
use Rattle.std.specs.Prelude.{All}
use Rattle.std.proofs.lemmas.List.{take_all}
use Rattle.std.proofs.lemmas.List.Elements.{All-more}
use Rattle.ds_journal_text.specs.Lawful.{IsLawfulValue}
use Rattle.ds_journal_text.proofs.lawful.values_are_lawful.Goals as goal

pub loop-value-preserved : goal.loop-value-preserved
loop-value-preserved c =
    All-more IsLawfulValue c.args.values.now c.loop-value.value-index c.value-item.result c.loop-value-test.true c.loop-value.invariant (subst IsLawfulValue c.value-item.is c.value_is_lawful.ensures)

pub returns : goal.returns
returns c =
    let all : take c.loop-value.value-index c.args.values.now ≡ c.args.values.now = take_all c.loop-value.value-index c.args.values.now (omega arith) in
    subst (All IsLawfulValue) all c.loop-value.invariant
