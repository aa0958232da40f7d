use Rattle.std.proofs.Common.{◌≡◌, take, subst, arith}
use Rattle.std.specs.Prelude.{All}
use Rattle.std.proofs.lemmas.List.{take_all}
use Rattle.std.proofs.lemmas.List.Elements.{All-more}
use Rattle.ds_journal_text.specs.Lawful.{IsLawfulProperty}
use Rattle.ds_journal_text.proofs.lawful.properties_are_lawful.Goals as goal

pub loop-property-preserved : goal.loop-property-preserved
loop-property-preserved c =
    All-more IsLawfulProperty c.args.properties.now c.loop-property.property-index c.property-item.result c.loop-property-test.true c.loop-property.invariant (subst IsLawfulProperty c.property-item.is c.property_is_lawful.ensures)

pub returns : goal.returns
returns c =
    let all : take c.loop-property.property-index c.args.properties.now ≡ c.args.properties.now = take_all c.loop-property.property-index c.args.properties.now (omega arith) in
    subst (All IsLawfulProperty) all c.loop-property.invariant
