use Rattle.std.proofs.Common.{take}
use Rattle.std.specs.Prelude.{All}
use Rattle.ds_journal_text.specs.Lawful.{IsLawfulProperty}
use Rattle.ds_journal_text.proofs.lawful.properties_are_lawful.Given as goal

abbrev pub invariant-loop-property : goal.invariant-loop-property
invariant-loop-property l = All IsLawfulProperty (take l.property-index l.properties)
