use Rattle.std.proofs.Common.{take}
use Rattle.std.specs.Prelude.{All}
use Rattle.ds_journal_text.specs.Lawful.{IsLawfulValue}
use Rattle.ds_journal_text.proofs.lawful.values_are_lawful.Given as goal

abbrev pub invariant-loop-value : goal.invariant-loop-value
invariant-loop-value l = All IsLawfulValue (take l.value-index l.values)
