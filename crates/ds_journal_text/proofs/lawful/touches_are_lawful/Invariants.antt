use Rattle.std.proofs.Common.{take}
use Rattle.std.specs.Prelude.{All}
use Rattle.ds_journal_text.specs.Lawful.{IsLawfulTouch}
use Rattle.ds_journal_text.proofs.lawful.touches_are_lawful.Given as goal

abbrev pub invariant-loop-touch : goal.invariant-loop-touch
invariant-loop-touch l = All IsLawfulTouch (take l.touch-index l.touches)
