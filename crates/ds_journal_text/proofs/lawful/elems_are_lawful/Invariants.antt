use Rattle.std.proofs.Common.{take}
use Rattle.std.specs.Prelude.{All}
use Rattle.ds_bytes.specs.Lawful.{IsLawfulElem}
use Rattle.ds_journal_text.proofs.lawful.elems_are_lawful.Given as goal

abbrev pub invariant-loop-elem : goal.invariant-loop-elem
invariant-loop-elem l = All IsLawfulElem (take l.elem-index l.path)
