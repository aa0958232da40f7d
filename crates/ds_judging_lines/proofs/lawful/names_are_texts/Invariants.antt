use Rattle.std.proofs.Common.{take}
use Rattle.std.specs.Prelude.{All, IsUtf8}
use Rattle.ds_judging_lines.proofs.lawful.names_are_texts.Given as goal

abbrev pub invariant-loop-name : goal.invariant-loop-name
invariant-loop-name l = All IsUtf8 (take l.name-index l.names)
