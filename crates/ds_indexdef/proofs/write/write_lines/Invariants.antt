use Rattle.std.proofs.Common.{◌≡◌, take}
use Rattle.ds_indexdef.specs.Text.{text_of}
use Rattle.ds_indexdef.proofs.write.write_lines.Given as goal

abbrev pub invariant-loop-def : goal.invariant-loop-def
invariant-loop-def l = l.text ≡ text_of (take l.def-index l.defs)
