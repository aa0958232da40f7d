use Rattle.std.proofs.Common.{◌∙◌, ◌++◌, ap, arith}
use Rattle.std.specs.Prelude.{codes}
use Rattle.std.specs.List.{flat_map}
use Rattle.ds_indexdef.specs.Text.{line, def_lines, text_of}
use Rattle.ds_indexdef.proofs.WriteLaws.{pieces-more}
use Rattle.ds_indexdef.proofs.write.write_lines.Goals as goal

pub loop-def-init : goal.loop-def-init
unfolding text_of
loop-def-init c = c.in_ok-write_line.ensures ∙ ap (λ t. t ++ line (codes "indexes:")) c.new-text.ensures

pub loop-def-preserved : goal.loop-def-preserved
unfolding text_of
loop-def-preserved c =
    pieces-more def_lines c.args.defs.now c.loop-def.def-index c.def-item.result (line (codes "indexes:")) c.loop-def.text c.write_def.new.text
    (omega arith) c.def-item.is c.loop-def.invariant c.in_ok-write_def.ensures
