use Rattle.std.proofs.Common.{◌∙◌, ◌++◌, ap}
use Rattle.ds_load.specs.Input.{line_of, put_text}
use Rattle.ds_load.proofs.WritingLaws.{one_put}
use Rattle.ds_load.proofs.writing.write_load.Goals as goal

pub loop-i-preserved : goal.loop-i-preserved
loop-i-preserved c =
    one_put c.loop-i.i c.loop-i.text.bytes c.append_put.new.text.bytes c.loop-i.invariant
    (c.in_ok-append_put.ensures ∙ ap (λ k. c.loop-i.text.bytes ++ line_of (put_text k)) c.from.ensures)
