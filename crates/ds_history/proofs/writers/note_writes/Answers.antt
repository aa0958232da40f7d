use Rattle.std.proofs.Common.{◌∙◌, ◌<◌, ap, arith, cond, length}
use Rattle.ds_base.specs.KeyOrder.{same_key}
use Rattle.ds_base.specs.Keys.{root_of}
use Rattle.ds_history.specs.Writers.{noted_in, with_number}
use Rattle.ds_history.proofs.Noting.{noted_write}
use Rattle.ds_history.proofs.writers.note_writes.Goals as goal

pub loop-write-preserved : goal.loop-write-preserved
loop-write-preserved c = λ g.
    let now = noted_in c.loop-write.writers.entries g in
    let below : c.loop-write.write-index < length c.args.writes.now = omega arith in
    noted_write g c.args.writes.now c.loop-write.write-index c.write-item.result _ c.args.number (noted_in c.args.writers.now.entries g) now
    (noted_in c.note.new.writers.entries g) below c.write-item.is (c.requires g) (c.loop-write.invariant g)
    (c.in_ok-note.ensures g
    ∙ ap (λ k. cond (same_key k g) (with_number c.args.number now) now) (c.in_ok-group.ensures ∙ ap root_of c.key.ensures))
