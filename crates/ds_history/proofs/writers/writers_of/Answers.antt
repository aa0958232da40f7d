use Rattle.std.proofs.Common.{◌∙◌, ◌+◌, ◌<◌, ap, arith, length}
use Rattle.ds_log.specs.Conflicts.{writes_group}
use Rattle.ds_history.specs.Writers.{noted_in}
use Rattle.ds_history.proofs.Noting.{before_commit, noted_commit, once}
use Rattle.ds_history.proofs.writers.writers_of.Goals as goal

pub note_writes-requires : goal.note_writes-requires
note_writes-requires c = λ g. before_commit g c.args.journal.now c.loop-i.i (noted_in c.loop-i.writers.entries g) (c.loop-i.invariant g)

pub loop-i-preserved : goal.loop-i-preserved
loop-i-preserved c = λ g.
    let now = noted_in c.loop-i.writers.entries g in
    let below : c.loop-i.i < length c.args.journal.now = omega arith in
    noted_commit g c.args.journal.now c.loop-i.i c.index-journal-i.result _ now (noted_in c.note_writes.new.writers.entries g) below
    c.index-journal-i.is (c.loop-i.invariant g)
    (c.in_ok-note_writes.ensures g ∙ ap (λ ws. once (writes_group g ws) (c.loop-i.i + 1) now) c.as_slice.ensures)
