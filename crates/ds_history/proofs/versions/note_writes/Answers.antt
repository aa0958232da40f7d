use Rattle.std.proofs.Common.{◌<◌, arith, length}
use Rattle.ds_history.specs.Versions.{versions_in}
use Rattle.ds_history.proofs.VersionLaws.{noted_write}
use Rattle.ds_history.proofs.versions.note_writes.Goals as goal

pub loop-write-preserved : goal.loop-write-preserved
loop-write-preserved c = λ k.
    let below : c.loop-write.write-index < length c.args.writes.now = omega arith in
    noted_write c.args.shard c.args.entry k c.args.writes.now c.loop-write.write-index c.write-item.result _ c.key.result.now
    c.in_ok-left.left (versions_in c.args.kinds.now.entries k) (versions_in c.loop-write.kinds.entries k)
    (versions_in c.note.new.kinds.entries k) below c.write-item.is c.key.ensures c.in_ok-left.ensures (c.loop-write.invariant k)
    (c.in_ok-note.ensures k)
