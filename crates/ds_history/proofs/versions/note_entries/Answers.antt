use Rattle.std.proofs.Common.{◌<◌, arith, length}
use Rattle.ds_history.specs.Versions.{versions_in}
use Rattle.ds_history.proofs.VersionLaws.{noted_entry}
use Rattle.ds_history.proofs.versions.note_entries.Goals as goal

pub loop-i-preserved : goal.loop-i-preserved
loop-i-preserved c = λ k.
    let below : c.loop-i.i < length c.args.entries.now = omega arith in
    noted_entry c.args.shard k c.args.entries.now c.loop-i.i c.index-entries-i.result _ c.as_slice.result.now
    (versions_in c.args.kinds.now.entries k) (versions_in c.loop-i.kinds.entries k) (versions_in c.note_writes.new.kinds.entries k) below
    c.index-entries-i.is c.as_slice.ensures (c.loop-i.invariant k) (c.in_ok-note_writes.ensures k)
