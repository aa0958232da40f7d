use Rattle.std.proofs.Common.{length}
use Rattle.serde_json.specs.Data.{Members}
use Rattle.ds_line_reading.proofs.PartLaws.{ObjectSoFar}
use Rattle.ds_line_reading.proofs.objects.fill_members.Given as goal

abbrev pub invariant-members : goal.invariant-members
invariant-members g l = (ms : Members) × ObjectSoFar l.depth l.initial.reader l.reader ms × g.T.Table.holds l.table ms

abbrev pub decreases-members : goal.decreases-members
decreases-members g l = length l.reader
