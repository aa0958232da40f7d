use Rattle.std.proofs.Common.{length}
use Rattle.ds_request.proofs.PropertiesLaws.{PropertiesSoFar}
use Rattle.ds_request.proofs.common.entities.add_properties.Given as goal

abbrev pub invariant-properties : goal.invariant-properties
invariant-properties l = PropertiesSoFar l.depth l.initial.reader l.reader l.last l.found.items

abbrev pub decreases-properties : goal.decreases-properties
decreases-properties l = length l.reader
