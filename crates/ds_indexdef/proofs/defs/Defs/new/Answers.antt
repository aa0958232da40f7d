use Rattle.std.proofs.Common.{sym, subst}
use Rattle.ds_indexdef.specs.Definitions.{AreDefs}
use Rattle.ds_indexdef.specs.DefinitionLaws.{AreDefs-none}
use Rattle.ds_indexdef.proofs.defs.Defs.new.Goals as goal

pub invariant_of-result : goal.invariant_of-result
invariant_of-result c = subst AreDefs (sym c.new.ensures) AreDefs-none
