use Rattle.ds_indexdef.specs.DefinitionLaws.{same_def-decides}
use Rattle.ds_indexdef.proofs.IndexDefPartialEq.eq.Goals as goal

pub returns-clause-same : goal.returns-clause-same
returns-clause-same c = rw c.compare_defs.ensures (same_def-decides _ _)
