-- What stands of a query that is handed down to the scans.
use Rattle.ds_query.specs.Lawful.{IsLawfulNormal, SuitsSeveral}
use Rattle.ds_engine.specs.declared.planned.PlannedQuery.{PlannedQuery}
use Rattle.ds_engine.specs.Plans.{ArePlansFor}

-- The query is one that a normal form gives; where it has several branches its page begins and ends at no place; and each branch has a
-- plan that answers it under the definitions and has no scan too many.
pub record IsPlanned (q : PlannedQuery) : Type 0 where
  pub lawful : IsLawfulNormal q.normal.now
  pub placeless : SuitsSeveral q.normal.now.several q.window.now
  pub plans : ArePlansFor q.defs.now q.normal.now.branches q.plans.now
