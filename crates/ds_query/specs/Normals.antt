-- The normal form of a query, or why it has none.
use Rattle.std.specs.Prelude.{nat_lt, min, length, map, Option, Some, None, Result, Ok, Err, cond}
use Rattle.ds_base.specs.Limits.{most_branches, greatest_told}
use Rattle.ds_query.specs.declared.query.Query.{Query}
use Rattle.ds_query.specs.declared.branch.Normal.{Normal}
use Rattle.ds_query.specs.declared.refusal.Reason.{Reason}
use Rattle.ds_query.specs.declared.refusal.QueryRefused.{QueryRefused}
use Rattle.ds_query.specs.declared.refusal.QueryRefused.TheVariants as refused
use Rattle.ds_query.specs.Filters.{is_several}
use Rattle.ds_query.specs.Reasons.{reason_of}
use Rattle.ds_query.specs.ColumnLists.{merged_of}
use Rattle.ds_query.specs.Branching.{conditions, branch_of}

-- the branches in their order, and the columns that unite their rows
abbrev pub normal_form : Query → Normal
normal_form q = record { branches = map (branch_of q) (conditions q.filters); merged = merged_of q; several = is_several q.filters }

-- at most 30 branches; a greater number is told, up to 2^63 - 1
abbrev pub few_branches : Query → Result Normal QueryRefused
few_branches q =
    cond (nat_lt most_branches (length (conditions q.filters)))
    (Err (refused.TooManySubqueries (min (length (conditions q.filters)) greatest_told)))
    (Ok (normal_form q))

abbrev pub unless_reason : Option Reason → Result Normal QueryRefused → Result Normal QueryRefused
unless_reason (Some reason) rest = Err (refused.Bad reason)
unless_reason None rest = rest

-- the first reason that holds; too many branches; else the normal form
abbrev pub normal_of : Query → Result Normal QueryRefused
normal_of q = unless_reason (reason_of q) (few_branches q)
