use Rattle.std.proofs.Common.{◌∙◌}
use Rattle.ds_branch.proofs.OkLaws.{ok_then}
use Rattle.ds_engine.proofs.RowLoops.{extended-rows}
use Rattle.ds_engine.proofs.rows.in_columns.Goals as goal

pub returns-then-normal-clause-rows : goal.returns-then-normal-clause-rows
returns-then-normal-clause-rows c =
    λ parts are. ok_then c.extended.result c.extended.ensures.rows
    (λ all is. is ∙ extended-rows c.args.normal.now c.args.branch.now parts c.args.rows c.if-normal.true are)
