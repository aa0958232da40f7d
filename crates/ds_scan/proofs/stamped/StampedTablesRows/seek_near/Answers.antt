use Rattle.std.proofs.Common.{◌∙◌, option_copied, arith}
use Rattle.ds_scan.proofs.StampedRows as rows
use Rattle.ds_scan.proofs.RowBytes.{passed_are_bytes}
use Rattle.ds_scan.proofs.stamped.StampedTablesRows.seek_near.Goals as goal

pub returns-clause-finds_the_first : goal.returns-clause-finds_the_first
returns-clause-finds_the_first g c =
    let tables = c.self.inside.tables.now in
    rw (← c.self.view_is)
    (c.seek_near.ensures.finds_the_first
    ∙ rows.finds (g.T.Tables.definitions tables) c.self.inside.at (g.T.Tables.versions tables) c.args.at_least.now (option_copied
    c.args.below))

pub returns-clause-steps_bounded : goal.returns-clause-steps_bounded
returns-clause-steps_bounded g c =
    let tables = c.self.inside.tables.now in
    let same = rows.passes (g.T.Tables.definitions tables) c.self.inside.at (g.T.Tables.versions tables) c.args.at_least.now
    (option_copied c.args.below) (option_copied c.seek_near.result) in
    rw (← c.self.view_is) (omega (arith, same, c.seek_near.ensures.steps_bounded))

pub returns-clause-rows_ascend : goal.returns-clause-rows_ascend
returns-clause-rows_ascend g c =
    let tables = c.self.inside.tables.now in
    rw (← c.self.view_is) (rows.rows_ascend (g.T.Tables.definitions tables) c.self.inside.at (g.T.Tables.versions tables))

pub returns-clause-passed_do_not_fall : goal.returns-clause-passed_do_not_fall
returns-clause-passed_do_not_fall g c =
    let tables = c.self.inside.tables.now in
    rw (← c.self.view_is) (rows.passed_do_not_fall (g.T.Tables.definitions tables) c.self.inside.at (g.T.Tables.versions tables))

pub returns-clause-passed_are_bytes : goal.returns-clause-passed_are_bytes
returns-clause-passed_are_bytes g c =
    let tables = c.self.inside.tables.now in
    rw (← c.self.view_is)
    (passed_are_bytes (g.T.Tables.definitions tables) c.self.inside.at (g.T.Tables.versions tables) c.seek_near.ensures.stands.indexable)
