use Rattle.std.proofs.Common.{sym, subst}
use Rattle.ds_rows.specs.Versions.{AreTables}
use Rattle.ds_table.specs.Seen.{Seen}
use Rattle.ds_shard.specs.Shards.{ShardParts}
use Rattle.ds_shard.specs.Contents.{HaveSame}
use Rattle.ds_shard.specs.Rows.{rows_of_versions}
use Rattle.ds_shard.proofs.Absorbing.{tables_stand, all_rows}
use Rattle.ds_shard.proofs.shard.Shard.view.Goals as goal

pub returns-clause-tables : goal.returns-clause-tables
returns-clause-tables c =
    let in_it = c.self.inside in
    subst (λ (s : ShardParts). AreTables s.definitions c.args.stamp s.versions) c.self.view_is
    (tables_stand in_it.window in_it.count in_it.contents c.self.invariant c.args.stamp)

pub returns-clause-rows : goal.returns-clause-rows
returns-clause-rows c =
    let in_it = c.self.inside in
    subst (λ (s : ShardParts). HaveSame c.view.result.versions (rows_of_versions s.definitions s.versions)) c.self.view_is
    (subst (λ (v : Seen). HaveSame v.versions (rows_of_versions in_it.contents.definitions in_it.contents.entities)) (sym c.view.ensures)
    (all_rows in_it.window in_it.count in_it.contents c.self.invariant))
