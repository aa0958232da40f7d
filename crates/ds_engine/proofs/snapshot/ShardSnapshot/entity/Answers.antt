use Rattle.std.proofs.Common.{◌∙◌}
use Rattle.ds_model.specs.Results.{entity_of}
use Rattle.ds_rows.specs.Versions.{entities_at}
use Rattle.ds_branch.proofs.OkLaws.{ok_then}
use Rattle.ds_engine.proofs.snapshot.ShardSnapshot.entity.Goals as goal

pub returns-clause-found : goal.returns-clause-found
returns-clause-found g c =
    ok_then c.copy_of.result c.copy_of.ensures
    (λ found is. is ∙ c.entity.ensures.finds
    ∙ (λ i. entity_of (entities_at ((c.self.view_is i).stamp) ((c.tables-tables.ensures i).versions)) c.args.key.now))
