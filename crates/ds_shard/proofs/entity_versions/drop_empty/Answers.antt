use Rattle.std.proofs.Common.{sym, ap, ◌∙◌}
use Rattle.std.proofs.lemmas.Bool.{false≢true}
use Rattle.ds_shard.specs.Histories.{in_key_order, joined}
use Rattle.ds_shard.proofs.ByKey.{joined_remove}
use Rattle.ds_shard.proofs.KeyCalls.{kept_by_key, removed_by_key}
use Rattle.ds_shard.proofs.KeyOrdered.{found_in_order, removed_ascends, removed_in_order}
use Rattle.ds_shard.proofs.entity_versions.drop_empty.Goals as goal

pub returns-then-is_empty_at-clause-by_key : goal.returns-then-is_empty_at-clause-by_key
returns-then-is_empty_at-clause-by_key c =
    let es = c.args.map.now.entries in
    removed_by_key c.args.key.now (in_key_order es) c.requires _
    (removed_in_order c.args.key.now es _ c.remove.ensures.updates.0)
    (removed_ascends c.args.key.now es _ c.remove.ensures.updates.0)

pub returns-then-is_empty_at-clause-same : goal.returns-then-is_empty_at-clause-same
returns-then-is_empty_at-clause-same c =
    let es = c.args.map.now.entries in
    ap joined (removed_in_order c.args.key.now es _ c.remove.ensures.updates.0)
    ∙ joined_remove c.args.key.now (in_key_order es)
    (found_in_order c.args.key.now es ∙ c.is_empty_at.ensures.0 c.if-is_empty_at.true)

pub returns-else-is_empty_at-clause-by_key : goal.returns-else-is_empty_at-clause-by_key
returns-else-is_empty_at-clause-by_key c =
    let es = c.args.map.now.entries in
    kept_by_key c.args.key.now (in_key_order es) c.requires
    (λ s. absurd (false≢true (sym c.if-is_empty_at.false ∙ c.is_empty_at.ensures.1 (sym (found_in_order c.args.key.now es) ∙ s))))
