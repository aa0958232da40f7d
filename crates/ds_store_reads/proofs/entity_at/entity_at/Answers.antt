use Rattle.std.proofs.Common.{◌≡◌, ap, subst, ◌∙◌}
use Rattle.std.specs.Prelude.{IfOk, IsTrue}
use Rattle.std.specs.List.{find}
use Rattle.std.specs.Option.{option_copied}
use Rattle.ds_entity.specs.Entities.{EntityParts}
use Rattle.ds_base.specs.KeyOrder.{same_key}
use Rattle.ds_model.specs.ByKey.{left_by}
use Rattle.ds_model.specs.Results.{entity_of}
use Rattle.ds_rows.specs.Versions.{entities_at}
use Rattle.ds_shard.specs.Shards.{ShardParts, keeps, shard_of_entries}
use Rattle.ds_store_reads.proofs.KeptStamps.{kept_from, kept_to}
use Rattle.ds_store_reads.proofs.entity_at.entity_at.Goals as goal

pub returns-clause-found : goal.returns-clause-found
returns-clause-found g c = λ definitions window entries least is.
    let whole = shard_of_entries definitions window entries in
    let stamp = c.args.stamp in
    let stands = c.entries_are_kept.ensures definitions window least entries in
    let kept : IsTrue (keeps whole stamp) = subst (λ (s : ShardParts). IsTrue (keeps s stamp)) is c.requires in
    let at_stamp = stands.entities stamp (kept_from whole stamp kept) (kept_to whole stamp kept) in
    let found : option_copied c.entity.result ≡ entity_of (left_by entries stamp) c.args.key.now =
    c.entity.ensures.finds
    ∙ ap (λ (s : ShardParts). find (λ (e : EntityParts). same_key e.key c.args.key.now) (entities_at stamp s.versions))
    is
    ∙ ap (λ es. find (λ (e : EntityParts). same_key e.key c.args.key.now) es) at_stamp in
    subst (λ o. IfOk c.copy_of.result (λ copied. copied ≡ o)) found c.copy_of.ensures
