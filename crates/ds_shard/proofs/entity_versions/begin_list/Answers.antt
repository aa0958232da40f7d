use Rattle.std.proofs.Common.{List, [], ◌∷◌, ◌++◌, None, refl, sym, ap, ◌∙◌}
use Rattle.ds_rows.specs.Versions.{Version}
use Rattle.ds_shard.specs.Histories.{in_key_order}
use Rattle.ds_shard.proofs.KeyCalls.{made_is, made_by_key}
use Rattle.ds_shard.proofs.KeyOrdered.{found_in_order, inserted_ascends, inserted_in_order}
use Rattle.ds_shard.proofs.entity_versions.begin_list.Goals as goal

pub returns-clause-by_key : goal.returns-clause-by_key
returns-clause-by_key c =
    let v : Version = record { entity = c.args.entity.now; from = c.args.stamp; until = None } in
    let k = c.in_ok-key.key in
    let es = c.args.map.now.entries in
    made_by_key v k (c.in_ok-key.ensures.copied ∙ c.key.ensures.value) (in_key_order es) _ c.begin.new.self c.requires.by_key
    (found_in_order v.entity.key es ∙ c.requires.none)
    (c.in_ok-begin.ensures.begun ∙ ap (λ (vs : List Version). vs ++ v ∷ []) c.new-list.ensures)
    (inserted_in_order k es _ c.begin.new.self c.in_ok-insert.ensures.updates.0) refl
    (inserted_ascends k es _ c.begin.new.self c.in_ok-insert.ensures.updates.0)

pub returns-clause-begun : goal.returns-clause-begun
returns-clause-begun c =
    let v : Version = record { entity = c.args.entity.now; from = c.args.stamp; until = None } in
    let k = c.in_ok-key.key in
    let es = c.args.map.now.entries in
    made_is v k (c.in_ok-key.ensures.copied ∙ c.key.ensures.value) (in_key_order es) _ c.begin.new.self c.requires.by_key
    (found_in_order v.entity.key es ∙ c.requires.none)
    (c.in_ok-begin.ensures.begun ∙ ap (λ (vs : List Version). vs ++ v ∷ []) c.new-list.ensures)
    (inserted_in_order k es _ c.begin.new.self c.in_ok-insert.ensures.updates.0)
