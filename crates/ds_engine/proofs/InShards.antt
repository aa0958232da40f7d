-- Where the entities of each shard are of its groups, an entity of all is found by its key in the shard of its group.
use Rattle.std.proofs.Common.{◌≡◌, ℕ, zero, suc, ◌+◌, ◌<◌, List, [], ◌∷◌, length, map, refl, ap, sym, ◌∙◌, arith}
use Rattle.std.proofs.Common.{Bool, true, false, cond, Option, Some, None}
use Rattle.std.specs.Prelude.{slice_get, unwrap_or}
use Rattle.std.specs.Option.{option_or}
use Rattle.std.specs.List.{AllByRecursion}
use Rattle.std.proofs.lemmas.List.Folds.{find-append}
use Rattle.ds_base.specs.declared.column.Column.{Column}
use Rattle.ds_base.specs.Keys.{KeyParts}
use Rattle.ds_base.specs.KeyOrder.{same_key}
use Rattle.ds_entity.specs.Entities.{EntityParts}
use Rattle.ds_bytes.specs.Rows.{RowParts}
use Rattle.ds_query.specs.declared.query.Select.{Select}
use Rattle.ds_query.specs.declared.query.Select.TheVariants as select
use Rattle.ds_model.specs.Results.{entity_of, items_of, item_of}
use Rattle.ds_model.proofs.GroupViews.{same_key-equal}
use Rattle.ds_engine.specs.Searches.{AreOfShards, all_entities, item_in, shard_among, view_of}

-- an option or nothing
or_none : {X : Type 0} (o : Option X) → option_or o None ≡ o
or_none None = refl
or_none (Some x) = refl

module _ (shards : ℕ) (k : KeyParts) where
  -- a shard that isn't the key's has no entity of it
  none_in : (shard : ℕ) (es : List EntityParts) → AllByRecursion (λ (e : EntityParts). shard_among shards e.key ≡ shard) es
      → (shard_among shards k ≡ shard → ⊥) → entity_of es k ≡ None
  none_in shard [] own other = refl
  none_in shard (e ∷ es) own other = by (none_in shard es own.1 other) (same_key e.key k) refl where
    by : entity_of es k ≡ None → (b : Bool) → same_key e.key k ≡ b → cond b (Some e) (entity_of es k) ≡ None
    by rest true same = absurd (other (ap (shard_among shards) (sym (same_key-equal e.key k same)) ∙ own.0))
    by rest false differ = rest

  none_behind : (first : ℕ) (views : List (List EntityParts)) → AreOfShards shards first views → shard_among shards k < first
      → entity_of (all_entities views) k ≡ None
  none_behind first [] own before = refl
  none_behind first (es ∷ views) own before =
      find-append (λ (e : EntityParts). same_key e.key k) es (all_entities views)
      ∙ ap (λ o. option_or o (entity_of (all_entities views) k)) (none_in first es own.0 (λ is. omega (arith, is, before)))
      ∙ none_behind (first + 1) views own.1 (omega (arith, before))

  found_at : (first at : ℕ) (views : List (List EntityParts)) → AreOfShards shards first views → shard_among shards k ≡ first + at
      → entity_of (all_entities views) k ≡ entity_of (unwrap_or (slice_get views at) []) k
  found_at first at [] own is = refl
  found_at first zero (es ∷ views) own is =
      find-append (λ (e : EntityParts). same_key e.key k) es (all_entities views)
      ∙ ap (option_or (entity_of es k)) (none_behind (first + 1) views own.1 (omega (arith, is)))
      ∙ or_none (entity_of es k)
  found_at first (suc at) (es ∷ views) own is =
      find-append (λ (e : EntityParts). same_key e.key k) es (all_entities views)
      ∙ ap (λ o. option_or o (entity_of (all_entities views) k)) (none_in first es own.0 (λ other. omega (arith, is, other)))
      ∙ found_at (first + 1) at views own.1 (omega (arith, is))

-- an entity is found by its key among all
pub entity_in_shard : (views : List (List EntityParts)) (k : KeyParts) → AreOfShards (length views) 0 views
    → entity_of (view_of views k) k ≡ entity_of (all_entities views) k
entity_in_shard views k own = sym (found_at (length views) k 0 (shard_among (length views) k) views own (omega arith))

item_in_shard : (columns : List Column) (selected : Select) (views : List (List EntityParts)) (row : RowParts)
    → AreOfShards (length views) 0 views → item_in columns selected views row ≡ item_of columns selected (all_entities views) row
item_in_shard columns select.Entities views row own =
    ap (λ o. record { key = row.key; entity = o; projected = [] }) (entity_in_shard views row.key own)
item_in_shard columns select.Keys views row own = refl
item_in_shard columns (select.Projection names) views row own = refl

-- what is told of rows by their shards is what is told of them by all
pub items_in_shards : (columns : List Column) (selected : Select) (views : List (List EntityParts)) (rows : List RowParts)
    → AreOfShards (length views) 0 views
    → map (item_in columns selected views) rows ≡ items_of columns selected (all_entities views) rows
items_in_shards columns selected views [] own = refl
items_in_shards columns selected views (row ∷ rows) own =
    (λ i. item_in_shard columns selected views row own i ∷ items_in_shards columns selected views rows own i)
