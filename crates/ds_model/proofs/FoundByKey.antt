-- Entities of distinct keys are found by them whatever order they stand in, and in a map by key.
use Rattle.std.proofs.Common.{◌≡◌, List, [], ◌∷◌, refl, ap, sym, ◌∙◌, Bool, true, false, cond, map, Some, None, Option}
use Rattle.std.specs.Prelude.{fold}
use Rattle.std.specs.Option.{option_or}
use Rattle.std.specs.declared.cmp.Ordering.{Ordering}
use Rattle.std.specs.declared.cmp.Ordering.TheVariants.{Less, Equal, Greater}
use Rattle.std.specs.Ordering.{match_ordering}
use Rattle.std.specs.BTreeMap.{is_at}
use Rattle.std.specs.Map.{lookup}
use Rattle.ds_base.specs.Keys.{KeyParts}
use Rattle.ds_base.specs.KeyOrder.{key_cmp, same_key}
use Rattle.ds_entity.specs.Entities.{EntityParts}
use Rattle.ds_base.specs.Sorting.{insert_by}
use Rattle.ds_model.specs.Results.{entity_of}
use Rattle.ds_model.proofs.GroupViews.{same_key-equal}
use Rattle.ds_model.specs.ByKey.{entity_cmp, sorted_by_key, keyed, NoneAt, KeysDiffer}
use Rattle.ds_model.proofs.DistinctKeys.{AreApart, AreApart-none, AreApart-insert, same_key-turned}

-- ---- in another order

apart : false ≡ true → ⊥
apart e = cc

-- where none has the key of e, e is found as if it stood in front
found-inserted : (k : KeyParts) (es : List EntityParts) (e : EntityParts) → NoneAt e.key es
    → entity_of (insert_by entity_cmp es e) k ≡ entity_of (e ∷ es) k
found-inserted k [] e none = refl
found-inserted k (f ∷ fs) e none = by (found-inserted k fs e none.1) (entity_cmp e f) where
  swapped : (a b : Bool) → same_key e.key k ≡ a → same_key f.key k ≡ b
      → cond b (Some f) (cond a (Some e) (entity_of fs k)) ≡ cond a (Some e) (cond b (Some f) (entity_of fs k))
  swapped true true at_e at_f =
      absurd (apart (sym none.0 ∙ ap (λ l. same_key f.key l) (same_key-equal e.key k at_e) ∙ at_f))
  swapped true false at_e at_f = refl
  swapped false b at_e at_f = refl

  by : entity_of (insert_by entity_cmp fs e) k ≡ entity_of (e ∷ fs) k → (r : Ordering)
      → entity_of (match_ordering r (e ∷ f ∷ fs) (e ∷ f ∷ fs) (f ∷ insert_by entity_cmp fs e)) k ≡ entity_of (e ∷ f ∷ fs) k
  by later Less = refl
  by later Equal = refl
  by later Greater =
      ap (λ o. cond (same_key f.key k) (Some f) o) later ∙ swapped (same_key e.key k) (same_key f.key k) refl refl

none_found : (k l : KeyParts) (es : List EntityParts) → NoneAt k es → k ≡ l → entity_of es l ≡ None
none_found k l [] none is = refl
none_found k l (e ∷ es) none is =
    ap (λ b. cond b (Some e) (entity_of es l)) (ap (λ q. same_key e.key q) (sym is) ∙ none.0) ∙ none_found k l es none.1 is

found-folded : (k : KeyParts) (before es : List EntityParts) → KeysDiffer es → AreApart before es
    → entity_of (fold (insert_by entity_cmp) before es) k ≡ option_or (entity_of before k) (entity_of es k)
found-folded k before [] differ apart = or_none (entity_of before k) where
  or_none : (o : Option EntityParts) → o ≡ option_or o None
  or_none None = refl
  or_none (Some e) = refl
found-folded k before (e ∷ es) differ apart =
    found-folded k (insert_by entity_cmp before e) es differ.1 (AreApart-insert before es e apart.1 differ.0)
    ∙ ap (λ o. option_or o (entity_of es k)) (found-inserted k before e apart.0)
    ∙ by (same_key e.key k) refl
  where
    by : (b : Bool) → same_key e.key k ≡ b → option_or (cond b (Some e) (entity_of before k)) (entity_of es k)
        ≡ option_or (entity_of before k) (cond b (Some e) (entity_of es k))
    by true same = ap (λ o. option_or o (Some e)) (sym (none_found e.key k before apart.0 (same_key-equal e.key k same)))
    by false other = refl

-- the entity of a key is the same in the order of the keys
pub entity_of-sorted : (es : List EntityParts) (k : KeyParts) → KeysDiffer es → entity_of (sorted_by_key es) k ≡ entity_of es k
entity_of-sorted es k differ = found-folded k [] es differ (AreApart-none es)

-- ---- in a map

-- what a map of entities beside their keys has at a key
pub entity_of-keyed : (es : List EntityParts) (k : KeyParts) → lookup (is_at (key_cmp k)) (map keyed es) ≡ entity_of es k
entity_of-keyed [] k = refl
entity_of-keyed (e ∷ es) k =
    ap (λ b. cond b (Some e) (lookup (is_at (key_cmp k)) (map keyed es))) (same_key-turned e.key k)
    ∙ ap (λ o. cond (same_key e.key k) (Some e) o) (entity_of-keyed es k)
