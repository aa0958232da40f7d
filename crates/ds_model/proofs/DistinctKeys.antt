-- What writes leave are entities with distinct keys: none of two has the other's key, and each is found by its key.
use Rattle.std.proofs.Common.{◌≡◌, List, [], ◌∷◌, ◌++◌, refl, ap, ◌∙◌, Bool, true, false, cond, not, Some}
use Rattle.std.specs.Prelude.{filter, fold, ⊤}
use Rattle.std.specs.Cmp.{tied_itself}
use Rattle.std.specs.declared.cmp.Ordering.{Ordering}
use Rattle.std.specs.declared.cmp.Ordering.TheVariants.{Less, Equal, Greater}
use Rattle.std.specs.Ordering.{is_eq, ordering_reverse, match_ordering}
use Rattle.ds_base.specs.Keys.{KeyParts}
use Rattle.ds_base.specs.KeyOrder.{key_cmp, same_key}
use Rattle.ds_base.specs.KeyOrderLaws.{key_cmp-total}
use Rattle.ds_entity.specs.Entities.{EntityParts}
use Rattle.ds_base.specs.Sorting.{insert_by}
use Rattle.ds_log.specs.declared.Write.{Write}
use Rattle.ds_log.specs.declared.Write.TheVariants.{Put, Delete}
use Rattle.ds_log.specs.After.{after, apply_write, without}
use Rattle.ds_model.specs.Results.{entity_of}
use Rattle.ds_model.specs.ByKey.{entity_cmp, sorted_by_key, NoneAt, KeysDiffer}

pub same_key-itself : (k : KeyParts) → same_key k k ≡ true
same_key-itself k = ap is_eq (tied_itself key_cmp-total k)

reversed : (r : Ordering) → is_eq (ordering_reverse r) ≡ is_eq r
reversed Less = refl
reversed Equal = refl
reversed Greater = refl

pub same_key-turned : (x y : KeyParts) → same_key y x ≡ same_key x y
same_key-turned x y = ap is_eq (key_cmp-total.antisymm y x) ∙ reversed (key_cmp x y)

-- ---- distinct keys

-- none of the first has the key of one of the second
abbrev pub AreApart : List EntityParts → List EntityParts → Type 0
AreApart before [] = ⊤
AreApart before (e ∷ es) = NoneAt e.key before × AreApart before es

NoneAt-filter : (p : EntityParts → Bool) (k : KeyParts) (es : List EntityParts) → NoneAt k es → NoneAt k (filter p es)
NoneAt-filter p k [] none = tt
NoneAt-filter p k (e ∷ es) none = by (NoneAt-filter p k es none.1) (p e) where
  by : NoneAt k (filter p es) → (b : Bool) → NoneAt k (cond b (e ∷ filter p es) (filter p es))
  by rest true = (none.0, rest)
  by rest false = rest

pub KeysDiffer-filter : (p : EntityParts → Bool) (es : List EntityParts) → KeysDiffer es → KeysDiffer (filter p es)
KeysDiffer-filter p [] differ = tt
KeysDiffer-filter p (e ∷ es) differ = by (KeysDiffer-filter p es differ.1) (p e) where
  by : KeysDiffer (filter p es) → (b : Bool) → KeysDiffer (cond b (e ∷ filter p es) (filter p es))
  by rest true = (NoneAt-filter p e.key es differ.0, rest)
  by rest false = rest

pub NoneAt-push : (k : KeyParts) (es : List EntityParts) (e : EntityParts) → NoneAt k es → same_key e.key k ≡ false
    → NoneAt k (es ++ e ∷ [])
NoneAt-push k [] e none other = (other, tt)
NoneAt-push k (f ∷ es) e none other = (none.0, NoneAt-push k es e none.1 other)

KeysDiffer-push : (es : List EntityParts) (e : EntityParts) → KeysDiffer es → NoneAt e.key es → KeysDiffer (es ++ e ∷ [])
KeysDiffer-push [] e differ none = (tt, tt)
KeysDiffer-push (f ∷ es) e differ none =
    (NoneAt-push f.key es e differ.0 (same_key-turned f.key e.key ∙ none.0), KeysDiffer-push es e differ.1 none.1)

NoneAt-without : (k : KeyParts) (es : List EntityParts) → NoneAt k (without k es)
NoneAt-without k [] = tt
NoneAt-without k (e ∷ es) = by (NoneAt-without k es) (same_key e.key k) refl where
  by : NoneAt k (without k es) → (b : Bool) → same_key e.key k ≡ b → NoneAt k (cond (not b) (e ∷ without k es) (without k es))
  by rest true is = rest
  by rest false is = (is, rest)

written : (es : List EntityParts) (w : Write) → KeysDiffer es → KeysDiffer (apply_write es w)
written es (Put e) differ =
    KeysDiffer-push (without e.key es) e (KeysDiffer-filter (λ x. not (same_key x.key e.key)) es differ) (NoneAt-without e.key es)
written es (Delete k) differ = KeysDiffer-filter (λ x. not (same_key x.key k)) es differ

all_written : (es : List EntityParts) (ws : List Write) → KeysDiffer es → KeysDiffer (fold apply_write es ws)
all_written es [] differ = differ
all_written es (w ∷ ws) differ = all_written (apply_write es w) ws (written es w differ)

pub KeysDiffer-after : (ws : List Write) → KeysDiffer (after ws)
KeysDiffer-after ws = all_written [] ws tt

-- ---- sorted

NoneAt-insert : (k : KeyParts) (es : List EntityParts) (e : EntityParts) → NoneAt k es → same_key e.key k ≡ false
    → NoneAt k (insert_by entity_cmp es e)
NoneAt-insert k [] e none other = (other, tt)
NoneAt-insert k (f ∷ es) e none other = by (NoneAt-insert k es e none.1 other) (entity_cmp e f) where
  by : NoneAt k (insert_by entity_cmp es e) → (r : Ordering)
      → NoneAt k (match_ordering r (e ∷ f ∷ es) (e ∷ f ∷ es) (f ∷ insert_by entity_cmp es e))
  by rest Less = (other, none)
  by rest Equal = (other, none)
  by rest Greater = (none.0, rest)

KeysDiffer-insert : (es : List EntityParts) (e : EntityParts) → KeysDiffer es → NoneAt e.key es → KeysDiffer (insert_by entity_cmp es e)
KeysDiffer-insert [] e differ none = (tt, tt)
KeysDiffer-insert (f ∷ es) e differ none = by (KeysDiffer-insert es e differ.1 none.1) (entity_cmp e f) where
  by : KeysDiffer (insert_by entity_cmp es e) → (r : Ordering)
      → KeysDiffer (match_ordering r (e ∷ f ∷ es) (e ∷ f ∷ es) (f ∷ insert_by entity_cmp es e))
  by rest Less = (none, differ)
  by rest Equal = (none, differ)
  by rest Greater = (NoneAt-insert f.key es e differ.0 (same_key-turned f.key e.key ∙ none.0), rest)

pub AreApart-insert : (before es : List EntityParts) (e : EntityParts) → AreApart before es → NoneAt e.key es
    → AreApart (insert_by entity_cmp before e) es
AreApart-insert before [] e apart none = tt
AreApart-insert before (f ∷ es) e apart none =
    (NoneAt-insert f.key before e apart.0 (same_key-turned f.key e.key ∙ none.0), AreApart-insert before es e apart.1 none.1)

KeysDiffer-inserted : (before es : List EntityParts) → KeysDiffer before → KeysDiffer es → AreApart before es
    → KeysDiffer (fold (insert_by entity_cmp) before es)
KeysDiffer-inserted before [] first differ apart = first
KeysDiffer-inserted before (e ∷ es) first differ apart =
    KeysDiffer-inserted (insert_by entity_cmp before e) es (KeysDiffer-insert before e first apart.0) differ.1
    (AreApart-insert before es e apart.1 differ.0)

pub AreApart-none : (es : List EntityParts) → AreApart [] es
AreApart-none [] = tt
AreApart-none (e ∷ es) = (tt, AreApart-none es)

pub KeysDiffer-sorted : (es : List EntityParts) → KeysDiffer es → KeysDiffer (sorted_by_key es)
KeysDiffer-sorted es differ = KeysDiffer-inserted [] es tt differ (AreApart-none es)

-- ---- each is found by its key

abbrev pub AreFound : List EntityParts → List EntityParts → Type 0
AreFound all [] = ⊤
AreFound all (e ∷ es) = (entity_of all e.key ≡ Some e) × AreFound all es

found_later : (e : EntityParts) (all es : List EntityParts) → NoneAt e.key es → AreFound all es → AreFound (e ∷ all) es
found_later e all [] none found = tt
found_later e all (f ∷ es) none found =
    (ap (λ b. cond b (Some e) (entity_of all f.key)) (same_key-turned f.key e.key ∙ none.0) ∙ found.0, found_later e all es none.1 found.1)

pub AreFound-all : (es : List EntityParts) → KeysDiffer es → AreFound es es
AreFound-all [] differ = tt
AreFound-all (e ∷ es) differ =
    (ap (λ b. cond b (Some e) (entity_of es e.key)) (same_key-itself e.key), found_later e es es differ.0 (AreFound-all es differ.1))
