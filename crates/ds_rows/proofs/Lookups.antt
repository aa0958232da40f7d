-- A property found by its name, among names that strictly ascend.
use Rattle.std.proofs.Common.{◌≡◌, ℕ, zero, suc, ◌+◌, ◌<◌, ◌≤◌, Bool, true, false, cond, List, [], ◌∷◌, length, get_or, refl, ap}
use Rattle.std.proofs.Common.{sym, ◌∙◌, arith, Option, Some, None, IsTrue, bytes_eq, map, inl, inr}
use Rattle.std.specs.Prelude.{find}
use Rattle.std.specs.Ordering.{is_lt, ordering_reverse}
use Rattle.std.specs.declared.cmp.Ordering.{Ordering}
use Rattle.std.specs.declared.cmp.Ordering.TheVariants.{Less, Equal, Greater}
use Rattle.std.specs.Cmp.{tied_itself}
use Rattle.std.specs.Cmp.Lexicographic.{nat_list_cmp_total}
use Rattle.std.specs.List.Sorted.{IsSortedBy}
use Rattle.std.specs.Option.{option_map_or}
use Rattle.std.proofs.lemmas.List.{get_or-map}
use Rattle.std.proofs.lemmas.Bool.{and_parts, false_from_ne_true, cases_lt}
use Rattle.std.proofs.lemmas.Slice.Eq.{bytes_eq-Decides}
use Rattle.ds_entity.specs.declared.entity.Property.{Property}
use Rattle.ds_base.specs.KeyOrder.{bytes_cmp}
use Rattle.ds_base.specs.KeyOrderLaws.{bytes_cmp-same}
use Rattle.ds_entity.specs.Entities.{EntityParts, names_ascend}
use Rattle.ds_base.specs.declared.index_value.IndexValue.{IndexValue}
use Rattle.ds_rows.specs.IndexedValues.{property_values, value_count, indexed_values}

less_from : (r : Ordering) → IsTrue (is_lt r) → r ≡ Less
less_from Less t = refl
less_from Equal t = absurd (apart t) where
  apart : false ≡ true → ⊥
  apart e = cc
less_from Greater t = absurd (apart t) where
  apart : false ≡ true → ⊥
  apart e = cc

pub tail_ascends : (p : Property) (ps : List Property) → IsTrue (names_ascend (p ∷ ps)) → IsTrue (names_ascend ps)
tail_ascends p [] t = refl
tail_ascends p (q ∷ qs) t = (and_parts (is_lt (bytes_cmp p.name q.name)) (names_ascend (q ∷ qs)) t).1

-- the first name is below each other
pub first_is_below : (p : Property) (ps : List Property) → IsTrue (names_ascend (p ∷ ps)) → (k : ℕ) (d : Property) → k < length ps
    → bytes_cmp p.name (get_or ps k d).name ≡ Less
first_is_below p [] t k d within = absurd (omega arith)
first_is_below p (q ∷ qs) t zero d within = less_from (bytes_cmp p.name q.name) (and_parts (is_lt (bytes_cmp p.name q.name)) (names_ascend
    (q ∷ qs)) t).0
first_is_below p (q ∷ qs) t (suc k) d within =
    let both = and_parts (is_lt (bytes_cmp p.name q.name)) (names_ascend (q ∷ qs)) t in
    nat_list_cmp_total.trans p.name q.name (get_or qs k d).name (less_from (bytes_cmp p.name q.name) both.0)
    (first_is_below q qs both.1 k d (omega arith))

-- texts that don't tie are different
differ : (s t : List ℕ) (r : Ordering) → bytes_cmp s t ≡ r → (r ≡ Equal → ⊥) → s ≡ t → ⊥
differ s t r is not_tied same =
    not_tied (sym is ∙ ap (λ (u : List ℕ). bytes_cmp u t) same ∙ tied_itself nat_list_cmp_total t)

less_apart : Less ≡ Equal → ⊥
less_apart e = cc

greater_apart : Greater ≡ Equal → ⊥
greater_apart e = cc

-- so no other property has it
pub names_differ : (p : Property) (ps : List Property) → IsTrue (names_ascend (p ∷ ps)) → (k : ℕ) (d : Property) → k < length ps
    → p.name ≡ (get_or ps k d).name → ⊥
names_differ p ps t k d within = differ p.name (get_or ps k d).name Less (first_is_below p ps t k d within) less_apart

not_named : (s t : List ℕ) → (s ≡ t → ⊥) → bytes_eq s t ≡ false
not_named s t differ = false_from_ne_true (bytes_eq s t) (λ same. differ ((bytes_eq-Decides s t).0 same))

-- the property at a place is the one that is found by its name
pub found_at : (ps : List Property) → IsTrue (names_ascend ps) → (k : ℕ) (d : Property) (name : List ℕ) → k < length ps
    → (get_or ps k d).name ≡ name → find (λ p. bytes_eq p.name name) ps ≡ Some (get_or ps k d)
found_at [] t k d name within is = absurd (omega arith)
found_at (p ∷ ps) t zero d name within is = ap (λ (b : Bool). cond b (Some p) (find (λ p. bytes_eq p.name name) ps))
    ((bytes_eq-Decides p.name name).1 is)
found_at (p ∷ ps) t (suc k) d name within is =
    let below = first_is_below p ps t k d (omega arith) in
    let other : bytes_eq p.name name
    ≡ false = not_named p.name name (λ same. differ p.name (get_or ps k d).name Less below less_apart (same ∙ sym is)) in
    ap (λ (b : Bool). cond b (Some p) (find (λ p. bytes_eq p.name name) ps)) other
    ∙ found_at ps (tail_ascends p ps t) k d name (omega arith) is

-- none is found where none has the name
pub found_nowhere : (ps : List Property) (name : List ℕ) → ((k : ℕ) (d : Property) → k < length ps → (get_or ps k d).name ≡ name → ⊥)
    → find (λ p. bytes_eq p.name name) ps ≡ None
found_nowhere [] name none = refl
found_nowhere (p ∷ ps) name none =
    ap (λ (b : Bool). cond b (Some p) (find (λ p. bytes_eq p.name name) ps)) (not_named p.name name (λ same. none 0 p (omega arith) same))
    ∙ found_nowhere ps name (λ k d within same. none (suc k) d (omega arith) same)

-- ascending names are sorted
pub names_sorted : (ps : List Property) → IsTrue (names_ascend ps) → IsSortedBy (λ p q. is_lt (bytes_cmp p.name q.name)) ps
names_sorted [] t k d low within = absurd (omega arith)
names_sorted (p ∷ []) t k d low within = absurd (omega arith)
names_sorted (p ∷ q ∷ qs) t zero d low within =
    ap is_lt (nat_list_cmp_total.antisymm q.name p.name ∙ ap ordering_reverse (first_is_below p (q ∷ qs) t 0 d (omega arith)))
names_sorted (p ∷ q ∷ qs) t (suc k) d low within =
    let next : suc k + 1 ≡ suc (k + 1) = omega arith in
    ap (λ i. is_lt (bytes_cmp (get_or (p ∷ q ∷ qs) i d).name (get_or (q ∷ qs) k d).name)) next
    ∙ names_sorted (q ∷ qs) (tail_ascends p (q ∷ qs) t) k d (omega arith) (omega arith)

-- the values of the property at a place are those that are found by its name
pub named_at : (ps : List Property) (lists : List (List IndexValue)) (k : ℕ) (name : List ℕ) (values : List IndexValue)
    → IsTrue (names_ascend ps)
    → lists ≡ map property_values ps → k < length ps → ((d : Property) → bytes_cmp (get_or ps k d).name name ≡ Equal) → values
    ≡ get_or lists k values
    → (e : EntityParts) → e.properties ≡ ps → values ≡ indexed_values e name
named_at [] lists k name values t of_each within named is e same = absurd (omega arith)
named_at (p ∷ ps) lists k name values t of_each within named is e same =
    let found = found_at (p ∷ ps) t k p name within (bytes_cmp-same (get_or (p ∷ ps) k p).name name (named p)) in
    is ∙ ap (λ (ls : List (List IndexValue)). get_or ls k values) of_each ∙ get_or-map property_values (p ∷ ps) k p values within
    ∙ ap (λ (o : Option Property). option_map_or property_values o []) (sym found)
    ∙ ap (λ (qs : List Property). option_map_or property_values (find (λ q. bytes_eq q.name name) qs) []) (sym same)

-- and so many are they
pub counted_at : (ps : List Property) (counts : List ℕ) (k : ℕ) (name : List ℕ) (d : ℕ) → IsTrue (names_ascend ps)
    → counts ≡ map value_count ps → k < length ps → ((d : Property) → bytes_cmp (get_or ps k d).name name ≡ Equal)
    → (e : EntityParts) → e.properties ≡ ps → get_or counts k d ≡ length (indexed_values e name)
counted_at [] counts k name d t of_each within named e same = absurd (omega arith)
counted_at (p ∷ ps) counts k name d t of_each within named e same =
    let values : List IndexValue = property_values (get_or (p ∷ ps) k p) in
    ap (λ (ns : List ℕ). get_or ns k d) of_each ∙ get_or-map value_count (p ∷ ps) k p d within
    ∙ ap length (named_at (p ∷ ps) (map property_values (p ∷ ps)) k name values t refl within named
    (sym (get_or-map property_values (p ∷ ps) k p values within)) e same)

-- no value is found by a name that stands between those of two neighbours
pub named_nowhere : (ps : List Property) (i : ℕ) (name : List ℕ)
    → ((k : ℕ) (d : Property) → 0 ≤ k → k < i → bytes_cmp (get_or ps k d).name name ≡ Less)
    → ((k : ℕ) (d : Property) → i ≤ k → k < length ps → bytes_cmp (get_or ps k d).name name ≡ Greater)
    → (e : EntityParts) → e.properties ≡ ps → [] ≡ indexed_values e name
named_nowhere ps i name below above e same =
    ap (λ (o : Option Property). option_map_or property_values o []) (sym (found_nowhere ps name (λ k d within named. elim (cases_lt k i) [
      | inl low ↦ differ (get_or ps k d).name name Less (below k d (omega arith) low) less_apart named
      | inr high ↦ differ (get_or ps k d).name name Greater (above k d high within) greater_apart named
    ])))
    ∙ ap (λ (qs : List Property). option_map_or property_values (find (λ q. bytes_eq q.name name) qs) []) (sym same)
