-- Entities with different keys share no row.
use Rattle.std.proofs.Common.{◌≡◌, ℕ, Bool, true, false, List, [], ◌∷◌, get_or, refl, sym, ap, ◌∙◌}
use Rattle.std.specs.Prelude.{All, ◌||◌, bytes_eq}
use Rattle.std.specs.List.{list_any}
use Rattle.std.proofs.lemmas.List.Elements.{All-head, All-tail}
use Rattle.std.proofs.lemmas.Slice.Eq.{bytes_eq-Decides}
use Rattle.ds_base.specs.Keys.{KeyParts}
use Rattle.ds_base.specs.KeyOrder.{same_key}
use Rattle.ds_base.specs.KeyOrderLaws.{same_key-decides}
use Rattle.ds_entity.specs.Entities.{EntityParts}
use Rattle.ds_indexdef.specs.declared.IndexDef.{IndexDef}
use Rattle.ds_indexdef.specs.Definitions.{AreDefs}
use Rattle.ds_rows.specs.Indexable.{IsIndexable}
use Rattle.ds_rows.specs.Indexes.{RowIndex, indexes_of}
use Rattle.ds_rows.specs.Rows.{IndexRow, index_rows, index_row_bytes, rows_in, rows_of}
use Rattle.ds_rows.specs.Laws.{IsRowOf}
use Rattle.ds_rows.specs.OwnRowLaws.{each_map, each_flat, rows_are_own}
use Rattle.ds_rows.specs.RowLaws.{rows_apart}
use Rattle.std.specs.List.{AllByRecursion as Each}

-- ---- rows as bytes

pub other_row : (x y : List ℕ) → (x ≡ y → ⊥) → bytes_eq x y ≡ false
other_row x y n = by (bytes_eq x y) refl where
  by : (b : Bool) → b ≡ bytes_eq x y → bytes_eq x y ≡ false
  by true e = absurd (n ((bytes_eq-Decides x y).0 (sym e)))
  by false e = sym e

pub same_row : (x y : List ℕ) → x ≡ y → bytes_eq x y ≡ true
same_row x y e = (bytes_eq-Decides x y).1 e

pub each_all : {X : Type 0} (P : X → Type 0) (xs : List X) → All P xs → Each P xs
each_all P [] all = tt
each_all P (x ∷ xs) all = (All-head P x xs all, each_all P xs (All-tail P x xs all))

pub each_more : {X : Type 0} (P Q : X → Type 0) (xs : List X) → ((x : X) → P x → Q x) → Each P xs → Each Q xs
each_more P Q [] f h = tt
each_more P Q (x ∷ xs) f h = (f x h.0, each_more P Q xs f h.1)

-- the bytes of a row of an entity with this key
record IsRowBytes (defs : List IndexDef) (k : KeyParts) (x : List ℕ) : Type 0 where
  index : RowIndex
  row : IndexRow
  of : IsRowOf defs index row
  key : row.parts.key ≡ k
  bytes : index_row_bytes index row ≡ x

with_bytes : (defs : List IndexDef) (k : KeyParts) (i : RowIndex) (r : IndexRow) → IsRowOf defs i r × (r.parts.key ≡ k)
    → IsRowBytes defs k (index_row_bytes i r)
with_bytes defs k i r h = record { index = i; row = r; of = h.0; key = h.1; bytes = refl }

own_bytes : (defs : List IndexDef) (e : EntityParts) → IsIndexable e → All (IsRowBytes defs e.key) (rows_of defs e)
own_bytes defs e h =
    each_flat (IsRowBytes defs e.key) (rows_in e) (indexes_of defs e)
    (λ k i below. each_map (IsRowBytes defs e.key) (index_row_bytes (get_or (indexes_of defs e) k i)) (index_rows e (get_or (indexes_of defs e) k i))
    (λ l r within. with_bytes defs e.key (get_or (indexes_of defs e) k i) (get_or (index_rows e (get_or (indexes_of defs e) k i)) l r)
    (rows_are_own defs e h k i below l r within)))

-- no row of the one entity is this one
abbrev pub NotAmong : List (List ℕ) → List ℕ → Type 0
NotAmong rows x = Each (λ y. x ≡ y → ⊥) rows

true_not_false : true ≡ false → ⊥
true_not_false e = cc

module _ (defs : List IndexDef) (kept : AreDefs defs) where
  differ : (k l : KeyParts) → same_key k l ≡ false → (x y : List ℕ) → IsRowBytes defs k x → IsRowBytes defs l y → x ≡ y → ⊥
  differ k l other x y p q e =
      let same = rows_apart defs kept p.index q.index p.row q.row p.of q.of (p.bytes ∙ e ∙ sym q.bytes) in
      let keys : k ≡ l = sym p.key ∙ ap (λ (r : IndexRow). r.parts.key) same.1 ∙ q.key in
      true_not_false (sym ((same_key-decides k l).1 keys) ∙ other)

  pub apart : (a b : EntityParts) → IsIndexable a → IsIndexable b → same_key a.key b.key ≡ false
      → Each (NotAmong (rows_of defs b)) (rows_of defs a)
  apart a b p q other =
      each_more (IsRowBytes defs a.key) (NotAmong (rows_of defs b)) (rows_of defs a)
      (λ x here. each_more (IsRowBytes defs b.key) (λ y. x ≡ y → ⊥) (rows_of defs b) (λ y there. differ a.key b.key other x y here there)
      (each_all (IsRowBytes defs b.key) (rows_of defs b) (own_bytes defs b q)))
      (each_all (IsRowBytes defs a.key) (rows_of defs a) (own_bytes defs a p))

-- ---- tests of rows

pub none_among : (rows : List (List ℕ)) (x : List ℕ) → NotAmong rows x → list_any (bytes_eq x) rows ≡ false
none_among [] x h = refl
none_among (y ∷ rows) x h = rw (other_row x y h.0) (none_among rows x h.1)

pub or_true : (a b : Bool) → b ≡ true → (a || b) ≡ true
or_true true b h = refl
or_true false b h = h

-- each row is one of them
pub among_itself : (rows : List (List ℕ)) → Each (λ x. list_any (bytes_eq x) rows ≡ true) rows
among_itself [] = tt
among_itself (y ∷ rows) = (
  rw (same_row y y refl) refl,
  each_more (λ x. list_any (bytes_eq x) rows ≡ true) (λ x. list_any (bytes_eq x) (y ∷ rows) ≡ true) rows
      (λ x h. or_true (bytes_eq x y) (list_any (bytes_eq x) rows) h) (among_itself rows),
)
