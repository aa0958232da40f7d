-- What the bytes of a row tell: the index that it is of, the entity, and the order of the rows of an index.
use Rattle.std.specs.Prelude.{◌≡◌, ℕ, ◌+◌, ◌*◌, ◌/◌, ◌%◌, ◌^◌, ◌<◌, Bool, true, false, List, [], ◌∷◌, ◌++◌, length, Option}
use Rattle.std.specs.Prelude.{Some, None, refl}
use Rattle.std.proofs.Common.{ap, sym, ◌∙◌, append_assoc, append-nil, subst, arith}
use Rattle.std.specs.declared.cmp.Ordering.{Ordering}
use Rattle.std.specs.declared.cmp.Ordering.TheVariants.{Less, Equal, Greater}
use Rattle.std.specs.Ordering.{ordering_then, ordering_reverse, nat_cmp}
use Rattle.std.specs.Cmp.{nat_cmp_total}
use Rattle.std.specs.FinMap.{nat_cmp-IsAntisymmetric}
use Rattle.std.specs.Prelude.{get_or}
use Rattle.std.proofs.lemmas.List.{get_or_default}
use Rattle.std.proofs.Math.Nat.{mod-eq_of_lt}
use Rattle.std.proofs.lemmas.Nat.{mod-pow-add}
use Rattle.ds_base.specs.Keys.{KeyParts}
use Rattle.ds_base.specs.KeyOrder.{bytes_cmp}
use Rattle.ds_indexdef.specs.declared.IndexDef.{IndexDef}
use Rattle.ds_indexdef.specs.Definitions.{AreDefs}
use Rattle.ds_bytes.specs.Encoding.{escaped}
use Rattle.ds_bytes.specs.OrderedLaws.{bytes_cmp-front, orders, nat_cmp-self}
use Rattle.ds_bytes.specs.EncodingLaws.{key_bytes-ordered, key_encoding-reads_once}
use Rattle.ds_bytes.specs.AncestorLaws.{escaped-reads_once}
use Rattle.ds_bytes.specs.Rows.{row_bytes}
use Rattle.ds_bytes.specs.RowLaws.{row_bytes-ordered, row_bytes-reads_once}
use Rattle.ds_rows.specs.IndexedValues.{kind_of}
use Rattle.ds_rows.specs.Indexes.{RowIndex, AllByKey, KindByKey, ByProperty, Composite, directions, index_key_descends, has_ancestor}
use Rattle.ds_rows.specs.Rows.{IndexRow, four_bytes, index_front, ancestor_bytes, row_rest, index_row_bytes}
use Rattle.ds_rows.specs.Laws.{IsIndexOf, SuitsAncestor, IsRowOf, HoldsKind, IsSameIndex, ancestor_cmp, index_row_cmp}

-- ---- what stands in front

heads : (x y : ℕ) (a b : List ℕ) → x ∷ a ≡ y ∷ b → x ≡ y
heads x y a b e = cc

tails : (x y : ℕ) (a b : List ℕ) → x ∷ a ≡ y ∷ b → a ≡ b
tails x y a b e = cc

-- a number below 2^32 is made of its four bytes
four_bytes-joined : (n : ℕ) → n < 2 ^ 32 → n / 2 ^ 24 % 256 * 2 ^ 24 + n / 2 ^ 16 % 256 * 2 ^ 16 + n / 2 ^ 8 % 256 * 2 ^ 8 + n % 256 ≡ n
four_bytes-joined n small = omega (arith, mod-pow-add n 8 24, mod-pow-add n 8 16, mod-pow-add n 8 8, mod-eq_of_lt small)

same_four : (a b c d a' b' c' d' : ℕ) (xs ys : List ℕ) → (a ∷ b ∷ c ∷ d ∷ xs) ≡ (a' ∷ b' ∷ c' ∷ d' ∷ ys)
    → (a * 2 ^ 24 + b * 2 ^ 16 + c * 2 ^ 8 + d ≡ a' * 2 ^ 24 + b' * 2 ^ 16 + c' * 2 ^ 8 + d') × (xs ≡ ys)
same_four a b c d a' b' c' d' xs ys e =
    let one = tails a a' (b ∷ c ∷ d ∷ xs) (b' ∷ c' ∷ d' ∷ ys) e in
    let two = tails b b' (c ∷ d ∷ xs) (c' ∷ d' ∷ ys) one in
    let three = tails c c' (d ∷ xs) (d' ∷ ys) two in (
      λ i. heads a a' (b ∷ c ∷ d ∷ xs) (b' ∷ c' ∷ d' ∷ ys) e i * 2 ^ 24 + heads b b' (c ∷ d ∷ xs) (c' ∷ d' ∷ ys) one i * 2 ^ 16
          + heads c c' (d ∷ xs) (d' ∷ ys) two i * 2 ^ 8 + heads d d' xs ys three i,
      tails d d' xs ys three,
    )

-- the place of a definition is read in one way
four_bytes-reads_once : (m n : ℕ) (a b : List ℕ) → m < 2 ^ 32 → n < 2 ^ 32 → four_bytes m ++ a ≡ four_bytes n ++ b → (m ≡ n) × (a ≡ b)
four_bytes-reads_once m n a b p q e =
    let four = same_four (m / 2 ^ 24 % 256) (m / 2 ^ 16 % 256) (m / 2 ^ 8 % 256) (m % 256) (n / 2 ^ 24 % 256) (n / 2 ^ 16 % 256)
    (n / 2 ^ 8 % 256) (n % 256) a b e in
    (sym (four_bytes-joined m p) ∙ four.0 ∙ four_bytes-joined n q, four.1)

-- one definition stands at a place
one_definition : (defs : List IndexDef) (n : ℕ) (d e : IndexDef) → n < length defs → get_or defs n d ≡ d → get_or defs n e ≡ e → d ≡ e
one_definition defs n d e below p q = sym p ∙ get_or_default defs n d e below ∙ q

texts_two : (s t s' t' a b : List ℕ) → (escaped s ++ escaped t) ++ a ≡ (escaped s' ++ escaped t') ++ b → (s ≡ s') × (t ≡ t') × (a ≡ b)
texts_two s t s' t' a b e =
    let first = escaped-reads_once s s' (escaped t ++ a) (escaped t' ++ b)
    (sym (append_assoc (escaped s) (escaped t) a) ∙ e ∙ append_assoc (escaped s') (escaped t') b) in
    let second = escaped-reads_once t t' a b first.1 in
    (first.0, second.0, second.1)

texts_three : (s t u s' t' u' a b : List ℕ) → (escaped s ++ (escaped t ++ escaped u)) ++ a ≡ (escaped s' ++ (escaped t' ++ escaped u')) ++ b
    → (s ≡ s') × (t ≡ t') × (u ≡ u') × (a ≡ b)
texts_three s t u s' t' u' a b e =
    let first = escaped-reads_once s s' ((escaped t ++ escaped u) ++ a) ((escaped t' ++ escaped u') ++ b)
    (sym (append_assoc (escaped s) (escaped t ++ escaped u) a) ∙ e ∙ append_assoc (escaped s') (escaped t' ++ escaped u') b) in
    let others = texts_two t u t' u' a b first.1 in
    (first.0, others.0, others.1, others.2)

-- What stands in front tells the index, the namespace, and where the index is of a kind, the kind.
pub fronts_apart : (defs : List IndexDef) → length defs < 2 ^ 32 → (i j : RowIndex) (ns kind ns' kind' a b : List ℕ) → IsIndexOf defs i
    → IsIndexOf defs j
    → index_front i ns kind ++ a ≡ index_front j ns' kind' ++ b → IsSameIndex i j ns kind ns' kind' a b
fronts_apart defs few AllByKey AllByKey ns kind ns' kind' a b p q e =
    let first = escaped-reads_once ns ns' a b (tails 0 0 (escaped ns ++ a) (escaped ns' ++ b) e) in
    record { index = refl; namespace = first.0; kind = tt; behind = first.1 }
fronts_apart defs few AllByKey KindByKey ns kind ns' kind' a b p q e = absurd (apart e) where
  apart : index_front AllByKey ns kind ++ a ≡ index_front KindByKey ns' kind' ++ b → ⊥
  apart e = cc
fronts_apart defs few AllByKey (ByProperty n false) ns kind ns' kind' a b p q e = absurd (apart e) where
  apart : index_front AllByKey ns kind ++ a ≡ index_front (ByProperty n false) ns' kind' ++ b → ⊥
  apart e = cc
fronts_apart defs few AllByKey (ByProperty n true) ns kind ns' kind' a b p q e = absurd (apart e) where
  apart : index_front AllByKey ns kind ++ a ≡ index_front (ByProperty n true) ns' kind' ++ b → ⊥
  apart e = cc
fronts_apart defs few AllByKey (Composite n d') ns kind ns' kind' a b p q e = absurd (apart e) where
  apart : index_front AllByKey ns kind ++ a ≡ index_front (Composite n d') ns' kind' ++ b → ⊥
  apart e = cc
fronts_apart defs few KindByKey AllByKey ns kind ns' kind' a b p q e = absurd (apart e) where
  apart : index_front KindByKey ns kind ++ a ≡ index_front AllByKey ns' kind' ++ b → ⊥
  apart e = cc
fronts_apart defs few KindByKey KindByKey ns kind ns' kind' a b p q e =
    let first = texts_two ns kind ns' kind' a b (tails 1 1 ((escaped ns ++ escaped kind) ++ a) ((escaped ns' ++ escaped kind') ++ b) e) in
    record { index = refl; namespace = first.0; kind = first.1; behind = first.2 }
fronts_apart defs few KindByKey (ByProperty n false) ns kind ns' kind' a b p q e = absurd (apart e) where
  apart : index_front KindByKey ns kind ++ a ≡ index_front (ByProperty n false) ns' kind' ++ b → ⊥
  apart e = cc
fronts_apart defs few KindByKey (ByProperty n true) ns kind ns' kind' a b p q e = absurd (apart e) where
  apart : index_front KindByKey ns kind ++ a ≡ index_front (ByProperty n true) ns' kind' ++ b → ⊥
  apart e = cc
fronts_apart defs few KindByKey (Composite n d') ns kind ns' kind' a b p q e = absurd (apart e) where
  apart : index_front KindByKey ns kind ++ a ≡ index_front (Composite n d') ns' kind' ++ b → ⊥
  apart e = cc
fronts_apart defs few (ByProperty m false) AllByKey ns kind ns' kind' a b p q e = absurd (apart e) where
  apart : index_front (ByProperty m false) ns kind ++ a ≡ index_front AllByKey ns' kind' ++ b → ⊥
  apart e = cc
fronts_apart defs few (ByProperty m false) KindByKey ns kind ns' kind' a b p q e = absurd (apart e) where
  apart : index_front (ByProperty m false) ns kind ++ a ≡ index_front KindByKey ns' kind' ++ b → ⊥
  apart e = cc
fronts_apart defs few (ByProperty m false) (ByProperty n false) ns kind ns' kind' a b p q e =
    let first = texts_three ns kind m ns' kind' n a b
    (tails 2 2 ((escaped ns ++ (escaped kind ++ escaped m)) ++ a) ((escaped ns' ++ (escaped kind' ++ escaped n)) ++ b) e) in
    record { index = λ t. ByProperty (first.2 t) false; namespace = first.0; kind = first.1; behind = first.3 }
fronts_apart defs few (ByProperty m false) (ByProperty n true) ns kind ns' kind' a b p q e = absurd (apart e) where
  apart : index_front (ByProperty m false) ns kind ++ a ≡ index_front (ByProperty n true) ns' kind' ++ b → ⊥
  apart e = cc
fronts_apart defs few (ByProperty m false) (Composite n d') ns kind ns' kind' a b p q e = absurd (apart e) where
  apart : index_front (ByProperty m false) ns kind ++ a ≡ index_front (Composite n d') ns' kind' ++ b → ⊥
  apart e = cc
fronts_apart defs few (ByProperty m true) AllByKey ns kind ns' kind' a b p q e = absurd (apart e) where
  apart : index_front (ByProperty m true) ns kind ++ a ≡ index_front AllByKey ns' kind' ++ b → ⊥
  apart e = cc
fronts_apart defs few (ByProperty m true) KindByKey ns kind ns' kind' a b p q e = absurd (apart e) where
  apart : index_front (ByProperty m true) ns kind ++ a ≡ index_front KindByKey ns' kind' ++ b → ⊥
  apart e = cc
fronts_apart defs few (ByProperty m true) (ByProperty n false) ns kind ns' kind' a b p q e = absurd (apart e) where
  apart : index_front (ByProperty m true) ns kind ++ a ≡ index_front (ByProperty n false) ns' kind' ++ b → ⊥
  apart e = cc
fronts_apart defs few (ByProperty m true) (ByProperty n true) ns kind ns' kind' a b p q e =
    let first = texts_three ns kind m ns' kind' n a b
    (tails 3 3 ((escaped ns ++ (escaped kind ++ escaped m)) ++ a) ((escaped ns' ++ (escaped kind' ++ escaped n)) ++ b) e) in
    record { index = λ t. ByProperty (first.2 t) true; namespace = first.0; kind = first.1; behind = first.3 }
fronts_apart defs few (ByProperty m true) (Composite n d') ns kind ns' kind' a b p q e = absurd (apart e) where
  apart : index_front (ByProperty m true) ns kind ++ a ≡ index_front (Composite n d') ns' kind' ++ b → ⊥
  apart e = cc
fronts_apart defs few (Composite m d) AllByKey ns kind ns' kind' a b p q e = absurd (apart e) where
  apart : index_front (Composite m d) ns kind ++ a ≡ index_front AllByKey ns' kind' ++ b → ⊥
  apart e = cc
fronts_apart defs few (Composite m d) KindByKey ns kind ns' kind' a b p q e = absurd (apart e) where
  apart : index_front (Composite m d) ns kind ++ a ≡ index_front KindByKey ns' kind' ++ b → ⊥
  apart e = cc
fronts_apart defs few (Composite m d) (ByProperty n false) ns kind ns' kind' a b p q e = absurd (apart e) where
  apart : index_front (Composite m d) ns kind ++ a ≡ index_front (ByProperty n false) ns' kind' ++ b → ⊥
  apart e = cc
fronts_apart defs few (Composite m d) (ByProperty n true) ns kind ns' kind' a b p q e = absurd (apart e) where
  apart : index_front (Composite m d) ns kind ++ a ≡ index_front (ByProperty n true) ns' kind' ++ b → ⊥
  apart e = cc
fronts_apart defs few (Composite m d) (Composite n d') ns kind ns' kind' a b p q e =
    let first = escaped-reads_once ns ns' (four_bytes m ++ a) (four_bytes n ++ b)
    (sym (append_assoc (escaped ns) (four_bytes m) a)
    ∙ tails 4 4 ((escaped ns ++ four_bytes m) ++ a) ((escaped ns' ++ four_bytes n) ++ b) e
    ∙ append_assoc (escaped ns') (four_bytes n) b) in
    let place = four_bytes-reads_once m n a b (omega arith) (omega arith) first.1 in
    let definition : d ≡ d' = one_definition defs n d d' q.0 (ap (λ k. get_or defs k d) (sym place.0) ∙ p.1) q.1 in
    record { index = λ t. Composite (place.0 t) (definition t); namespace = first.0; kind = tt; behind = place.1 }

-- ---- what stands behind

ancestors_apart : (has : Bool) (x y : Option KeyParts) (a b : List ℕ) → SuitsAncestor has x → SuitsAncestor has y
    → ancestor_bytes x ++ a ≡ ancestor_bytes y ++ b → (x ≡ y) × (a ≡ b)
ancestors_apart true (Some x) (Some y) a b p q e =
    let once = key_encoding-reads_once false x y a b p q e in
    (ap (λ (k : KeyParts). Some k) once.0, once.1)
ancestors_apart true (Some x) None a b p q e = absurd q
ancestors_apart true None y a b p q e = absurd p
ancestors_apart false (Some x) y a b p q e = absurd p
ancestors_apart false None (Some y) a b p q e = absurd q
ancestors_apart false None None a b p q e = (refl, e)

rests_apart : (defs : List IndexDef) (i : RowIndex) (r s : IndexRow) → IsRowOf defs i r → IsRowOf defs i s → row_rest i r ≡ row_rest i s → r
    ≡ s
rests_apart defs i r s p q e =
    let first = ancestors_apart (has_ancestor i) r.ancestor s.ancestor (row_bytes (directions i) (index_key_descends i) r.parts)
    (row_bytes (directions i) (index_key_descends i) s.parts) p.ancestor q.ancestor e in
    let parts = row_bytes-reads_once (directions i) (index_key_descends i) r.parts s.parts [] [] p.parts q.parts
    (append-nil (row_bytes (directions i) (index_key_descends i) r.parts) ∙ first.1
    ∙ sym (append-nil (row_bytes (directions i) (index_key_descends i) s.parts))) in
    λ t. record { ancestor = first.0 t; parts = parts.0 t }

-- Rows of different indexes differ, and in one index different rows do: so entities with different keys share none.
pub rows_apart : (defs : List IndexDef) → AreDefs defs → (i j : RowIndex) (r s : IndexRow) → IsRowOf defs i r → IsRowOf defs j s
    → index_row_bytes i r ≡ index_row_bytes j s → (i ≡ j) × (r ≡ s)
rows_apart defs kept i j r s p q e =
    let front = fronts_apart defs kept.few i j r.parts.key.namespace (kind_of r.parts.key) s.parts.key.namespace (kind_of s.parts.key)
    (row_rest i r)
    (row_rest j s) p.index q.index e in (
      front.index,
      rests_apart defs i r s p (subst (λ (k : RowIndex). IsRowOf defs k s) (sym front.index) q)
          (front.behind ∙ ap (λ (k : RowIndex). row_rest k s) (sym front.index)),
    )

-- ---- order

ancestors_ordered : (has : Bool) (x y : Option KeyParts) (a b : List ℕ) → SuitsAncestor has x → SuitsAncestor has y
    → bytes_cmp (ancestor_bytes x ++ a) (ancestor_bytes y ++ b) ≡ ordering_then (ancestor_cmp x y) (bytes_cmp a b)
ancestors_ordered true (Some x) (Some y) a b p q = key_bytes-ordered.compares x y a b p q
ancestors_ordered true (Some x) None a b p q = absurd q
ancestors_ordered true None y a b p q = absurd p
ancestors_ordered false (Some x) y a b p q = absurd p
ancestors_ordered false None (Some y) a b p q = absurd q
ancestors_ordered false None None a b p q = refl

-- The rows of an index in one namespace, of one kind, compare by ancestor, then column by column, and then by key.
pub rows_ordered : (defs : List IndexDef) (i : RowIndex) (r s : IndexRow) → IsRowOf defs i r → IsRowOf defs i s
    → r.parts.key.namespace ≡ s.parts.key.namespace → kind_of r.parts.key ≡ kind_of s.parts.key
    → bytes_cmp (index_row_bytes i r) (index_row_bytes i s) ≡ index_row_cmp i r s
rows_ordered defs i r s p q namespaces kinds =
    ap (λ (front : List ℕ). bytes_cmp (index_row_bytes i r) (front ++ row_rest i s))
    (λ t. index_front i (sym namespaces t) (sym kinds t))
    ∙ bytes_cmp-front (index_front i r.parts.key.namespace (kind_of r.parts.key)) (row_rest i r) (row_rest i s)
    ∙ ancestors_ordered (has_ancestor i) r.ancestor s.ancestor (row_bytes (directions i) (index_key_descends i) r.parts)
    (row_bytes (directions i) (index_key_descends i) s.parts) p.ancestor q.ancestor
    ∙ ap (λ (o : Ordering). ordering_then (ancestor_cmp r.ancestor s.ancestor) o)
    (orders (row_bytes-ordered (directions i) (index_key_descends i)) r.parts s.parts p.parts q.parts)

-- ---- rows that stand together

-- a row that begins as those of an index do is one of them
pub front_tells : (defs : List IndexDef) → AreDefs defs → (i j : RowIndex) (namespace kind more : List ℕ) (r : IndexRow) → IsIndexOf defs i
    → IsRowOf defs j r
    → index_row_bytes j r ≡ index_front i namespace kind ++ more
    → (j ≡ i) × (r.parts.key.namespace ≡ namespace) × HoldsKind j (kind_of r.parts.key) kind
front_tells defs kept i j namespace kind more r p q e =
    let same = fronts_apart defs kept.few j i r.parts.key.namespace (kind_of r.parts.key) namespace kind (row_rest j r) more q.index p e in
    (same.index, same.namespace, same.kind)

-- what is not below what begins so, and not above what begins so, begins so
pub between : (front a b x : List ℕ) → (bytes_cmp (front ++ a) x ≡ Greater → ⊥) → (bytes_cmp x (front ++ b) ≡ Greater → ⊥)
    → (more : List ℕ) × (x ≡ front ++ more)
between [] a b x low high = (x, refl)
between (c ∷ front) a b [] low high = absurd (low refl)
between (c ∷ front) a b (y ∷ x) low high = by (nat_cmp c y) refl (nat_cmp y c) refl (between front a b x) where
  by : (o : Ordering) → nat_cmp c y ≡ o → (o' : Ordering) → nat_cmp y c ≡ o'
      → ((bytes_cmp (front ++ a) x ≡ Greater → ⊥) → (bytes_cmp x (front ++ b) ≡ Greater → ⊥) → (more : List ℕ) × (x ≡ front ++ more))
      → (more : List ℕ) × (y ∷ x ≡ (c ∷ front) ++ more)
  by Greater e o' e' rest = absurd (low (ap (λ (r : Ordering). ordering_then r (bytes_cmp (front ++ a) x)) e))
  by Less e Greater e' rest = absurd (high (ap (λ (r : Ordering). ordering_then r (bytes_cmp x (front ++ b))) e'))
  by Less e Equal e' rest = absurd (tied (sym e ∙ ap (λ n. nat_cmp c n) (nat_cmp-IsAntisymmetric y c e') ∙ nat_cmp-self c)) where
    tied : Less ≡ Equal → ⊥
    tied z = cc
  by Less e Less e' rest = absurd (apart (sym e ∙ nat_cmp_total.antisymm c y ∙ ap ordering_reverse e')) where
    apart : Less ≡ Greater → ⊥
    apart z = cc
  by Equal e o' e' rest =
      let same : c ≡ y = nat_cmp-IsAntisymmetric c y e in
      let found = rest (λ g. low (ap (λ (r : Ordering). ordering_then r (bytes_cmp (front ++ a) x)) e ∙ g))
      (λ g. high (ap (λ (r : Ordering). ordering_then r (bytes_cmp x (front ++ b))) (ap (λ n. nat_cmp n c) (sym same) ∙ nat_cmp-self c)
      ∙ g)) in
      (found.0, λ t. sym same t ∷ found.1 t)
