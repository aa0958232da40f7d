-- What each way to meet the filters asks: pairs on the properties with an equality, and keys as bounds of the key.
use Rattle.std.proofs.Common.{◌≡◌, ℕ, List, [], ◌∷◌, ◌++◌, Bool, true, false, ◌&&◌, ◌||◌, not, cond, Option, Some, None, map, flat_map}
use Rattle.std.proofs.Common.{fold, refl, sym, ap, ◌∙◌}
use Rattle.std.specs.Prelude.{bytes_eq, All}
use Rattle.std.specs.List.{list_any, list_all}
use Rattle.std.specs.List.Sorted.{IsStrictlySortedBy}
use Rattle.std.specs.BTreeSet.{insert_key}
use Rattle.std.specs.Ordering.{match_ordering}
use Rattle.std.specs.declared.cmp.Ordering.{Ordering}
use Rattle.std.specs.declared.cmp.Ordering.TheVariants.{Less, Equal, Greater}
use Rattle.std.proofs.lemmas.List.Elements.{All-nil, All-cons, All-head, All-tail, All-append, All-weaker}
use Rattle.std.proofs.lemmas.List.Folds.{list_any-append}
use Rattle.ds_base.specs.declared.index_value.IndexValue.{IndexValue}
use Rattle.ds_base.specs.declared.index_value.IndexValue.TheVariants as index
use Rattle.ds_base.specs.declared.value.Value.{Value}
use Rattle.ds_base.specs.declared.value.Value.TheVariants as value
use Rattle.ds_base.specs.IndexOrder.{index_value_cmp}
use Rattle.ds_base.specs.SortingLaws.{IsStrictlySortedBy-insert_key, list_any-insert_key}
use Rattle.ds_query.specs.declared.query.Op.{Op}
use Rattle.ds_query.specs.declared.query.Op.TheVariants as op
use Rattle.ds_query.specs.declared.query.Filter.{Filter}
use Rattle.ds_query.specs.declared.branch.Pair.{Pair}
use Rattle.ds_query.specs.declared.branch.Bound.{Bound}
use Rattle.ds_query.specs.declared.branch.Range.{Range}
use Rattle.ds_query.specs.declared.conditions.Conditions.{Conditions}
use Rattle.ds_query.specs.Filters.{asks_equal, is_equality, is_inequality, has_equality, inequality_of}
use Rattle.ds_base.specs.KeyColumn.{is_key_name}
use Rattle.ds_query.specs.Reasons.{is_key_value, has_wrong_key}
use Rattle.ds_query.specs.Branching.{stricter, greater_bound, lesser_bound, with_bound, at_bound, from_bound, up_to_bound, within, unasked}
use Rattle.ds_query.specs.Branching.{narrowed, as_indexed, ways, split_by, split_all, conditions, pair_cmp, sorted_pairs}
use Rattle.ds_query.specs.PairOrderLaws.{pair_cmp-total, pair_cmp-same}
use Rattle.ds_query.specs.Lawful.{has_pair, is_key_bound, bounds_are_keys}
use Rattle.ds_query.proofs.Booleans.{or_false, or_assoc, or_neither, and_both, and_other, not_false, true≢false, name_is}

-- ---- what each split keeps

-- what holds of each of some conditions, and of what one filter makes of one of them, holds of what it makes of all
split_all-All : (P Q : Conditions → Type 0) (f : Filter) → ((c : Conditions) → P c → All Q (split_by f c)) → (cs : List Conditions) → All P cs → All Q (split_all cs f)
split_all-All P Q f step [] h = All-nil Q
split_all-All P Q f step (c ∷ cs) h = All-append Q (split_by f c) (split_all cs f) (step c (All-head P c cs h)) (split_all-All P Q f step cs (All-tail P c cs h))

-- what holds of each condition that a filter may ask, with values that pass a test, holds of what it makes of a condition
split_by-All : (Q : Conditions → Type 0) (good : Value → Bool) (f : Filter) (c : Conditions) → list_all good f.values ≡ true → ((w : Op × IndexValue) (v : Value) → asks_equal w.0 ≡ asks_equal f.op → w.1 ≡ as_indexed v → good v ≡ true → Q (narrowed f.property c w)) → All Q (split_by f c)
split_by-All Q good f c all h = by_values f.values all where
  put : (w : Op × IndexValue) (rest : List (Op × IndexValue)) → Q (narrowed f.property c w) → All Q (map (narrowed f.property c) rest) → All Q (map (narrowed f.property c) (w ∷ rest))
  put w rest here later = All-cons Q (narrowed f.property c w) (map (narrowed f.property c) rest) here later

  of_ways : (v : Value) (rest : List (Op × IndexValue)) (o : Op) → ((w : Op × IndexValue) → asks_equal w.0 ≡ asks_equal o → w.1 ≡ as_indexed v → Q (narrowed f.property c w)) → All Q (map (narrowed f.property c) rest) → All Q (map (narrowed f.property c) (ways o (as_indexed v) ++ rest))
  of_ways v rest op.NotEqual g later = put (op.Less, as_indexed v) ((op.Greater, as_indexed v) ∷ rest) (g (op.Less, as_indexed v) refl refl) (put (op.Greater, as_indexed v) rest (g (op.Greater, as_indexed v) refl refl) later)
  of_ways v rest op.Equal g later = put (op.Equal, as_indexed v) rest (g (op.Equal, as_indexed v) refl refl) later
  of_ways v rest op.OneOf g later = put (op.OneOf, as_indexed v) rest (g (op.OneOf, as_indexed v) refl refl) later
  of_ways v rest op.Less g later = put (op.Less, as_indexed v) rest (g (op.Less, as_indexed v) refl refl) later
  of_ways v rest op.LessEqual g later = put (op.LessEqual, as_indexed v) rest (g (op.LessEqual, as_indexed v) refl refl) later
  of_ways v rest op.Greater g later = put (op.Greater, as_indexed v) rest (g (op.Greater, as_indexed v) refl refl) later
  of_ways v rest op.GreaterEqual g later = put (op.GreaterEqual, as_indexed v) rest (g (op.GreaterEqual, as_indexed v) refl refl) later

  by_values : (vs : List Value) → list_all good vs ≡ true → All Q (map (narrowed f.property c) (flat_map (λ v. ways f.op (as_indexed v)) vs))
  by_values [] all = All-nil Q
  by_values (v ∷ vs) all =
      let both = and_both (good v) (list_all good vs) all in
      of_ways v (flat_map (λ w. ways f.op (as_indexed w)) vs) f.op (λ w same is. h w v same is both.0) (by_values vs both.1)

any_value : (vs : List Value) → list_all (λ (v : Value). true) vs ≡ true
any_value [] = refl
any_value (v ∷ vs) = any_value vs

-- ---- pairs

has_pair-end : (ps : List Pair) (p : Pair) (n : List ℕ) → has_pair (ps ++ p ∷ []) n ≡ (has_pair ps n || bytes_eq n p.property)
has_pair-end ps p n = list_any-append (λ (x : Pair). bytes_eq n x.property) ps (p ∷ []) ∙ ap (λ b. has_pair ps n || b) (or_false (bytes_eq n p.property))

-- one more condition has a pair on its property exactly where it is an equality
has_pair-narrowed : (property : List ℕ) (c : Conditions) (w : Op × IndexValue) (n : List ℕ) → has_pair (narrowed property c w).equal n ≡ (has_pair c.equal n || ((asks_equal w.0 && not (is_key_name property)) && bytes_eq n property))
has_pair-narrowed property c w n = at (asks_equal w.0 && not (is_key_name property)) where
  at : (b : Bool) → has_pair (cond {A = Conditions} b (record { equal = c.equal ++ record { property = property; value = w.1 } ∷ []; range = c.range }) (record { equal = c.equal; range = within w.0 w.1 c.range })).equal n ≡ (has_pair c.equal n || (b && bytes_eq n property))
  at true = has_pair-end c.equal (record { property = property; value = w.1 }) n
  at false = sym (or_false (has_pair c.equal n))

pairs_split : (n : List ℕ) (fs : List Filter) (cs : List Conditions) (b : Bool) → All (λ c. has_pair c.equal n ≡ b) cs → All (λ c. has_pair c.equal n ≡ (b || has_equality fs n)) (fold split_all cs fs)
pairs_split n [] cs b h = All-weaker (λ c. has_pair c.equal n ≡ b) (λ c. has_pair c.equal n ≡ (b || false)) (λ c e. e ∙ sym (or_false b)) cs h
pairs_split n (f ∷ fs) cs b h =
    let here : Bool = is_equality f && bytes_eq n f.property in
    let once : All (λ c. has_pair c.equal n ≡ (b || here)) (split_all cs f) =
    split_all-All (λ c. has_pair c.equal n ≡ b) (λ c. has_pair c.equal n ≡ (b || here)) f
    (λ c e. split_by-All (λ d. has_pair d.equal n ≡ (b || here)) (λ v. true) f c (any_value f.values) (λ w v same is good. has_pair-narrowed f.property c w n ∙ (λ i. e i || ((same i && not (is_key_name f.property)) && bytes_eq n f.property)))) cs h in
    All-weaker (λ c. has_pair c.equal n ≡ ((b || here) || has_equality fs n)) (λ c. has_pair c.equal n ≡ (b || (here || has_equality fs n))) (λ c e. e ∙ or_assoc b here (has_equality fs n)) (fold split_all (split_all cs f) fs)
    (pairs_split n fs (split_all cs f) (b || here) once)

-- each way has pairs on exactly the properties with an equality
pub pairs_of_equalities : (filters : List Filter) (n : List ℕ) → All (λ c. has_pair c.equal n ≡ has_equality filters n) (conditions filters)
pairs_of_equalities filters n = pairs_split n filters (unasked ∷ []) false (All-cons (λ c. has_pair c.equal n ≡ false) unasked [] refl (All-nil (λ c. has_pair c.equal n ≡ false)))

-- ---- sorted pairs

has_pair-insert : (n : List ℕ) (ps : List Pair) (p : Pair) → has_pair (insert_key pair_cmp ps p) n ≡ (bytes_eq n p.property || has_pair ps n)
has_pair-insert n ps p = list_any-insert_key pair_cmp (λ (x : Pair). bytes_eq n x.property) (λ x y e. ap (λ (z : Pair). bytes_eq n z.property) (pair_cmp-same x y e)) ps p

or_turned : (a b c : Bool) → ((b || a) || c) ≡ (a || (b || c))
or_turned true true c = refl
or_turned true false c = refl
or_turned false true c = refl
or_turned false false c = refl

has_pair-fold : (n : List ℕ) (ps acc : List Pair) → has_pair (fold (insert_key pair_cmp) acc ps) n ≡ (has_pair acc n || has_pair ps n)
has_pair-fold n [] acc = sym (or_false (has_pair acc n))
has_pair-fold n (p ∷ ps) acc = has_pair-fold n ps (insert_key pair_cmp acc p) ∙ ap (λ b. b || has_pair ps n) (has_pair-insert n acc p) ∙ or_turned (has_pair acc n) (bytes_eq n p.property) (has_pair ps n)

pub has_pair-sorted : (ps : List Pair) (n : List ℕ) → has_pair (sorted_pairs ps) n ≡ has_pair ps n
has_pair-sorted ps n = has_pair-fold n ps []

ascending-fold : (ps acc : List Pair) → IsStrictlySortedBy pair_cmp acc → IsStrictlySortedBy pair_cmp (fold (insert_key pair_cmp) acc ps)
ascending-fold [] acc h = h
ascending-fold (p ∷ ps) acc h = ascending-fold ps (insert_key pair_cmp acc p) (IsStrictlySortedBy-insert_key pair_cmp-total acc p h)

no_pairs_ascend : IsStrictlySortedBy pair_cmp []
unfolding IsStrictlySortedBy
no_pairs_ascend = tt

pub sorted_pairs_ascend : (ps : List Pair) → IsStrictlySortedBy pair_cmp (sorted_pairs ps)
sorted_pairs_ascend ps = ascending-fold ps [] no_pairs_ascend

-- ---- bounds of the key

abbrev is_key_index : IndexValue → Bool
is_key_index v = is_key_bound (Some (at_bound v true))

key_index : (v : Value) → is_key_value v ≡ true → is_key_index (as_indexed v) ≡ true
key_index (value.Key k) e = refl
key_index value.Null e = absurd (cc e)
key_index (value.Int n) e = absurd (cc e)
key_index (value.Date n) e = absurd (cc e)
key_index (value.Rating n) e = absurd (cc e)
key_index (value.Bool b) e = absurd (cc e)
key_index (value.Bytes s) e = absurd (cc e)
key_index (value.Str s) e = absurd (cc e)
key_index (value.Text s) e = absurd (cc e)
key_index (value.Blob s) e = absurd (cc e)

key_bound : (v : IndexValue) (b : Bool) → is_key_index v ≡ true → is_key_bound (Some (at_bound v b)) ≡ true
key_bound (index.Key k) b e = refl
key_bound index.Null b e = absurd (cc e)
key_bound (index.Num n) b e = absurd (cc e)
key_bound (index.Bool n) b e = absurd (cc e)
key_bound (index.Bytes s) b e = absurd (cc e)

greater-key : (a b : Bound) → is_key_bound (Some a) ≡ true → is_key_bound (Some b) ≡ true → is_key_bound (Some (greater_bound a b)) ≡ true
greater-key a b h k = at (index_value_cmp a.value b.value) where
  at : (r : Ordering) → is_key_bound (Some (match_ordering r b (stricter a b) a)) ≡ true
  at Less = k
  at Equal = h
  at Greater = h

lesser-key : (a b : Bound) → is_key_bound (Some a) ≡ true → is_key_bound (Some b) ≡ true → is_key_bound (Some (lesser_bound a b)) ≡ true
lesser-key a b h k = at (index_value_cmp a.value b.value) where
  at : (r : Ordering) → is_key_bound (Some (match_ordering r a (stricter a b) b)) ≡ true
  at Less = h
  at Equal = h
  at Greater = k

with-key : (choose : Bound → Bound → Bound) → ((a b : Bound) → is_key_bound (Some a) ≡ true → is_key_bound (Some b) ≡ true → is_key_bound (Some (choose a b)) ≡ true) → (o : Option Bound) (b : Bound) → is_key_bound o ≡ true → is_key_bound (Some b) ≡ true → is_key_bound (with_bound choose o b) ≡ true
with-key choose keeps None b h k = k
with-key choose keeps (Some a) b h k = keeps a b h k

from-keys : (b : Bound) (r : Range) → is_key_bound (Some b) ≡ true → bounds_are_keys r ≡ true → bounds_are_keys (from_bound b r) ≡ true
from-keys b r k h = let both = and_both (is_key_bound r.lower) (is_key_bound r.upper) h in λ i. with-key greater_bound greater-key r.lower b both.0 k i && both.1 i

up_to-keys : (b : Bound) (r : Range) → is_key_bound (Some b) ≡ true → bounds_are_keys r ≡ true → bounds_are_keys (up_to_bound b r) ≡ true
up_to-keys b r k h = let both = and_both (is_key_bound r.lower) (is_key_bound r.upper) h in λ i. both.0 i && with-key lesser_bound lesser-key r.upper b both.1 k i

within-keys : (o : Op) (v : IndexValue) (r : Range) → is_key_index v ≡ true → bounds_are_keys r ≡ true → bounds_are_keys (within o v r) ≡ true
within-keys op.Less v r k h = up_to-keys (at_bound v false) r (key_bound v false k) h
within-keys op.LessEqual v r k h = up_to-keys (at_bound v true) r (key_bound v true k) h
within-keys op.Greater v r k h = from-keys (at_bound v false) r (key_bound v false k) h
within-keys op.GreaterEqual v r k h = from-keys (at_bound v true) r (key_bound v true k) h
within-keys op.Equal v r k h = up_to-keys (at_bound v true) (from_bound (at_bound v true) r) (key_bound v true k) (from-keys (at_bound v true) r (key_bound v true k) h)
within-keys op.NotEqual v r k h = up_to-keys (at_bound v true) (from_bound (at_bound v true) r) (key_bound v true k) (from-keys (at_bound v true) r (key_bound v true k) h)
within-keys op.OneOf v r k h = up_to-keys (at_bound v true) (from_bound (at_bound v true) r) (key_bound v true k) (from-keys (at_bound v true) r (key_bound v true k) h)

-- an equality, or a filter with keys alone
abbrev pub bounds_keys : Filter → Bool
bounds_keys f = is_equality f || list_all is_key_value f.values

narrowed-keys : (f : Filter) (c : Conditions) (w : Op × IndexValue) (v : Value) → bounds_keys f ≡ true → asks_equal w.0 ≡ asks_equal f.op → w.1 ≡ as_indexed v → (is_equality f ≡ false → is_key_value v ≡ true) → bounds_are_keys c.range ≡ true → bounds_are_keys (narrowed f.property c w).range ≡ true
narrowed-keys f c w v keys same is key h = at (is_equality f) refl where
  narrow : Bool → Conditions
  narrow b = cond {A = Conditions} b (record { equal = c.equal ++ record { property = f.property; value = w.1 } ∷ []; range = c.range }) (record { equal = c.equal; range = within w.0 w.1 c.range })

  at : (b : Bool) → is_equality f ≡ b → bounds_are_keys (narrowed f.property c w).range ≡ true
  at true e = ap (λ b. bounds_are_keys (narrow b).range) (ap (λ b. b && not (is_key_name f.property)) same ∙ e) ∙ h
  at false e = ap (λ b. bounds_are_keys (narrow b).range) (ap (λ b. b && not (is_key_name f.property)) same ∙ e) ∙ within-keys w.0 w.1 c.range (ap is_key_index is ∙ key_index v (key e)) h

keys_split : (fs : List Filter) (cs : List Conditions) → list_all bounds_keys fs ≡ true → All (λ c. bounds_are_keys c.range ≡ true) cs → All (λ c. bounds_are_keys c.range ≡ true) (fold split_all cs fs)
keys_split [] cs keys h = h
keys_split (f ∷ fs) cs keys h =
    let both = and_both (bounds_keys f) (list_all bounds_keys fs) keys in
    keys_split fs (split_all cs f) both.1 (split_all-All P P f (λ c e. one c e (is_equality f) refl both.0) cs h) where
      P : Conditions → Type 0
      P c = bounds_are_keys c.range ≡ true

      one : (c : Conditions) → P c → (b : Bool) → is_equality f ≡ b → bounds_keys f ≡ true → All P (split_by f c)
      one c e true equal good = split_by-All P (λ v. true) f c (any_value f.values) (λ w v same is any. narrowed-keys f c w v good same is (λ no. absurd (true≢false (sym equal ∙ no))) e)
      one c e false unequal good =
          split_by-All P is_key_value f c (ap (λ b. b || list_all is_key_value f.values) (sym unequal) ∙ good) (λ w v same is key. narrowed-keys f c w v good same is (λ no. key) e)

-- where the first column is the key, each filter is an equality or has keys alone
all_keys : (vs : List Value) → list_any (λ v. not (is_key_value v)) vs ≡ false → list_all is_key_value vs ≡ true
all_keys [] e = refl
all_keys (v ∷ vs) e = let neither = or_neither (not (is_key_value v)) (list_any (λ w. not (is_key_value w)) vs) e in λ i. not_false (is_key_value v) neither.0 i && all_keys vs neither.1 i

pub key_filters : (p : List ℕ) → is_key_name p ≡ true → (fs : List Filter) → list_any (λ f. is_inequality f && not (bytes_eq f.property p)) fs ≡ false → list_any has_wrong_key fs ≡ false → list_all bounds_keys fs ≡ true
key_filters p k [] one right = refl
key_filters p k (f ∷ fs) one right =
    let ones = or_neither (is_inequality f && not (bytes_eq f.property p)) (list_any (λ g. is_inequality g && not (bytes_eq g.property p)) fs) one in
    let rights = or_neither (has_wrong_key f) (list_any has_wrong_key fs) right in
    λ i. at (is_equality f) refl ones.0 rights.0 i && key_filters p k fs ones.1 rights.1 i where
      at : (b : Bool) → is_equality f ≡ b → (is_inequality f && not (bytes_eq f.property p)) ≡ false → has_wrong_key f ≡ false → (is_equality f || list_all is_key_value f.values) ≡ true
      at true e one right = ap (λ b. b || list_all is_key_value f.values) e
      at false e one right =
          let same : f.property ≡ p = name_is f.property p (not_false (bytes_eq f.property p) (and_other (is_inequality f) (not (bytes_eq f.property p)) one (ap not e))) in
          let on_key : is_key_name f.property ≡ true = ap is_key_name same ∙ k in
          ap (λ b. b || list_all is_key_value f.values) e ∙ all_keys f.values (and_other (is_key_name f.property) (list_any (λ v. not (is_key_value v)) f.values) right on_key)

pub equal_filters : (fs : List Filter) → inequality_of fs ≡ None → list_all bounds_keys fs ≡ true
equal_filters [] e = refl
equal_filters (f ∷ fs) e = at (is_equality f) e (equal_filters fs) where
  at : (b : Bool) → cond (not b) (Some f.property) (inequality_of fs) ≡ None → (inequality_of fs ≡ None → list_all bounds_keys fs ≡ true) → ((b || list_all is_key_value f.values) && list_all bounds_keys fs) ≡ true
  at true e later = later e
  at false e later = absurd (cc e)

pub key_bounds : (filters : List Filter) → list_all bounds_keys filters ≡ true → All (λ c. bounds_are_keys c.range ≡ true) (conditions filters)
key_bounds filters keys = keys_split filters (unasked ∷ []) keys (All-cons (λ c. bounds_are_keys c.range ≡ true) unasked [] refl (All-nil (λ c. bounds_are_keys c.range ≡ true)))
