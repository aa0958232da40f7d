-- How many conditions a filter may ask, and how many ways there are to meet several.
use Rattle.std.proofs.Common.{◌≡◌, ◌≢◌, ℕ, ◌+◌, ◌*◌, ◌-◌, ◌^◌, ◌<◌, ◌≤◌, min, List, [], ◌∷◌, Bool, true, false, IsTrue, length, take}
use Rattle.std.proofs.Common.{get_or, flat_map, fold, refl, sym, ap, ◌∙◌, subst, suc, lit≤, arith}
use Rattle.std.specs.Prelude.{nat_le, ◌==◌}
use Rattle.std.specs.List.{list_all, list_any}
use Rattle.std.proofs.lemmas.List.{length-map, length-append}
use Rattle.std.proofs.lemmas.List.Sums.{fold_more}
use Rattle.std.proofs.lemmas.List.Folds.{list_all_at}
use Rattle.std.proofs.lemmas.Bool.Decides.{nat_tests}
use Rattle.std.proofs.Math.Nat.{mul-le-mul, mul-le-mul_left, suc-mul}
use Rattle.ds_base.specs.declared.value.Value.{Value}
use Rattle.ds_base.specs.Limits.{greatest_told}
use Rattle.ds_query.specs.declared.query.Op.{Op}
use Rattle.ds_query.specs.declared.query.Op.TheVariants as op
use Rattle.ds_query.specs.declared.query.Filter.{Filter}
use Rattle.ds_query.specs.declared.conditions.Conditions.{Conditions}
use Rattle.ds_query.specs.Filters.{enough_values, has_operands, is_split, is_several}
use Rattle.ds_query.specs.Branching.{as_indexed, ways, choices, narrowed, split_by, split_all, conditions, unasked}
use Rattle.ds_query.proofs.Booleans.{and_both, or_neither, true≢false}

-- ---- one filter

abbrev pub ways_count : Op → ℕ
ways_count op.NotEqual = 2
ways_count _ = 1

one_more : (n k : ℕ) → k + n * k ≡ suc n * k
one_more n k = let e = suc-mul n k in omega arith

length-choices : (o : Op) (vs : List Value) → length (flat_map (λ v. ways o (as_indexed v)) vs) ≡ length vs * ways_count o
length-choices o [] = omega arith
length-choices o (v ∷ vs) =
    length-append (ways o (as_indexed v)) (flat_map (λ w. ways o (as_indexed w)) vs) ∙ (λ i. length-ways o i + length-choices o vs i) ∙ one_more (length vs) (ways_count o) where
      length-ways : (o : Op) → length (ways o (as_indexed v)) ≡ ways_count o
      length-ways op.NotEqual = refl
      length-ways op.Equal = refl
      length-ways op.Less = refl
      length-ways op.LessEqual = refl
      length-ways op.Greater = refl
      length-ways op.GreaterEqual = refl
      length-ways op.OneOf = refl

is_one : (n : ℕ) → (n == 1) ≡ true → n ≡ 1
is_one n h = grind (arith, nat_tests)

-- `!=` has one value, and gives two
pub length-choices_unequal : (f : Filter) → f.op ≡ op.NotEqual → IsTrue (has_operands f) → 2 ≡ length (choices f)
length-choices_unequal f e h =
    let n : length f.values ≡ 1 = is_one (length f.values) (subst (λ o. enough_values o (length f.values) ≡ true) e h) in
    sym (length-choices f.op f.values ∙ (λ i. n i * ways_count (e i)))

-- every other operator gives one condition for each value
pub length-choices_other : (f : Filter) → f.op ≢ op.NotEqual → length f.values ≡ length (choices f)
length-choices_other f h = sym (length-choices f.op f.values ∙ once f.op h (length f.values)) where
  once : (o : Op) → o ≢ op.NotEqual → (n : ℕ) → n * ways_count o ≡ n
  once op.NotEqual h n = absurd (h refl)
  once op.Equal h n = omega arith
  once op.Less h n = omega arith
  once op.LessEqual h n = omega arith
  once op.Greater h n = omega arith
  once op.GreaterEqual h n = omega arith
  once op.OneOf h n = omega arith

-- a filter asks something
pub choices_some : (f : Filter) → IsTrue (has_operands f) → 1 ≤ length (choices f)
choices_some f h = subst (λ n. 1 ≤ n) (sym (length-choices f.op f.values)) (some f.op (length f.values) h) where
  one : (n : ℕ) → (n == 1) ≡ true → 1 ≤ n * 1
  one n h = let e = is_one n h in omega arith

  some : (o : Op) (n : ℕ) → enough_values o n ≡ true → 1 ≤ n * ways_count o
  some op.NotEqual n h = let e = is_one n h in omega arith
  some op.Equal n h = one n h
  some op.Less n h = one n h
  some op.LessEqual n h = one n h
  some op.Greater n h = one n h
  some op.GreaterEqual n h = one n h
  some op.OneOf n h = let e : 1 ≤ n = grind (arith, nat_tests) in omega arith

-- ---- all filters

length-split_all : (cs : List Conditions) (f : Filter) → length (split_all cs f) ≡ length cs * length (choices f)
length-split_all [] f = omega arith
length-split_all (c ∷ cs) f =
    length-append (split_by f c) (split_all cs f) ∙ (λ i. length-map (choices f) (narrowed f.property c) i + length-split_all cs f i) ∙ one_more (length cs) (length (choices f))

-- one more filter multiplies
pub length-conditions_more : (filters : List Filter) (i : ℕ) (d : Filter) → i < length filters → length (conditions (take (i + 1) filters)) ≡ length (conditions (take i filters)) * length (choices (get_or filters i d))
length-conditions_more filters i d h =
    ap length (fold_more split_all (unasked ∷ []) filters i d h) ∙ length-split_all (conditions (take i filters)) (get_or filters i d)

-- a product that stops at a greatest number
pub capped_product : (a k most top : ℕ) → 1 ≤ k → most ≤ top → min (min (min a most * k) top) most ≡ min (a * k) most
capped_product a k most top some fits = at (nat_le a most) refl where
  at : (b : Bool) → nat_le a most ≡ b → min (min (min a most * k) top) most ≡ min (a * k) most
  at true h =
      let e : min a most ≡ a = grind (arith, nat_tests) in
      rw e (omega arith)
  at false h =
      let e : min a most ≡ most = grind (arith, nat_tests) in
      let above : most ≤ a = grind (arith, nat_tests) in
      let one : most * 1 ≤ most * k = mul-le-mul_left most some in
      let all : most * 1 ≤ a * k = mul-le-mul above some in
      rw e (omega arith)

all_at : {X : Type 0} (p : X → Bool) (xs : List X) (i : ℕ) (d : X) → i < length xs → list_all p xs ≡ true → p (get_or xs i d) ≡ true
all_at p xs i d h all = at (p (get_or xs i d)) refl where
  at : (b : Bool) → p (get_or xs i d) ≡ b → b ≡ true
  at true e = refl
  at false e = let fails = list_all_at p xs i d h e in cc

-- a step of the count
pub counted_more : (filters : List Filter) (i : ℕ) (d item : Filter) (count k product new : ℕ) → i < length filters → item ≡ get_or filters i d → IsTrue (list_all has_operands filters) → k ≡ length (choices item) → product ≡ min (count * k) (2 ^ 64 - 1) → new ≡ min product greatest_told
    → count ≡ min (length (conditions (take i filters))) greatest_told → new ≡ min (length (conditions (take (i + 1) filters))) greatest_told
counted_more filters i d item count k product new inside here all counted multiplied capped before =
    let so_far : ℕ = length (conditions (take i filters)) in
    let more : ℕ = length (choices (get_or filters i d)) in
    let k_is : k ≡ more = counted ∙ ap (λ f. length (choices f)) here in
    capped ∙ ap (λ n. min n greatest_told) (multiplied ∙ (λ j. min (before j * k_is j) (2 ^ 64 - 1)))
    ∙ capped_product so_far more greatest_told (2 ^ 64 - 1) (choices_some (get_or filters i d) (all_at has_operands filters i d inside all)) (lit≤ tt)
    ∙ ap (λ n. min n greatest_told) (sym (length-conditions_more filters i d inside))

-- ---- how many branches there are

-- there is a way
pub conditions_some : (filters : List Filter) → IsTrue (list_all has_operands filters) → 0 < length (conditions filters)
conditions_some filters all = some filters (unasked ∷ []) (lit≤ tt) all where
  grown : (n k : ℕ) → 1 ≤ n → 1 ≤ k → 1 ≤ n * k
  grown n k h g = let e : 1 * 1 ≤ n * k = mul-le-mul h g in omega arith

  some : (fs : List Filter) (cs : List Conditions) → 1 ≤ length cs → list_all has_operands fs ≡ true → 1 ≤ length (fold split_all cs fs)
  some [] cs h all = h
  some (f ∷ fs) cs h all =
      let both = and_both (has_operands f) (list_all has_operands fs) all in
      some fs (split_all cs f) (subst (λ n. 1 ≤ n) (sym (length-split_all cs f)) (grown (length cs) (length (choices f)) h (choices_some f both.0))) both.1

one_choice : (f : Filter) → IsTrue (has_operands f) → is_split f.op ≡ false → length (choices f) ≡ 1
one_choice f h single = length-choices f.op f.values ∙ at f.op (length f.values) h single where
  one : (n : ℕ) → (n == 1) ≡ true → n * 1 ≡ 1
  one n h = let e = is_one n h in omega arith

  at : (o : Op) (n : ℕ) → enough_values o n ≡ true → is_split o ≡ false → n * ways_count o ≡ 1
  at op.NotEqual n h e = absurd (true≢false e)
  at op.OneOf n h e = absurd (true≢false e)
  at op.Equal n h e = one n h
  at op.Less n h e = one n h
  at op.LessEqual n h e = one n h
  at op.Greater n h e = one n h
  at op.GreaterEqual n h e = one n h

-- without `!=` and `in` there is one
pub conditions_single : (filters : List Filter) → IsTrue (list_all has_operands filters) → is_several filters ≡ false → length (conditions filters) ≡ 1
conditions_single filters all none = single filters (unasked ∷ []) refl all none where
  single : (fs : List Filter) (cs : List Conditions) → length cs ≡ 1 → list_all has_operands fs ≡ true → list_any (λ f. is_split f.op) fs ≡ false → length (fold split_all cs fs) ≡ 1
  single [] cs h all none = h
  single (f ∷ fs) cs h all none =
      let both = and_both (has_operands f) (list_all has_operands fs) all in
      let neither = or_neither (is_split f.op) (list_any (λ g. is_split g.op) fs) none in
      single fs (split_all cs f) (length-split_all cs f ∙ (λ i. h i * one_choice f both.0 neither.0 i)) both.1 neither.1
