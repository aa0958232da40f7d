-- Ranges of numbers of which each begins where the one before it ends, and others.
use Rattle.std.proofs.Common.{◌≡◌, ℕ, zero, suc, ◌+◌, ◌-◌, ◌<◌, ◌≤◌, ◌⊎◌, inl, inr, Bool, true, false, cond, not, ◌&&◌, ◌==◌, nat_lt, List}
use Rattle.std.proofs.Common.{[], ◌∷◌, ◌++◌}
use Rattle.std.proofs.Common.{length, get_or, drop, refl, ap, sym, ◌∙◌, subst, arith, eq-eqb, ne_eqb, eqb-true, ltb-false, ltb-true, Option}
use Rattle.std.proofs.Common.{Some, None, append_assoc}
use Rattle.std.proofs.Common.{length-append, flat_map}
use Rattle.std.proofs.Math.Seq.{drop-cons}
use Rattle.std.proofs.lemmas.Bool.{and_parts, cases_lt}
use Rattle.std.specs.List.{range_with_len}
use Rattle.std.specs.List.Sorted.{IsNonDecreasingBy, IsPermutation}
use Rattle.std.proofs.lemmas.List.FromFn.{length-range_with_len}
use Rattle.std.proofs.lemmas.List.Sorted.{length_permutation, IsPermutation-sym, IsPermutation-trans}
use Rattle.ds_told.specs.Told.{AreIssued, AreUpTo, end_from, ids_of}
use Rattle.ds_base.specs.declared.key.Elem.{Elem}
use Rattle.ds_base.specs.declared.key.Ident.{Ident}
use Rattle.ds_model.specs.Legal.{last_id}
use Rattle.ds_model.specs.Sessions.{first_id}
use Rattle.ds_told.proofs.Counting.{count, count-append, count-moved, moved_by_counts, total, total-moved}

-- ---- one range

pub range-append : (a m n : ℕ) → range_with_len a (m + n) ≡ range_with_len a m ++ range_with_len (a + m) n
range-append a zero n =
    ap (λ k. range_with_len a k) (let e : 0 + n ≡ n = omega arith in e) ∙ ap (λ k. range_with_len k n) (let e : a ≡ a + 0 = omega arith in e)
range-append a (suc m) n =
    ap (λ k. range_with_len a k) (let e : suc m + n ≡ suc (m + n) = omega arith in e)
    ∙ ap (λ ns. a ∷ ns) (range-append (a + 1) m n ∙ ap (λ k. range_with_len (a + 1) m ++ range_with_len k n) (let e : a + 1 + m ≡ a + suc m = omega arith in e))

count-below : (q a n : ℕ) → q < a → count q (range_with_len a n) ≡ 0
count-below q a zero low = refl
count-below q a (suc n) low =
    ap (λ b. cond b 1 0 + count q (range_with_len (a + 1) n)) (ne_eqb a q (λ e. omega (arith, low, e)))
    ∙ (let rest = count-below q (a + 1) n (omega (arith, low)) in omega (arith, rest))

count-above : (q a n : ℕ) → a + n ≤ q → count q (range_with_len a n) ≡ 0
count-above q a zero high = refl
count-above q a (suc n) high =
    ap (λ b. cond b 1 0 + count q (range_with_len (a + 1) n)) (ne_eqb a q (λ e. omega (arith, high, e)))
    ∙ (let rest = count-above q (a + 1) n (omega (arith, high)) in omega (arith, rest))

count-in : (q a n : ℕ) → a ≤ q → q < a + n → count q (range_with_len a n) ≡ 1
count-in q a zero low high = absurd (omega (arith, low, high))
count-in q a (suc n) low high = by (count-in q (a + 1) n) (a == q) refl where
  by : (a + 1 ≤ q → q < a + 1 + n → count q (range_with_len (a + 1) n) ≡ 1) → (b : Bool) → (a == q) ≡ b
      → cond (a == q) 1 0 + count q (range_with_len (a + 1) n) ≡ 1
  by rest true is =
      ap (λ b. cond b 1 0 + count q (range_with_len (a + 1) n)) is
      ∙ (let none = count-below q (a + 1) n (omega (arith, eqb-true a q is)) in omega (arith, none))
  by rest false is =
      ap (λ b. cond b 1 0 + count q (range_with_len (a + 1) n)) is
      ∙ (let ne : (a ≡ q → ⊥) = λ e. not_both (eq-eqb a q e) is in
      let later = rest (omega (arith, low, ne)) (omega (arith, high)) in omega (arith, later))
    where
      not_both : (a == q) ≡ true → (a == q) ≡ false → ⊥
      not_both same differs = cc

-- ---- ranges that were moved

count-ids : (q : ℕ) (rs : List (ℕ × ℕ)) → count q (ids_of rs) ≡ total (λ (r : ℕ × ℕ). count q (range_with_len r.0 r.1)) rs
count-ids q [] = refl
count-ids q (r ∷ rs) =
    count-append q (range_with_len r.0 r.1) (ids_of rs)
    ∙ ap (λ n. count q (range_with_len r.0 r.1) + n) (count-ids q rs)

pub ids-moved : (rs ss : List (ℕ × ℕ)) → IsPermutation rs ss → IsPermutation (ids_of rs) (ids_of ss)
ids-moved rs ss moved =
    moved_by_counts (ids_of rs) (ids_of ss)
    (λ q. count-ids q rs ∙ total-moved (λ (r : ℕ × ℕ). count q (range_with_len r.0 r.1)) rs ss moved ∙ sym (count-ids q ss))

-- ---- where they end

-- a range that isn't apart begins at the end, or has no ids
joins : (e : ℕ) (r : ℕ × ℕ) → (nat_lt 0 r.1 && not (r.0 == e)) ≡ false → range_with_len r.0 r.1 ≡ range_with_len e r.1
joins e r is = by (nat_lt 0 r.1) refl (r.0 == e) refl is where
  by : (a : Bool) → nat_lt 0 r.1 ≡ a → (b : Bool) → (r.0 == e) ≡ b → (a && not b) ≡ false → range_with_len r.0 r.1 ≡ range_with_len e r.1
  by a some true same is = ap (λ k. range_with_len k r.1) (eqb-true r.0 e same)
  by false some false same is =
      let none : r.1 ≡ 0 = omega (arith, ltb-false 0 r.1 some) in
      ap (λ n. range_with_len r.0 n) none ∙ sym (ap (λ n. range_with_len e n) none)
  by true some false same is = cc

abbrev pub EndsAt : ℕ → List (ℕ × ℕ) → ℕ → Type 0
EndsAt e rs end = (e ≤ end) × (ids_of rs ≡ range_with_len e (end - e))

pub ends : (e end : ℕ) (rs : List (ℕ × ℕ)) → end_from e rs ≡ Some end → EndsAt e rs end
ends e end [] is =
    let same : e ≡ end = cc in
    (omega (arith, same), ap (λ n. range_with_len e n) (let none : 0 ≡ end - e = omega (arith, same) in none))
ends e end (r ∷ rs) is = by (ends (e + r.1) end rs) (nat_lt 0 r.1 && not (r.0 == e)) refl is where
  by : (end_from (e + r.1) rs ≡ Some end → EndsAt (e + r.1) rs end) → (b : Bool) → (nat_lt 0 r.1 && not (r.0 == e)) ≡ b
      → cond b None (end_from (e + r.1) rs) ≡ Some end → EndsAt e (r ∷ rs) end
  by rest true far is = cc
  by rest false near is =
      let later = rest is in
      let low = later.0 in (
        omega (arith, low),
        ap (λ ns. ns ++ ids_of rs) (joins e r near)
            ∙ ap (λ ns. range_with_len e r.1 ++ ns) later.1
            ∙ sym (range-append e r.1 (end - (e + r.1)))
            ∙ ap (λ n. range_with_len e n) (let n : r.1 + (end - (e + r.1)) ≡ end - e = omega (arith, low) in n),
      )

-- ---- where they don't

-- each begins no lower than this
abbrev AllFrom : ℕ → List (ℕ × ℕ) → Type 0
AllFrom k [] = Unit {0}
AllFrom k (r ∷ rs) = (k ≤ r.0) × AllFrom k rs

abbrev Rises : List (ℕ × ℕ) → Type 0
Rises [] = Unit {0}
Rises (r ∷ rs) = AllFrom r.0 rs × Rises rs

all_from : (k : ℕ) (rs : List (ℕ × ℕ)) → ((j : ℕ) (d : ℕ × ℕ) → j < length rs → k ≤ (get_or rs j d).0) → AllFrom k rs
all_from k [] each = tt
all_from k (r ∷ rs) each = (each 0 r (omega arith), all_from k rs (λ j d below. each (suc j) d (omega (arith, below))))

pub rises : (rs : List (ℕ × ℕ)) → IsNonDecreasingBy (λ (r : ℕ × ℕ). r.0) rs → Rises rs
rises [] up = tt
rises (r ∷ rs) up = (
  all_from r.0 rs (λ j d below. up 0 (suc j) d (omega arith) (omega (arith, below))),
  rises rs (λ i j d le below. up (suc i) (suc j) d (omega (arith, le)) (omega (arith, below))),
)

count-from : (q k : ℕ) (rs : List (ℕ × ℕ)) → q < k → AllFrom k rs → count q (ids_of rs) ≡ 0
count-from q k [] low all = refl
count-from q k (r ∷ rs) low all =
    count-append q (range_with_len r.0 r.1) (ids_of rs)
    ∙ (let from = all.0 in
    let here = count-below q r.0 r.1 (omega (arith, low, from)) in
    let later = count-from q k rs low all.1 in omega (arith, here, later))

at_most : (q a n : ℕ) → count q (range_with_len a n) ≤ 1
at_most q a zero = omega arith
at_most q a (suc n) = by (at_most q (a + 1) n) (a == q) refl where
  by : count q (range_with_len (a + 1) n) ≤ 1 → (b : Bool) → (a == q) ≡ b → cond (a == q) 1 0 + count q (range_with_len (a + 1) n) ≤ 1
  by rest true is =
      let none = count-below q (a + 1) n (omega (arith, eqb-true a q is)) in
      let here : ◌≡◌ {A = ℕ} (cond (a == q) 1 0) 1 = ap (λ b. cond b 1 0) is in omega (arith, none, here)
  by rest false is = let here : ◌≡◌ {A = ℕ} (cond (a == q) 1 0) 0 = ap (λ b. cond b 1 0) is in omega (arith, rest, here)

-- ids up to e, and then ranges the first of which stands apart: no numbers from a on, each once
gap : (a e n : ℕ) (r : ℕ × ℕ) (rs : List (ℕ × ℕ)) → a ≤ e → 0 < r.1 → (r.0 ≡ e → ⊥) → AllFrom r.0 rs
    → IsPermutation (range_with_len a (e - a) ++ (range_with_len r.0 r.1 ++ ids_of rs)) (range_with_len a n) → ⊥
gap a e n r rs low some far all moved = by (cases_lt r.0 e) (cases_lt r.0 a) where
  whole : List ℕ
  whole = range_with_len a (e - a) ++ (range_with_len r.0 r.1 ++ ids_of rs)

  parts : (q : ℕ) → count q (range_with_len a (e - a)) + (count q (range_with_len r.0 r.1) + count q (ids_of rs)) ≡ count q (range_with_len a n)
  parts q =
      let first = count-append q (range_with_len a (e - a)) (range_with_len r.0 r.1 ++ ids_of rs) in
      let second = count-append q (range_with_len r.0 r.1) (ids_of rs) in
      let all = count-moved q (range_with_len a (e - a) ++ (range_with_len r.0 r.1 ++ ids_of rs)) (range_with_len a n) moved in
      omega (arith, first, second, all)

  long : e - a + r.1 ≤ n
  long =
      let one = length-append (range_with_len a (e - a)) (range_with_len r.0 r.1 ++ ids_of rs) in
      let two = length-append (range_with_len r.0 r.1) (ids_of rs) in
      let all = length_permutation (range_with_len a (e - a) ++ (range_with_len r.0 r.1 ++ ids_of rs)) (range_with_len a n) moved in
      omega (arith, one, two, all, length-range_with_len a (e - a), length-range_with_len r.0 r.1, length-range_with_len a n)

  own : count r.0 (range_with_len r.0 r.1) ≡ 1
  own = count-in r.0 r.0 r.1 (omega arith) (omega (arith, some))

  by : (r.0 < e) ⊎ (e ≤ r.0) → (r.0 < a) ⊎ (a ≤ r.0) → ⊥
  by (inl before) (inl out) =
      let none = count-below r.0 a n out in let all = parts r.0 in omega (arith, none, all, own)
  by (inl before) (inr within) =
      let one = count-in r.0 a (e - a) within (omega (arith, before, low)) in
      let all = parts r.0 in
      let most = at_most r.0 a n in omega (arith, one, all, own, most)
  by (inr behind) other =
      let front = count-above e a (e - a) (omega (arith, low)) in
      let above : e < r.0 = omega (arith, behind, far) in
      let here = count-below e r.0 r.1 above in
      let later = count-from e r.0 rs above all in
      let one = count-in e a n low (omega (arith, low, long, some)) in
      let sum = parts e in omega (arith, front, here, later, one, sum)

unequal : (b : Bool) → b ≡ true → not b ≡ true → ⊥
unequal true is not_is = cc
unequal false is not_is = cc

pub no_end : (a e n : ℕ) (rs : List (ℕ × ℕ)) → a ≤ e → Rises rs → end_from e rs ≡ None
    → IsPermutation (range_with_len a (e - a) ++ ids_of rs) (range_with_len a n) → ⊥
no_end a e n [] low up none moved = cc
no_end a e n (r ∷ rs) low up none moved = by (no_end a (e + r.1) n rs) (nat_lt 0 r.1 && not (r.0 == e)) refl none where
  by : (a ≤ e + r.1 → Rises rs → end_from (e + r.1) rs ≡ None → IsPermutation (range_with_len a (e + r.1 - a) ++ ids_of rs) (range_with_len a n) → ⊥)
      → (b : Bool) → (nat_lt 0 r.1 && not (r.0 == e)) ≡ b → cond b None (end_from (e + r.1) rs) ≡ None → ⊥
  by rest true far none =
      let p = and_parts (nat_lt 0 r.1) (not (r.0 == e)) far in
      gap a e n r rs low (ltb-true 0 r.1 p.0) (λ same. unequal (r.0 == e) (eq-eqb r.0 e same) p.1) up.0 moved
  by rest false near none =
      rest (omega (arith, low)) up.1 none
      (subst (λ ns. IsPermutation ns (range_with_len a n))
      (ap (λ ns. range_with_len a (e - a) ++ (ns ++ ids_of rs)) (joins e r near)
      ∙ sym (append_assoc (range_with_len a (e - a)) (range_with_len e r.1) (ids_of rs))
      ∙ ap (λ ns. ns ++ ids_of rs)
      (ap (λ k. range_with_len a (e - a) ++ range_with_len k r.1) (let k : e ≡ a + (e - a) = omega (arith, low) in k)
      ∙ sym (range-append a (e - a) r.1)
      ∙ ap (λ k. range_with_len a k) (let k : e - a + r.1 ≡ e + r.1 - a = omega (arith, low) in k)))
      moved)

-- ---- one range after another

none_is : (b : Bool) (later : Option ℕ) → b ≡ true → cond b None later ≡ None
none_is b later is = ap (λ t. cond t None later) is

goes-on : (b : Bool) (later : Option ℕ) → b ≡ false → cond b None later ≡ later
goes-on b later is = ap (λ t. cond t None later) is

-- a range that isn't apart
pub end-more : (first e i : ℕ) (rs : List (ℕ × ℕ)) (r : ℕ × ℕ) → i < length rs → get_or rs i (0, 0) ≡ r
    → end_from first rs ≡ end_from e (drop i rs) → (nat_lt 0 r.1 && not (r.0 == e)) ≡ false
    → end_from first rs ≡ end_from (e + r.1) (drop (i + 1) rs)
end-more first e i rs r within is so_far near =
    so_far
    ∙ ap (end_from e) (drop-cons rs i (0, 0) within)
    ∙ ap (λ (x : ℕ × ℕ). end_from e (x ∷ drop (suc i) rs)) is
    ∙ goes-on (nat_lt 0 r.1 && not (r.0 == e)) (end_from (e + r.1) (drop (suc i) rs)) near
    ∙ ap (λ k. end_from (e + r.1) (drop k rs)) (let k : suc i ≡ i + 1 = omega arith in k)

-- one that is
pub end-none : (first e i : ℕ) (rs : List (ℕ × ℕ)) (r : ℕ × ℕ) → i < length rs → get_or rs i (0, 0) ≡ r
    → end_from first rs ≡ end_from e (drop i rs) → (nat_lt 0 r.1 && not (r.0 == e)) ≡ true → end_from first rs ≡ None
end-none first e i rs r within is so_far far =
    so_far
    ∙ ap (end_from e) (drop-cons rs i (0, 0) within)
    ∙ ap (λ (x : ℕ × ℕ). end_from e (x ∷ drop (suc i) rs)) is
    ∙ none_is (nat_lt 0 r.1 && not (r.0 == e)) (end_from (e + r.1) (drop (suc i) rs)) far

-- where a range isn't apart its end is within
pub within-more : (e most : ℕ) (r : ℕ × ℕ) → e ≤ most → r.0 + r.1 ≤ most → (nat_lt 0 r.1 && not (r.0 == e)) ≡ false → e + r.1 ≤ most
within-more e most r low within near = by (nat_lt 0 r.1) refl (r.0 == e) refl near where
  by : (a : Bool) → nat_lt 0 r.1 ≡ a → (b : Bool) → (r.0 == e) ≡ b → (a && not b) ≡ false → e + r.1 ≤ most
  by a some true same is = let at : r.0 ≡ e = eqb-true r.0 e same in omega (arith, at, within)
  by false none false same is = let no : r.1 ≤ 0 = ltb-false 0 r.1 none in omega (arith, no, low)
  by true some false same is = cc

-- ---- ranges in their order

-- whether the ids of ranges are all from the first one on is told by the ranges in their order
pub found_sorted : (rs ss : List (ℕ × ℕ)) (o : Option ℕ) → IsPermutation rs ss → IsNonDecreasingBy (λ (r : ℕ × ℕ). r.0) ss
    → o ≡ end_from first_id ss → AreUpTo rs o
found_sorted rs ss None moved up is = λ bound low are.
    no_end first_id first_id (bound - first_id) ss (omega arith) (rises ss up) (sym is)
    (subst (λ ns. IsPermutation ns (range_with_len first_id (bound - first_id)))
    (ap (λ k. range_with_len first_id k ++ ids_of ss) (let none : 0 ≡ first_id - first_id = omega arith in none))
    (IsPermutation-trans (ids_of ss) (ids_of rs) (range_with_len first_id (bound - first_id)) (IsPermutation-sym (ids_of rs) (ids_of ss) (ids-moved rs ss moved)) are))
found_sorted rs ss (Some end) moved up is =
    let at = ends first_id end ss (sym is) in
    (at.0, subst (λ ns. IsPermutation (ids_of rs) ns) at.1 (ids-moved rs ss moved))

-- ---- ids that are issued

pub issued_up : (drawn : List (ℕ × ℕ)) (accepted printed end : ℕ) → AreUpTo drawn (Some end) → accepted ≤ end → printed ≤ end
    → AreIssued drawn accepted printed
issued_up drawn accepted printed end up low within =
    record { bound = end; from_first = up.0; each_once = up.1; accepted_below = low; printed_within = within }

-- the ids end there alone
pub issued_down : (drawn : List (ℕ × ℕ)) (accepted printed end : ℕ) → AreUpTo drawn (Some end) → AreIssued drawn accepted printed
    → (accepted ≤ end) × (printed ≤ end)
issued_down drawn accepted printed end up issued =
    let one = length_permutation (ids_of drawn) (range_with_len first_id (end - first_id)) up.1 in
    let two = length_permutation (ids_of drawn) (range_with_len first_id (issued.bound - first_id)) issued.each_once in
    let first = up.0 in
    let from = issued.from_first in
    let same : issued.bound ≡ end =
    omega (arith, one, two, first, from, length-range_with_len first_id (end - first_id), length-range_with_len first_id (issued.bound - first_id)) in
    let low = issued.accepted_below in
    let within = issued.printed_within in (omega (arith, same, low), omega (arith, same, within))

-- ---- the last element of a path

pub last_told : (es : List Elem) (e : Elem) (i : ℕ) → suc i ≡ length es → get_or es i e ≡ e → last_id es ≡ last_id (e ∷ [])
last_told [] e i counted is = absurd (omega (arith, counted))
last_told (f ∷ []) e zero counted is = ap (λ x. last_id (x ∷ [])) is
last_told (f ∷ []) e (suc i) counted is = absurd (omega (arith, counted))
last_told (f ∷ g ∷ es) e zero counted is = absurd (omega (arith, counted))
last_told (f ∷ g ∷ es) e (suc i) counted is = last_told (g ∷ es) e i (omega (arith, counted)) is

pub last_as : (e : Elem) (i : Ident) → e.ident ≡ i → last_id (e ∷ []) ≡ last_id ((record e { ident = i }) ∷ [])
last_as e i is = ap (λ (j : Ident). last_id ((record e { ident = j }) ∷ [])) is
