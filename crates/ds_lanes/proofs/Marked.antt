-- From the bits of a comparison to the lanes that it read.
use Rattle.std.proofs.Common.{◌≡◌, ℕ, ◌+◌, ◌-◌, ◌*◌, ◌%◌, ◌^◌, ◌<◌, ◌≤◌, Bool, true, false, not, cond, List, map, length, get_or, bit_or}
use Rattle.std.proofs.Common.{ap, sym, ◌∙◌, subst, arith, inl, inr}
use Rattle.std.proofs.lemmas.Bool.{cases_lt, cond-true, cond-false, false_from_ne_true, true_from_ne_false, le-leb, not-true, not-false}
use Rattle.std.proofs.lemmas.List.{length-map}
use Rattle.std.proofs.lemmas.List.Sums.{prefix_len-le-length, prefix_len_passes, prefix_len_stops}
use Rattle.std.proofs.lemmas.Nat.{le_or_l, le_or_r}
use Rattle.std.proofs.lemmas.Simd.{first_set_mask_l, get_or-zip2, length-zip2, mask_l-mod}
use Rattle.std.specs.List.{prefix_len}
use lib.Lanes.{mask_l, top, zip2}
use Rattle.ds_lanes.specs.Hits.{NoneIn, IsFirstHit, lanes_before}

-- a mask of n lanes, where lane k is set, in its bit h, at least where k is a hit
pub record Marks (hit : ℕ → Bool) (n h : ℕ) (mask : List ℕ) : Type 0 where
  pub long : length mask ≡ n
  pub each : (k : ℕ) → k < n → hit k ≡ true → 2 ^ h ≤ get_or mask k 0

-- such a mask, where lane k is set exactly where k is a hit
pub record Tells (hit : ℕ → Bool) (n h : ℕ) (mask : List ℕ) : Type 0 where
  pub marks : Marks hit n h mask
  pub only : (k : ℕ) → k < n → hit k ≡ false → top h (get_or mask k 0) ≡ false

-- a comparison tells the lanes at which it holds
pub compared : (hit : ℕ → Bool) (t : ℕ → ℕ → Bool) (n h full : ℕ) (xs ys : List ℕ) → 2 ^ h ≤ full → top h 0 ≡ false → length xs ≡ n → length ys ≡ n
    → ((k : ℕ) → k < n → t (get_or xs k 0) (get_or ys k 0) ≡ hit k)
    → Tells hit n h (zip2 (λ a b. cond (t a b) full 0) xs ys)
compared hit t n h full xs ys high clear long_xs long_ys is = record {
  marks = record {
    long = length-zip2 _ xs ys (long_xs ∙ sym long_ys) ∙ long_xs;
    each = λ k lt yes.
        let at = get_or-zip2 (λ a b. cond (t a b) full 0) xs ys k 0 0 0 (omega arith) (omega arith) ∙ cond-true _ full 0 (is k lt ∙ yes) in
        subst (λ x. 2 ^ h ≤ x) (sym at) high;
  };
  only = λ k lt no.
      let at = get_or-zip2 (λ a b. cond (t a b) full 0) xs ys k 0 0 0 (omega arith) (omega arith) ∙ cond-false _ full 0 (is k lt ∙ no) in
      ap (top h) at ∙ clear;
}

pub either_left : (hit : ℕ → Bool) (n h : ℕ) (a b : List ℕ) → Marks hit n h a → length b ≡ n → Marks hit n h (zip2 bit_or a b)
either_left hit n h a b m long = record {
  long = length-zip2 bit_or a b (m.long ∙ sym long) ∙ m.long;
  each = λ k lt yes.
      let at = get_or-zip2 bit_or a b k 0 0 0 (omega (arith, m.long)) (omega arith) in
      subst (λ x. 2 ^ h ≤ x) (sym at) (omega (arith, m.each k lt yes, le_or_l (get_or a k 0) (get_or b k 0)));
}

pub either_right : (hit : ℕ → Bool) (n h : ℕ) (a b : List ℕ) → length a ≡ n → Marks hit n h b → Marks hit n h (zip2 bit_or a b)
either_right hit n h a b long m = record {
  long = length-zip2 bit_or a b (long ∙ sym m.long) ∙ long;
  each = λ k lt yes.
      let at = get_or-zip2 bit_or a b k 0 0 0 (omega arith) (omega (arith, m.long)) in
      subst (λ x. 2 ^ h ≤ x) (sym at) (omega (arith, m.each k lt yes, le_or_r (get_or a k 0) (get_or b k 0)));
}

-- a lane before the first set one is no hit
unset : (hit : ℕ → Bool) (n h : ℕ) (mask : List ℕ) → Marks hit n h mask → (k : ℕ) → k < prefix_len (λ x. not (top h x)) mask → hit k ≡ false
unset hit n h mask m k lt =
    let clear : top h (get_or mask k 0) ≡ false = not-true _ (prefix_len_passes (λ x. not (top h x)) mask k 0 lt) in
    let inside : k < n = omega (arith, prefix_len-le-length (λ x. not (top h x)) mask, m.long) in
    false_from_ne_true (hit k) (λ yes. let set : top h (get_or mask k 0) ≡ true = le-leb _ _ (m.each k inside yes) in cc)

bits_of : (hit : ℕ → Bool) (n h : ℕ) (mask : List ℕ) → Marks hit n h mask → n ≤ 64
    → lanes_before (mask_l (map (top h) mask) % 2 ^ 64) n ≡ prefix_len (λ x. not (top h x)) mask
bits_of hit n h mask m few =
    ap (λ b. lanes_before b n) (mask_l-mod (map (top h) mask) 64 (omega (arith, length-map mask (top h), m.long)))
    ∙ first_set_mask_l (top h) mask n m.long few

-- the lanes before the first set bit, at the places from i on
pub passed_before : (hit : ℕ → Bool) (i n h r : ℕ) (mask : List ℕ) → Marks (λ j. hit (i + j)) n h mask → n ≤ 64
    → r ≡ lanes_before (mask_l (map (top h) mask) % 2 ^ 64) n → (r ≤ n) × NoneIn hit i (i + r)
passed_before hit i n h r mask m few is =
    let counted = is ∙ bits_of _ n h mask m few in (
      omega (arith, counted, prefix_len-le-length (λ x. not (top h x)) mask, m.long),
      λ k from to.
          let back : i + (k - i) ≡ k = omega arith in
          subst (λ j. hit j ≡ false) back (unset _ n h mask m (k - i) (omega (arith, counted))),
    )

-- the lane of the first set bit is a hit
first_set : (hit : ℕ → Bool) (n h r : ℕ) (mask : List ℕ) → Tells hit n h mask → r ≡ prefix_len (λ x. not (top h x)) mask → r < n → hit r ≡ true
first_set hit n h r mask m is lt =
    let inside : prefix_len (λ x. not (top h x)) mask < length mask = omega (arith, is, m.marks.long) in
    let stops : not (top h (get_or mask r 0)) ≡ false = ap (λ k. not (top h (get_or mask k 0))) is ∙ prefix_len_stops (λ x. not (top h x)) mask 0 inside in
    let set : top h (get_or mask r 0) ≡ true = not-false _ stops in
    true_from_ne_false (hit r) (λ no. let clear : top h (get_or mask r 0) ≡ false = m.only r lt no in cc)

-- so the place before which so many lanes are is the first hit
pub first_place : (hit : ℕ → Bool) (i n h r : ℕ) (mask : List ℕ) → Tells (λ j. hit (i + j)) n h mask → n ≤ 64
    → r ≡ lanes_before (mask_l (map (top h) mask) % 2 ^ 64) n → IsFirstHit hit i (i + n) (i + r)
first_place hit i n h r mask m few is =
    let parts = passed_before hit i n h r mask m.marks few is in
    record {
      within = omega (arith, parts.0);
      passed = parts.1;
      here = λ lt. first_set (λ j. hit (i + j)) n h r mask m (is ∙ bits_of _ n h mask m.marks few) (omega arith);
    }

-- a mask with no bit set, at the places from i on
pub passed_all : (hit : ℕ → Bool) (i n h : ℕ) (mask : List ℕ) → Marks (λ j. hit (i + j)) n h mask → n ≤ 64
    → mask_l (map (top h) mask) % 2 ^ 64 ≡ 0 → NoneIn hit i (i + n)
passed_all hit i n h mask m few none =
    (passed_before hit i n h n mask m few (sym (ap (λ b. lanes_before b n) none))).1

pub NoneIn-append : (hit : ℕ → Bool) (i j k : ℕ) → NoneIn hit i j → NoneIn hit j k → NoneIn hit i k
NoneIn-append hit i j k front back m from to = elim (cases_lt m j) [ inl early ↦ front m from early | inr late ↦ back m late to ]

-- four masks of neighbouring runs of places, joined, with no bit set
pub block_passed : (hit : ℕ → Bool) (i n h : ℕ) (a b c d : List ℕ)
    → Marks (λ j. hit (i + j)) n h a → Marks (λ j. hit (i + n + j)) n h b
    → Marks (λ j. hit (i + 2 * n + j)) n h c → Marks (λ j. hit (i + 3 * n + j)) n h d → n ≤ 64
    → mask_l (map (top h) (zip2 bit_or (zip2 bit_or a b) (zip2 bit_or c d))) % 2 ^ 64 ≡ 0 → NoneIn hit i (i + 4 * n)
block_passed hit i n h a b c d ma mb mc md few none =
    let front = (either_left _ n h a b ma mb.long).long in
    let back = (either_left _ n h c d mc md.long).long in
    let ab = zip2 bit_or a b in
    let cd = zip2 bit_or c d in
    let in_a = passed_all hit i n h _ (either_left _ n h ab cd (either_left _ n h a b ma mb.long) back) few none in
    let in_b = passed_all hit (i + n) n h _ (either_left _ n h ab cd (either_right _ n h a b ma.long mb) back) few none in
    let in_c = passed_all hit (i + 2 * n) n h _ (either_right _ n h ab cd front (either_left _ n h c d mc md.long)) few none in
    let in_d = passed_all hit (i + 3 * n) n h _ (either_right _ n h ab cd front (either_right _ n h c d mc.long md)) few none in
    λ k from to.
    elim (cases_lt k (i + n)) [
      | inl first ↦ in_a k from first
      | inr past_a ↦
          elim (cases_lt k (i + 2 * n)) [
            | inl second ↦ in_b k past_a (omega arith)
            | inr past_b ↦
                elim (cases_lt k (i + 3 * n)) [
                  | inl third ↦ in_c k past_b (omega arith)
                  | inr past_c ↦ in_d k past_c (omega arith)
                ]
          ]
    ]
