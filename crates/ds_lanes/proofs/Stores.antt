-- A vector of 32 bytes that is stored by its halves, and the complement of one.
use Rattle.std.proofs.Common.{◌≡◌, ℕ, ◌+◌, ◌-◌, ◌%◌, ◌<◌, ◌≤◌, List, ◌++◌, length, get_or, replicate, Fits, w8, ap, ap₂, sym, ◌∙◌, subst}
use Rattle.std.proofs.Common.{arith, zero-add, inl, inr}
use Rattle.std.proofs.lemmas.Bool.{cases_lt}
use Rattle.std.proofs.lemmas.Simd.{get_or-chunk, get_or-put_chunk_at, get_or-put_chunk_below, get_or-replicate, get_or-zip2, length-chunk}
use Rattle.std.proofs.lemmas.Simd.{length-put_chunk, length-replicate, length-zip2, pick_l_left, pick_l-range_with_len}
use Rattle.std.specs.List.{range_with_len}
use lib.Lanes.{chunk, pick_l, put_chunk, zip2}

module _ (dst lanes : List ℕ) (at : ℕ) (long : length lanes ≡ 32) (room : at + 32 ≤ length dst) where
  abbrev low : List ℕ
  low = pick_l 0 (lanes ++ lanes) (range_with_len 0 16)

  abbrev high : List ℕ
  high = pick_l 0 (lanes ++ lanes) (range_with_len 16 16)

  abbrev stored : List ℕ
  stored = put_chunk (at + 16) (put_chunk at dst low) high

  low_is : low ≡ chunk 0 16 lanes
  low_is = pick_l_left 0 lanes lanes 32 (range_with_len 0 16) long tt ∙ pick_l-range_with_len 0 lanes 0 16 (omega arith)

  high_is : high ≡ chunk 16 16 lanes
  high_is = pick_l_left 0 lanes lanes 32 (range_with_len 16 16) long tt ∙ pick_l-range_with_len 0 lanes 16 16 (omega arith)

  long_low : length low ≡ 16
  long_low = ap length low_is ∙ length-chunk 0 16 lanes (omega arith)

  long_high : length high ≡ 16
  long_high = ap length high_is ∙ length-chunk 16 16 lanes (omega arith)

  pub stored_kept : (k : ℕ) → k < at → get_or stored k 0 ≡ get_or dst k 0
  stored_kept k lt = get_or-put_chunk_below (at + 16) (put_chunk at dst low) high k 0 (omega arith) ∙ get_or-put_chunk_below at dst low k 0 lt

  pub stored_written : (k : ℕ) → k < 32 → get_or stored (at + k) 0 ≡ get_or lanes k 0
  stored_written k lt =
      elim (cases_lt k 16) [
        | inl early ↦
            get_or-put_chunk_below (at + 16) (put_chunk at dst low) high (at + k) 0 (omega arith)
            ∙ get_or-put_chunk_at at dst low k 0 (omega (arith, long_low)) (omega (arith, long_low))
            ∙ ap (λ l. get_or l k 0) low_is ∙ get_or-chunk 0 16 lanes k 0 early ∙ ap (λ j. get_or lanes j 0) (zero-add k)
        | inr late ↦
            let rest : k - 16 < 16 = omega arith in
            let place : at + k ≡ at + 16 + (k - 16) = omega arith in
            let back : 16 + (k - 16) ≡ k = omega arith in
            ap (λ j. get_or stored j 0) place
            ∙ get_or-put_chunk_at (at + 16) (put_chunk at dst low) high (k - 16) 0 (omega (arith, long_high)) (omega (arith, long_high, length-put_chunk at dst low))
            ∙ ap (λ l. get_or l (k - 16) 0) high_is ∙ get_or-chunk 16 16 lanes (k - 16) 0 rest ∙ ap (λ j. get_or lanes j 0) back
      ]

turned : (b : ℕ) → b < 256 → (255 + (256 - b)) % 256 ≡ 255 - b
turned b lt = omega arith

pub complemented : (src : List ℕ) (at n : ℕ) → at + n ≤ length src → ((k : ℕ) → Fits w8 (get_or src k 0))
    → let lanes = zip2 (λ a b. (a + (256 - b)) % 256) (replicate n 255) (chunk at n src) in
    (length lanes ≡ n) × ((k : ℕ) → k < n → get_or lanes k 0 ≡ 255 - get_or src (at + k) 0)
complemented src at n room fits =
    let long = length-chunk at n src room in
    let splat : length (replicate {A = ℕ} n 255) ≡ n = length-replicate n 255 in (
      length-zip2 (λ a b. (a + (256 - b)) % 256) (replicate n 255) (chunk at n src) (splat ∙ sym long) ∙ splat,
      λ k lt.
          get_or-zip2 (λ a b. (a + (256 - b)) % 256) (replicate n 255) (chunk at n src) k 0 0 0 (omega arith) (omega arith)
          ∙ ap₂ (λ a b. (a + (256 - b)) % 256) (get_or-replicate n k 255 0 lt) (get_or-chunk at n src k 0 lt)
          ∙ turned (get_or src (at + k) 0) (fits (at + k)).fits,
    )

-- a vector that is complemented and stored whole
module _ (dst src : List ℕ) (at n : ℕ) (room : at + n ≤ length src) (same : length dst ≡ length src) where
  abbrev whole : List ℕ
  whole = zip2 (λ a b. (a + (256 - b)) % 256) (replicate n 255) (chunk at n src)

  pub turned_kept : (k : ℕ) → k < at → get_or (put_chunk at dst whole) k 0 ≡ get_or dst k 0
  turned_kept k lt = get_or-put_chunk_below at dst whole k 0 lt

  pub turned_written : ((k : ℕ) → Fits w8 (get_or src k 0)) → (k : ℕ) → at ≤ k → k < at + n → get_or (put_chunk at dst whole) k 0 ≡ 255 - get_or src k 0
  turned_written fits k from to =
      let parts = complemented src at n room fits in
      let back : at + (k - at) ≡ k = omega arith in
      subst (λ j. get_or (put_chunk at dst whole) j 0 ≡ 255 - get_or src j 0) back
      (get_or-put_chunk_at at dst whole (k - at) 0 (omega (arith, parts.0)) (omega (arith, parts.0)) ∙ parts.1 (k - at) (omega arith))
