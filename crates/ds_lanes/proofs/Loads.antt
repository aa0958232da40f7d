-- Which lanes the comparisons of the kernels set, of a vector that was loaded from a slice.
use Rattle.std.proofs.Common.{◌≡◌, ℕ, ◌+◌, ◌<◌, ◌≤◌, Bool, true, false, refl, cond, List, map, length, get_or, replicate, eqb, leb, ltb}
use Rattle.std.proofs.Common.{not, ap, ap₂, sym, ◌∙◌, lit≤, arith, w64}
use Rattle.std.specs.Prelude.{◌&&◌}
use Rattle.std.proofs.lemmas.Bool.Decides.{nat_tests}
use Rattle.std.proofs.lemmas.Simd.{get_or-chunk, get_or-replicate, get_or-sel_l, get_or-zip2, length-chunk, length-replicate, length-sel_l}
use Rattle.std.proofs.lemmas.Simd.{length-zip2, tops_compared}
use lib.Lanes.{chunk, sel_l, top, zip2}
use Rattle.ds_lanes.specs.Hits.{differ_at, visible_at, zero_at}
use Rattle.ds_lanes.proofs.Marked.{Tells, compared}

pub zeros : (bytes : List ℕ) (i n : ℕ) → i + n ≤ length bytes
    → Tells (λ j. zero_at bytes (i + j)) n 7 (zip2 (λ a b. cond (eqb a b) 255 0) (chunk i n bytes) (replicate n 0))
zeros bytes i n room =
    compared (λ j. zero_at bytes (i + j)) eqb n 7 255 (chunk i n bytes) (replicate n 0) (lit≤ tt) refl (length-chunk i n bytes room) (length-replicate n 0)
    (λ k lt. ap₂ eqb (get_or-chunk i n bytes k 0 lt) (get_or-replicate n k 0 0 lt))

pub differing : (xs ys : List ℕ) (i n : ℕ) → i + n ≤ length xs → i + n ≤ length ys
    → Tells (λ j. differ_at xs ys (i + j)) n 7 (zip2 (λ a b. cond (not (eqb a b)) 255 0) (chunk i n xs) (chunk i n ys))
differing xs ys i n room_x room_y =
    compared (λ j. differ_at xs ys (i + j)) (λ a b. not (eqb a b)) n 7 255 (chunk i n xs) (chunk i n ys) (lit≤ tt) refl
    (length-chunk i n xs room_x) (length-chunk i n ys room_y)
    (λ k lt. ap₂ (λ a b. not (eqb a b)) (get_or-chunk i n xs k 0 lt) (get_or-chunk i n ys k 0 lt))

-- the ends of the entries that began by the stamp `at`, and 0 for each other
pub ends : (from to : List ℕ) (at i n : ℕ) → i + n ≤ length from → i + n ≤ length to
    → let lanes = sel_l (map (top 63) (zip2 (λ a b. cond (leb a b) 18446744073709551615 0) (chunk i n from) (replicate n at))) (chunk i n to) (replicate n 0) in
    (length lanes ≡ n) × ((k : ℕ) → k < n → get_or lanes k 0 ≡ cond (leb (get_or from (i + k) 0) at) (get_or to (i + k) 0) 0)
ends from to at i n room_from room_to =
    let xs = chunk i n from in
    let ys = chunk i n to in
    let masks = tops_compared w64 leb xs (replicate n at) in
    let long_x = length-chunk i n from room_from in
    let long_y = length-chunk i n to room_to in
    let long_m = ap length masks ∙ length-zip2 leb xs (replicate n at) (long_x ∙ sym (length-replicate n at)) ∙ long_x in
    let long_0 : length (replicate {A = ℕ} n 0) ≡ n = length-replicate n 0 in (
      length-sel_l _ ys (replicate n 0) (long_m ∙ sym long_y) (long_m ∙ sym long_0) ∙ long_m,
      λ k lt.
          let begun =
          ap (λ l. get_or l k false) masks ∙ get_or-zip2 leb xs (replicate n at) k 0 0 false (omega arith) (omega (arith, length-replicate n at))
          ∙ ap₂ leb (get_or-chunk i n from k 0 lt) (get_or-replicate n k at 0 lt) in
          get_or-sel_l _ ys (replicate n 0) k 0 (omega arith) (omega arith) (omega arith)
          ∙ ap (λ b. cond b (get_or ys k 0) (get_or (replicate n 0) k 0)) begun
          ∙ ap₂ (cond (leb (get_or from (i + k) 0) at)) (get_or-chunk i n to k 0 lt) (get_or-replicate n k 0 0 lt),
    )

not_lt_zero : (n : ℕ) → ltb n 0 ≡ false
not_lt_zero n = grind (arith, nat_tests)

-- the end of an entry that has begun is after `at`, and 0 never is
seen_by_end : (b : Bool) (t at : ℕ) → ltb at (cond b t 0) ≡ b && ltb at t
seen_by_end true t at = refl
seen_by_end false t at = not_lt_zero at

pub seen : (from to es : List ℕ) (at i n : ℕ) → length es ≡ n
    → ((k : ℕ) → k < n → get_or es k 0 ≡ cond (leb (get_or from (i + k) 0) at) (get_or to (i + k) 0) 0)
    → Tells (λ j. visible_at from to at (i + j)) n 63 (zip2 (λ a b. cond (ltb a b) 18446744073709551615 0) (replicate n at) es)
seen from to es at i n long each =
    compared (λ j. visible_at from to at (i + j)) ltb n 63 18446744073709551615 (replicate n at) es (lit≤ tt) refl (length-replicate n at) long
    (λ k lt.
    ap₂ ltb (get_or-replicate n k at 0 lt) (each k lt) ∙ seen_by_end (leb (get_or from (i + k) 0) at) (get_or to (i + k) 0) at)
