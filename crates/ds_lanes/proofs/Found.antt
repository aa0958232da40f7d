-- A place up to which no place is a hit, and which is one, is what the definition gives.
use Rattle.std.proofs.Common.{◌≡◌, ◌≢◌, ℕ, zero, suc, ◌+◌, ◌<◌, ◌≤◌, true, false, List, [], ◌∷◌, length, get_or, take, eqb, sym, ◌∙◌, arith}
use Rattle.std.proofs.lemmas.Bool.{cond-true, cond-false, eq-eqb, eqb-false, eqb-true, ne_eqb, not-false}
use Rattle.std.proofs.lemmas.Bool.Decides.{nat_tests}
use Rattle.std.proofs.lemmas.List.{ext_get_or, get_or-take, length-take}
use Rattle.std.proofs.lemmas.List.Elements.{All-from_get_or}
use Rattle.std.specs.List.{All}
use Rattle.ds_lanes.specs.Kernels.{first_zero, common_prefix, is_visible, first_visible}
use Rattle.ds_lanes.specs.Hits.{NoneIn, zero_at, differ_at, visible_at}

pub first_zero_is : (bytes : List ℕ) (n : ℕ) → n ≤ length bytes → NoneIn (zero_at bytes) 0 n → (n < length bytes → get_or bytes n 0 ≡ 0)
    → n ≡ first_zero bytes
first_zero_is [] n within passed here = omega arith
first_zero_is (b ∷ bs) zero within passed here = sym (cond-true (eqb b 0) 0 (1 + first_zero bs) (eq-eqb b 0 (here (omega arith))))
first_zero_is (b ∷ bs) (suc n) within passed here =
    let rest = first_zero_is bs n (omega arith) (λ k _ lt. passed (suc k) (omega arith) (omega arith)) (λ lt. here (omega arith)) in
    let step : suc n ≡ 1 + first_zero bs = omega arith in
    step ∙ sym (cond-false (eqb b 0) 0 (1 + first_zero bs) (passed 0 (omega arith) (omega arith)))

pub none_zero : (bytes : List ℕ) (n : ℕ) → n ≤ length bytes → NoneIn (zero_at bytes) 0 n → All (λ b. b ≢ 0) (take n bytes)
none_zero bytes n within passed =
    All-from_get_or (λ b. b ≢ 0) (take n bytes) 0
    (λ k lt zero.
    let inside : k < n = omega (arith, length-take n bytes) in
    eqb-false _ _ (passed k (omega arith) inside) (sym (get_or-take n bytes k 0 inside) ∙ zero))

pub common_prefix_is : (xs ys : List ℕ) (n : ℕ) → n ≤ length xs → n ≤ length ys → NoneIn (differ_at xs ys) 0 n
    → (n < length xs → n < length ys → get_or xs n 0 ≢ get_or ys n 0) → n ≡ common_prefix xs ys
common_prefix_is [] ys n within_x within_y passed differ = omega arith
common_prefix_is (x ∷ xs) [] n within_x within_y passed differ = omega arith
common_prefix_is (x ∷ xs) (y ∷ ys) zero within_x within_y passed differ =
    sym (cond-false (eqb x y) (1 + common_prefix xs ys) 0 (ne_eqb x y (differ (omega arith) (omega arith))))
common_prefix_is (x ∷ xs) (y ∷ ys) (suc n) within_x within_y passed differ =
    let rest = common_prefix_is xs ys n (omega arith) (omega arith) (λ k _ lt. passed (suc k) (omega arith) (omega arith)) (λ in_x in_y. differ (omega arith) (omega arith)) in
    let step : suc n ≡ 1 + common_prefix xs ys = omega arith in
    step ∙ sym (cond-true (eqb x y) (1 + common_prefix xs ys) 0 (not-false _ (passed 0 (omega arith) (omega arith))))

pub same_before : (xs ys : List ℕ) (n : ℕ) → n ≤ length xs → n ≤ length ys → NoneIn (differ_at xs ys) 0 n → take n xs ≡ take n ys
same_before xs ys n within_x within_y passed =
    ext_get_or 0 (take n xs) (take n ys) (omega (arith, length-take n xs, length-take n ys))
    (λ k lt.
    let inside : k < n = omega (arith, length-take n xs) in
    get_or-take n xs k 0 inside ∙ eqb-true _ _ (not-false _ (passed k (omega arith) inside)) ∙ sym (get_or-take n ys k 0 inside))

-- an entry is seen, or else it had not begun or had ended
pub visible_yes : (f t at : ℕ) → f ≤ at → at < t → is_visible f t at ≡ true
visible_yes f t at begun lasts = grind (arith, nat_tests)

pub visible_no : (f t at : ℕ) → is_visible f t at ≡ false → f ≤ at → t ≤ at
visible_no f t at unseen begun = grind (arith, nat_tests)

pub first_visible_is : (fs ts : List ℕ) (at n : ℕ) → length fs ≡ length ts → n ≤ length fs → NoneIn (visible_at fs ts at) 0 n
    → (n < length fs → visible_at fs ts at n ≡ true) → n ≡ first_visible fs ts at
first_visible_is [] ts at n equal within passed here = omega arith
first_visible_is (f ∷ fs) [] at n equal within passed here = absurd (omega arith)
first_visible_is (f ∷ fs) (t ∷ ts) at zero equal within passed here =
    sym (cond-true (is_visible f t at) 0 (1 + first_visible fs ts at) (here (omega arith)))
first_visible_is (f ∷ fs) (t ∷ ts) at (suc n) equal within passed here =
    let rest = first_visible_is fs ts at n (omega arith) (omega arith) (λ k _ lt. passed (suc k) (omega arith) (omega arith)) (λ lt. here (omega arith)) in
    let step : suc n ≡ 1 + first_visible fs ts at = omega arith in
    step ∙ sym (cond-false (is_visible f t at) 0 (1 + first_visible fs ts at) (passed 0 (omega arith) (omega arith)))
