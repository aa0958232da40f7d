-- What is left of numbers, each of which stands once, where the first of them are taken out.
use Rattle.std.proofs.Common.{◌≡◌, ℕ, zero, suc, ◌+◌, List, [], ◌∷◌, ◌++◌, arith, refl, sym, ap, ◌∙◌, subst}
use Rattle.std.specs.List.{range_with_len}
use Rattle.std.specs.List.Sorted.{IsPermutation}
use Rattle.ds_serving.proofs.Counting.{count-moved, count-append, moved_by_counts}

-- a front that both lists have can be taken out of both
pub cancelled : (zs xs ys : List ℕ) → IsPermutation (zs ++ xs) (zs ++ ys) → IsPermutation xs ys
cancelled zs xs ys moved =
    moved_by_counts xs ys
    (λ q. let both = count-moved q (zs ++ xs) (zs ++ ys) moved in omega (arith, both, count-append q zs xs, count-append q zs ys))

-- a run of numbers is its front and what follows it
pub range_split : (a k m : ℕ) → range_with_len a (k + m) ≡ range_with_len a k ++ range_with_len (a + k) m
range_split a zero m = ap (λ n. range_with_len a n) (omega arith) ∙ ap (λ b. range_with_len b m) (omega arith)
range_split a (suc k) m =
    let more : suc k + m ≡ suc (k + m) = omega arith in
    let from : a + 1 + k ≡ a + suc k = omega arith in
    ap (range_with_len a) more
    ∙ ap (λ rest. a ∷ rest) (range_split (a + 1) k m ∙ ap (λ b. range_with_len (a + 1) k ++ range_with_len b m) from)

-- the numbers from a kept bound on, where the numbers up to it were there before
pub after_kept : (a k m : ℕ) (xs : List ℕ) → IsPermutation (range_with_len a k ++ xs) (range_with_len a (k + m)) → IsPermutation xs (range_with_len (a + k) m)
after_kept a k m xs moved =
    cancelled (range_with_len a k) xs (range_with_len (a + k) m) (subst (IsPermutation (range_with_len a k ++ xs)) (range_split a k m) moved)
