-- Sums of bounds, by one shard or branch more and in either order.
use Rattle.std.proofs.Common.{◌≡◌, ℕ, ◌+◌, List, [], ◌∷◌, ◌++◌, refl, sym, arith}
use Rattle.std.specs.Prelude.{Option, sum_by}
use Rattle.std.proofs.lemmas.List.Sums.{sum_by-cons}
use Rattle.ds_query.specs.declared.row.Place.{Place}
use Rattle.ds_branch.specs.BoundSums.{bound_at, bound_over, BoundsAddUp}

sum-push : {X : Type 0} (f : X → ℕ) (xs : List X) (x : X) → sum_by f (xs ++ x ∷ []) ≡ sum_by f xs + f x
sum-push f [] x = let one = sum_by-cons f x [] in omega (arith, one)
sum-push f (y ∷ xs) x =
    let first = sum_by-cons f y xs in
    let then = sum_by-cons f y (xs ++ x ∷ []) in
    let rest = sum-push f xs x in
    omega (arith, first, then, rest)

-- the sum of two numbers each is the sum of the sums
sum-both : {X : Type 0} (f h : X → ℕ) (xs : List X) → sum_by (λ x. f x + h x) xs ≡ sum_by f xs + sum_by h xs
sum-both f h [] = refl
sum-both f h (x ∷ xs) =
    let all = sum_by-cons (λ y. f y + h y) x xs in
    let one = sum_by-cons f x xs in
    let two = sum_by-cons h x xs in
    let rest = sum-both f h xs in
    omega (arith, all, one, two, rest)

sum-none : {X : Type 0} (xs : List X) → sum_by (λ x. 0) xs ≡ 0
sum-none [] = refl
sum-none (x ∷ xs) = let first = sum_by-cons (λ y. 0) x xs in let rest = sum-none xs in omega (arith, first, rest)

sum-same : {X : Type 0} (f h : X → ℕ) (xs : List X) → ((x : X) → f x ≡ h x) → sum_by f xs ≡ sum_by h xs
sum-same f h [] same = refl
sum-same f h (x ∷ xs) same =
    let one = sum_by-cons f x xs in
    let two = sum_by-cons h x xs in
    let first = same x in
    let rest = sum-same f h xs same in
    omega (arith, one, two, first, rest)

-- a sum of sums, in either order
either-order : {X Y : Type 0} (f : X → Y → ℕ) (xs : List X) (ys : List Y)
    → sum_by (λ x. sum_by (f x) ys) xs ≡ sum_by (λ y. sum_by (λ x. f x y) xs) ys
either-order f [] ys = sym (sum-none ys)
either-order f (x ∷ xs) ys =
    let first = sum_by-cons (λ z. sum_by (f z) ys) x xs in
    let rest = either-order f xs ys in
    let both = sum-both (f x) (λ y. sum_by (λ z. f z y) xs) ys in
    let same = sum-same (λ y. sum_by (λ z. f z y) (x ∷ xs)) (λ y. f x y + sum_by (λ z. f z y) xs) ys (λ y. sum_by-cons (λ z. f z y) x xs) in
    omega (arith, first, rest, both, same)

pub add_up : (start end : Option Place) (most : Option ℕ) → BoundsAddUp start end most
add_up start end most = record {
  one_shard_more = λ shards shard q. sum-push (bound_at q start end most) shards shard;
  one_branch_more = λ shards branches q. sum-push (bound_over start end most shards) branches q;
  either_order = λ shards branches. either-order (λ q. bound_at q start end most) branches shards;
}
