-- How many strings a scan has between two places: at most as many as the rows of a part that it binds.
use Rattle.std.proofs.Common.{◌≡◌, ◌≢◌, ◌⊎◌, inl, inr, ℕ, ◌+◌, ◌≤◌, ◌<◌, List, [], ◌∷◌, ◌++◌, length, map, Bool, true, false}
use Rattle.std.proofs.Common.{cond, refl, sym, ap, ◌∙◌, subst, arith, length-append}
use Rattle.std.specs.Prelude.{filter, count_by, All}
use Rattle.std.specs.List.{AllByRecursion}
use Rattle.std.specs.List.Sorted.{IsStrictlySortedBy}
use Rattle.std.specs.declared.cmp.Ordering.TheVariants.{Less}
use Rattle.std.specs.Cmp.Lexicographic.{nat_list_cmp_total}
use Rattle.std.specs.Cmp.{tied_itself}
use Rattle.std.proofs.lemmas.List.{length-map}
use Rattle.std.proofs.lemmas.List.Sums.{sum_by-cons}
use Rattle.std.proofs.lemmas.List.Elements.{All-head, All-tail}
use Rattle.ds_base.specs.KeyOrder.{bytes_cmp}
use Rattle.ds_planner.proofs.Members.{Member, member_append, member_left, member_right, filter_member}
use Rattle.ds_rows.specs.Laws.{IsOnce}
use Rattle.ds_rows.specs.OwnRowLaws.{each_kept}
use Rattle.ds_base.specs.Least.{least_of}
use Rattle.ds_scan.proofs.MemberLists.{all_from}

-- ---- items that stand once

-- an item of a list, and the others
record IsAmong {A : Type 0} (x : A) (xs : List A) : Type 0 where
  front : List A
  back : List A
  is : xs ≡ front ++ x ∷ back

among : {A : Type 0} (x : A) (xs : List A) → Member x xs → IsAmong x xs
among x [] m = absurd m
among x (y ∷ xs) (inl e) = record { front = []; back = xs; is = ap (λ z. z ∷ xs) (sym e) }
among x (y ∷ xs) (inr m) = let r = among x xs m in record { front = y ∷ r.front; back = r.back; is = ap (λ zs. y ∷ zs) r.is }

elsewhere : {A : Type 0} (x y : A) (front back : List A) → (x ≡ y → ⊥) → Member y (front ++ x ∷ back) → Member y (front ++ back)
elsewhere x y front back apart m = elim (member_append front (x ∷ back) y m) [
  | inl h ↦ member_left front back y h
  | inr h ↦ member_right front back y (behind h)
] where
  behind : (y ≡ x) ⊎ Member y back → Member y back
  behind (inl e) = absurd (apart (sym e))
  behind (inr n) = n

never_again : {A : Type 0} (x : A) (xs : List A) → All (λ y. x ≢ y) xs → (y : A) → Member y xs → x ≡ y → ⊥
never_again x [] all y m e = m
never_again x (z ∷ xs) all y (inl h) e = All-head (λ w. x ≢ w) z xs all (e ∙ h)
never_again x (z ∷ xs) all y (inr m) e = never_again x xs (All-tail (λ w. x ≢ w) z xs all) y m e

-- of items that stand once there are no more than in a list that has them all
pub once_within : {A : Type 0} (xs ys : List A) → IsOnce xs → ((x : A) → Member x xs → Member x ys) → length xs ≤ length ys
once_within [] ys once inside = omega arith
once_within (x ∷ xs) ys once inside =
    let here = among x ys (inside x (inl refl)) in
    let others = once_within xs (here.front ++ here.back) once.1 (λ y m.
    elsewhere x y here.front here.back (never_again x xs once.0 y m) (subst (λ zs. Member y zs) here.is (inside y (inr m)))) in
    let long = ap length here.is in
    let one = length-append here.front (x ∷ here.back) in
    let two = length-append here.front here.back in
    omega (arith, others, long, one, two)

once_kept : {A : Type 0} (p : A → Bool) (xs : List A) → IsOnce xs → IsOnce (filter p xs)
once_kept p [] once = tt
once_kept p (x ∷ xs) once = by (p x) (once_kept p xs once.1) where
  by : (b : Bool) → IsOnce (filter p xs) → IsOnce (cond b (x ∷ filter p xs) (filter p xs))
  by true more = (each_kept (λ y. x ≢ y) p xs once.0, more)
  by false more = more

-- what passes a test is counted by what is kept
pub count_kept : {A : Type 0} (p : A → Bool) (xs : List A) → count_by p xs ≡ length (filter p xs)
count_kept p [] = refl
count_kept p (x ∷ xs) = sum_by-cons (λ y. cond (p y) 1 0) x xs ∙ by (p x) (count_kept p xs) where
  by : (b : Bool) → count_by p xs ≡ length (filter p xs) → cond b 1 0 + count_by p xs ≡ length (cond b (x ∷ filter p xs) (filter p xs))
  by true e = omega (arith, e)
  by false e = omega (arith, e)

pub once_counted : {A B : Type 0} (p : A → Bool) (f : B → A) (xs : List A) (ys : List B) → IsOnce xs
    → ((x : A) → Member x xs → p x ≡ true → Member x (map f ys)) → count_by p xs ≤ length ys
once_counted p f xs ys once inside =
    let kept = once_within (filter p xs) (map f ys) (once_kept p xs once) (λ x m. let r = filter_member p xs x m in inside x r.0 r.1) in
    let many = count_kept p xs in
    let long = length-map ys f in
    omega (arith, kept, many, long)

-- strings that ascend stand once
pub strict_once : (xs : List (List ℕ)) → IsStrictlySortedBy bytes_cmp xs → IsOnce xs
unfolding IsStrictlySortedBy
strict_once [] h = tt
strict_once (x ∷ xs) h = (apart xs h.0, strict_once xs h.1) where
  apart : (ys : List (List ℕ)) → AllByRecursion (λ y. bytes_cmp x y ≡ Less) ys → All (λ y. x ≢ y) ys
  apart ys less = all_from (λ y. x ≢ y) ys (λ y m e. each ys less y m e) where
    each : (zs : List (List ℕ)) → AllByRecursion (λ y. bytes_cmp x y ≡ Less) zs → (y : List ℕ) → Member y zs → x ≡ y → ⊥
    each [] less y m e = m
    each (z ∷ zs) less y (inl h) e =
        let tied = tied_itself nat_list_cmp_total x in
        let below = less.0 in
        absurd (cc (sym below ∙ ap (bytes_cmp x) (sym (e ∙ h)) ∙ tied))
    each (z ∷ zs) less y (inr m) e = each zs less.1 y m e

-- ---- least numbers

pub least_member : {X : Type 0} (f : X → ℕ) (xs : List X) (x : X) → Member x xs → least_of (map f xs) ≤ f x
least_member f [] x m = absurd m
least_member f (y ∷ []) x (inl e) = omega (arith, ap f e)
least_member f (y ∷ []) x (inr m) = absurd m
least_member f (y ∷ z ∷ xs) x (inl e) = let same = ap f e in omega (arith, same)
least_member f (y ∷ z ∷ xs) x (inr m) = let more = least_member f (z ∷ xs) x m in omega (arith, more)

pub below_least : {X : Type 0} (n : ℕ) (f : X → ℕ) (xs : List X) → 0 < length xs → ((x : X) → Member x xs → n ≤ f x)
    → n ≤ least_of (map f xs)
below_least n f [] some each = absurd (omega arith)
below_least n f (x ∷ []) some each = each x (inl refl)
below_least n f (x ∷ y ∷ xs) some each =
    let one = each x (inl refl) in
    let more = below_least n f (y ∷ xs) (omega arith) (λ z m. each z (inr m)) in
    omega (arith, one, more)
