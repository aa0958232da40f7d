-- What a string that a scan gives tells of the target.
use Rattle.std.proofs.Common.{◌≡◌, ◌≢◌, ℕ, ◌≤◌, Bool, true, false, List, refl, sym, ◌∙◌, ap, subst}
use Rattle.std.specs.Prelude.{◌&&◌, Option, Some, None, find, nat_eq}
use Rattle.std.specs.Cmp.Lexicographic.{pointwise, other_text}
use Rattle.ds_zigzag.specs.Spans.{is_below, is_from, is_within, count_from}
use Rattle.ds_zigzag.proofs.Order.{was_false, below_unless_same}
use Rattle.ds_zigzag.proofs.First.{found_passes}
use Rattle.ds_zigzag.proofs.Counts.{count_by-le}

-- both parts of a test that is passed
pub first_true : (a b : Bool) → a && b ≡ true → a ≡ true
first_true true b h = refl
first_true false b h = h

pub second_true : (a b : Bool) → a && b ≡ true → b ≡ true
second_true true b h = h
second_true false b h = cc

pub both_true : (a b : Bool) → a ≡ true → b ≡ true → a && b ≡ true
both_true true b h g = g
both_true false b h g = h

-- no more strings are counted up to one than without a last
pub count_from-le : (from : List ℕ) (last : Option (List ℕ)) (strings : List (List ℕ)) → count_from from last strings ≤ count_from from None strings
count_from-le from last strings =
    count_by-le (λ x. is_from from x && is_within last x) (λ x. is_from from x && is_within None x) strings
    (λ x h. both_true (is_from from x) true (first_true (is_from from x) (is_within last x) h) refl)

-- a string that isn't the one sought is above it
pub greater : (old found new : List ℕ) (strings : List (List ℕ)) → Some found ≡ find (is_from old) strings → false ≡ pointwise nat_eq found old → new ≡ found → (is_below old new ≡ true) × (find (is_from old) strings ≡ Some new)
greater old found new strings e n s =
    let passes = was_false (is_below found old) (found_passes (is_from old) strings found (sym e)) in
    let other : old ≢ found = λ q. other_text found old n (sym q) in
    (subst (λ v. is_below old v ≡ true) (sym s) (below_unless_same old found passes other), (sym e ∙ ap Some (sym s)))
