-- What a scan of a range keeps, and what a seek of its rows tells from it.
use Rattle.std.proofs.Common.{◌≡◌, ℕ, ◌<◌, ◌≤◌, Bool, true, false, cond, List, [], ◌∷◌, ◌++◌, length, take, drop, get_or, refl, sym, ◌∙◌}
use Rattle.std.proofs.Common.{ap, subst, arith, Bor}
use Rattle.std.specs.Prelude.{All, Option, Some, None, option_map, option_copied, IfSome, find}
use Rattle.std.proofs.lemmas.List.{get_or_default, length-take-le}
use Rattle.ds_zigzag.specs.Spans.{is_from, count_from}
use Rattle.ds_table.specs.Versions.{in_range}
use Rattle.ds_base.specs.Bytes.{AreBytes}
use Rattle.ds_scan.specs.Ranges.{begins_with, rest, is_in, rests, rows_passed, end_of_range, later}
use Rattle.ds_scan.specs.Kept.{high_of, range_of, IsKept}
use Rattle.ds_scan.specs.RangeLaws.{begins-is}
use Rattle.ds_scan.proofs.Order.{first_true}
use Rattle.ds_scan.proofs.Rests.{is_sought, wanted_if_sought, finds_rest, passes_rests}

-- what is known of a slice of bytes
pub slice_of_bytes : (row : List ℕ) → ((i : ℕ) → get_or row i 0 < 256) → AreBytes row
slice_of_bytes row h k d b = let here = h k in let same = get_or_default row k d 0 b in omega (arith, here, same)

pub if_some : (o : Option (Bor (List ℕ))) (P : List ℕ → Type 0) → ((x : List ℕ) → option_copied o ≡ Some x → P x) → IfSome o (λ r. P r.now)
if_some None P h = tt
if_some (Some r) P h = h r.now refl

some_same : {X : Type 0} (x y : X) → Some x ≡ Some y → x ≡ y
some_same x y e = cc

pub some_if : (o : Option (Bor (List ℕ))) (P : List ℕ → Type 0) → IfSome o (λ r. P r.now) → (x : List ℕ) → option_copied o ≡ Some x → P x
some_if None P h x e = cc
some_if (Some r) P h x e = subst P (some_same r.now x e) h

found_passes : (p : List ℕ → Bool) (xs : List (List ℕ)) (s : List ℕ) → find p xs ≡ Some s → p s ≡ true
found_passes p [] s e = cc
found_passes p (x ∷ xs) s e = by (found_passes p xs s) (p x) refl e where
  by : (find p xs ≡ Some s → p s ≡ true) → (b : Bool) → p x ≡ b → cond b (Some x) (find p xs) ≡ Some s → p s ≡ true
  by again true q e = subst (λ v. p v ≡ true) (some_same x s e) q
  by again false q e = again e

longer : (p x : List ℕ) → length p ≤ length (p ++ x)
longer [] x = omega arith
longer (b ∷ bs) x = let more = longer bs x in omega (arith, more)

-- another front of the buffer makes no other range
pub same_rests : (s t : List ℕ) (front : ℕ) (low : List ℕ) (bounded : Bool) (end : Option (List ℕ)) (rows : List (List ℕ)) → take front s ≡ take front t
    → rests (range_of s front low bounded end) rows ≡ rests (range_of t front low bounded end) rows
same_rests s t front low bounded end rows e = ap (λ p. rests (record { prefix = p; low = low; high = high_of bounded front end }) rows) e

module _ (s : List ℕ) (front : ℕ) (low a : List ℕ) (bounded : Bool) (end : Option (List ℕ)) (kept : IsKept s front bounded end) (from : List ℕ) (below : Option (List ℕ))
    (aimed : from ≡ take front s ++ later low a) (ended : below ≡ end) where
  front_is : length (take front s) ≡ front
  front_is = length-take-le front s kept.within

  test_is : in_range from below ≡ is_sought (range_of s front low bounded end) a
  test_is =
      ap (λ f. in_range f below) aimed
      ∙ (ap (λ e. in_range (take front s ++ later low a) e) ended ∙ ap (λ e. in_range (take front s ++ later low a) e) kept.ends)

  begins : (row : List ℕ) → AreBytes row → in_range from below row ≡ true → begins_with (take front s) row ≡ true
  begins row b h =
      let range = range_of s front low bounded end in
      let x = rest (take front s) row in
      let wanted = wanted_if_sought range a row b (ap (λ p. p row) (sym test_is) ∙ h) in
      first_true (begins_with (take front s) row) (in_range low (high_of bounded front end) x) (first_true (is_in range row) (is_from a x) wanted)

  -- a row that is found has the prefix
  pub found_long : (rows : List (List ℕ)) (row : List ℕ) → find (in_range from below) rows ≡ Some row → AreBytes row → front ≤ length row
  found_long rows row e b =
      let h = begins row b (found_passes (in_range from below) rows row e) in
      let long = longer (take front s) (rest (take front s) row) in
      let same = ap length (begins-is (take front s) row h) in
      omega (arith, long, same, front_is)

  rest_is : (o r : Option (List ℕ)) → r ≡ option_map (drop front) o → r ≡ option_map (rest (take front s)) o
  rest_is o r e = e ∙ ap (λ n. option_map (drop n) o) (sym front_is)

  pub finds_first : (rows : List (List ℕ)) (o r : Option (List ℕ)) → o ≡ find (in_range from below) rows → ((x : List ℕ) → o ≡ Some x → AreBytes x)
      → r ≡ option_map (drop front) o → r ≡ find (is_from a) (rests (range_of s front low bounded end) rows)
  finds_first rows o r e b h =
      let range = range_of s front low bounded end in
      let found : (x : List ℕ) → find (is_sought range a) rows ≡ Some x → AreBytes x × (is_sought range a x ≡ true) =
      λ x q. (b x (e ∙ (ap (λ t. find t rows) test_is ∙ q)), found_passes (is_sought range a) rows x q) in
      rest_is o r h
      ∙ (ap (option_map (rest (take front s))) (e ∙ ap (λ t. find t rows) test_is) ∙ sym (finds_rest range a rows found))

  pub passes_few : (seen rows : List (List ℕ)) (o r : Option (List ℕ)) → o ≡ find (in_range from below) seen → ((x : List ℕ) → o ≡ Some x → AreBytes x)
      → r ≡ option_map (drop front) o → All AreBytes rows
      → rows_passed from below o rows ≤ count_from a r (rests (range_of s front low bounded end) rows)
  passes_few seen rows o r e b h bytes =
      let range = range_of s front low bounded end in
      let few = passes_rests range a o rows bytes (λ x q. begins x (b x q) (found_passes (in_range from below) seen x (sym e ∙ q))) in
      let from_is : rows_passed from below o rows ≡ rows_passed (take front s ++ later low a) (end_of_range (take front s) (high_of bounded front end)) o rows =
      ap (λ f. rows_passed f below o rows) aimed
      ∙ ap (λ e. rows_passed (take front s ++ later low a) e o rows) (ended ∙ kept.ends) in
      let same = ap (λ q. count_from a q (rests range rows)) (rest_is o r h) in
      omega (arith, few, from_is, same)
