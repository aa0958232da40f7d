-- Cutting a text step by step gives its lines, and cutting a line from its ends what is left of it.
use Rattle.std.proofs.Common.{◌≡◌, ◌<◌, ◌≤◌, nat_lt, MatchOption, ◌+◌, ◌-◌, ℕ, List, [], ◌∷◌, ◌++◌, Bool, true, false, cond, length, get_or}
use Rattle.std.proofs.Common.{take, drop, refl, sym, ap, subst, ◌∙◌, arith, Option, Some, None}
use Rattle.std.specs.List.{slice_split, position, position_or_len, onto_first, All, AllWithin}
use Rattle.std.proofs.lemmas.List.Splits.{slice_split_first, slice_split_none, length-slice_split}
use Rattle.std.proofs.lemmas.List.{take_more, take_all}
use Rattle.std.proofs.lemmas.List.Elements.{All-from_get_or}
use Rattle.std.proofs.lemmas.List.Sums.{fails_before_first}
use Rattle.std.proofs.lemmas.Bool.{ltb-true, ltb-false}
use Rattle.ds_indexdef.specs.Lines.{is_newline, lines_of, ended, without_end, kept_before}

-- ---- the ends of a line

kept_before-push : {A : Type 0} (p : A → Bool) (b : A) (bs : List A) (x : A) → kept_before p b (bs ++ x ∷ []) ≡ b ∷ bs ++ x ∷ []
kept_before-push p b [] x = refl
kept_before-push p b (c ∷ cs) x = refl

pub without_end-dropped : {A : Type 0} (p : A → Bool) (xs : List A) (x : A) → p x ≡ true → without_end p (xs ++ x ∷ []) ≡ without_end p xs
without_end-dropped p [] x e = rw e refl
without_end-dropped p (b ∷ bs) x e = ap (kept_before p b) (without_end-dropped p bs x e)

pub without_end-kept : {A : Type 0} (p : A → Bool) (xs : List A) (x : A) → p x ≡ false → without_end p (xs ++ x ∷ []) ≡ xs ++ x ∷ []
without_end-kept p [] x e = rw e refl
without_end-kept p (b ∷ bs) x e = ap (kept_before p b) (without_end-kept p bs x e) ∙ kept_before-push p b bs x

pub last_apart : {A : Type 0} (xs : List A) (d : A) → 0 < length xs → take (length xs - 1) xs ++ get_or xs (length xs - 1) d ∷ [] ≡ xs
last_apart xs d h = sym (take_more xs (length xs - 1) d (omega arith)) ∙ take_all (length xs - 1 + 1) xs (omega arith)

pub last_dropped : (p : ℕ → Bool) (xs : List ℕ) → 0 < length xs → p (get_or xs (length xs - 1) 0) ≡ true → without_end p xs ≡ without_end p (take (length xs - 1) xs)
last_dropped p xs h e = ap (without_end p) (sym (last_apart xs 0 h)) ∙ without_end-dropped p (take (length xs - 1) xs) (get_or xs (length xs - 1) 0) e

pub last_kept : (p : ℕ → Bool) (xs : List ℕ) → 0 < length xs → p (get_or xs (length xs - 1) 0) ≡ false → without_end p xs ≡ xs
last_kept p xs h e = ap (without_end p) (sym (last_apart xs 0 h)) ∙ without_end-kept p (take (length xs - 1) xs) (get_or xs (length xs - 1) 0) e ∙ last_apart xs 0 h

-- ---- the first line

pub ended-cons : (x : List ℕ) (parts : List (List ℕ)) → 0 < length parts → ended (x ∷ parts) ≡ x ∷ ended parts
ended-cons x [] h = absurd (omega (arith, h))
ended-cons x (y ∷ more) h = refl

pub lines_of-first : (text : List ℕ) → position_or_len is_newline text < length text
    → lines_of text ≡ take (position_or_len is_newline text) text ∷ lines_of (drop (position_or_len is_newline text + 1) text)
lines_of-first text h =
    let rest = drop (position_or_len is_newline text + 1) text in
    ap ended (slice_split_first is_newline text 0 h)
    ∙ ended-cons (take (position_or_len is_newline text) text) (slice_split is_newline rest) (omega (arith, length-slice_split is_newline rest))

unsplit : (text : List ℕ) → length text ≤ position_or_len is_newline text → slice_split is_newline text ≡ text ∷ []
unsplit text h = slice_split_none is_newline text (All-from_get_or (λ b. is_newline b ≡ false) text 0 (λ i lt. fails_before_first is_newline text i 0 (omega arith)))

one_line : (text : List ℕ) → 0 < length text → slice_split is_newline text ≡ text ∷ [] → lines_of text ≡ text ∷ []
one_line [] h e = absurd (omega (arith, h))
one_line (b ∷ bs) h e = ap ended e

-- what is known of a text in which the first newline stands there, or none
abbrev pub FirstLine : List ℕ → Option ℕ → Type 0
FirstLine text r = MatchOption r (lines_of text ≡ text ∷ []) (λ i. lines_of text ≡ take i text ∷ lines_of (drop (i + 1) text))

first_by : (text : List ℕ) (b : Bool) → nat_lt (position_or_len is_newline text) (length text) ≡ b → 0 < length text
    → FirstLine text (cond b (Some (position_or_len is_newline text)) None)
first_by text true e h = lines_of-first text (ltb-true (position_or_len is_newline text) (length text) e)
first_by text false e h = one_line text h (unsplit text (ltb-false (position_or_len is_newline text) (length text) e))

-- the first line ends at the first newline, or is the whole text
pub first_line_is : (text : List ℕ) → 0 < length text → FirstLine text (position is_newline text)
first_line_is text h = first_by text (nat_lt (position_or_len is_newline text) (length text)) refl h
