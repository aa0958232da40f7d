-- What stands before the first byte of a kind and behind it, and the lines of a text.
use Rattle.std.proofs.Common.{◌≡◌, ℕ, ◌+◌, ◌<◌, ◌≤◌, List, [], ◌∷◌, length, take, drop, Bool, true, false, nat_lt, not, Some, None, cond, unwrap_or, position}
use Rattle.std.proofs.Common.{arith, refl, sym, ap, ◌∙◌, subst, one-add, suc, length-drop, ltb-false}
use Rattle.std.specs.List.{after_first, before_first, position_or_len}
use Rattle.ds_replication.specs.Lines.{is_newline, lines_of, with_byte}

module _ (p : ℕ → Bool) where
  pub place_within : (xs : List ℕ) → position_or_len p xs ≤ length xs
  place_within [] = omega arith
  place_within (x ∷ xs) = by (place_within xs) (not (p x))
    where
      by : position_or_len p xs ≤ length xs → (b : Bool) → cond b (1 + position_or_len p xs) 0 ≤ suc (length xs)
      by rest true = omega arith
      by rest false = omega arith

  -- the place that a search finds, or the length
  pub place_or_len : (xs : List ℕ) → unwrap_or (position p xs) (length xs) ≡ position_or_len p xs
  place_or_len xs = by (nat_lt (position_or_len p xs) (length xs)) refl
    where
      by : (b : Bool) → nat_lt (position_or_len p xs) (length xs) ≡ b → unwrap_or (cond b (Some (position_or_len p xs)) None) (length xs) ≡ position_or_len p xs
      by true e = refl
      by false e = let least = ltb-false (position_or_len p xs) (length xs) e in let most = place_within xs in omega arith

-- what is behind is shorter
pub shorter : (p : ℕ → Bool) (xs : List ℕ) → 0 < length xs → length (after_first p xs) + 1 ≤ length xs
shorter p xs some = let cut = length-drop (position_or_len p xs + 1) xs in omega arith

-- the first line of a text, and those behind its newline
pub lines_cut : (text : List ℕ) → 0 < length text → lines_of text ≡ before_first is_newline text ∷ lines_of (after_first is_newline text)
lines_cut [] some = absurd (omega arith)
lines_cut (byte ∷ text) some = by (λ more. lines_cut text more) text refl (is_newline byte)
  where
    place : ℕ
    place = position_or_len is_newline text

    turn : (k : ℕ) → (byte ∷ take k text) ∷ lines_of (drop (k + 1) text) ≡ take (1 + k) (byte ∷ text) ∷ lines_of (drop (1 + k + 1) (byte ∷ text))
    turn k =
        ap (λ (j : ℕ). take j (byte ∷ text) ∷ lines_of (drop (k + 1) text)) (sym (one-add k))
        ∙ (let e : suc (k + 1) ≡ 1 + k + 1 = omega arith in ap (λ (j : ℕ). take (1 + k) (byte ∷ text) ∷ lines_of (drop j (byte ∷ text))) e)

    joined : (0 < length text → lines_of text ≡ before_first is_newline text ∷ lines_of (after_first is_newline text)) → (rest : List ℕ) → text ≡ rest
        → with_byte byte (lines_of text) ≡ (byte ∷ take place text) ∷ lines_of (drop (place + 1) text)
    joined more [] e = subst (λ (t : List ℕ). with_byte byte (lines_of t)
        ≡ (byte ∷ take (position_or_len is_newline t) t) ∷ lines_of (drop (position_or_len is_newline t + 1) t)) (sym e) refl
    joined more (y ∷ ys) e = ap (with_byte byte) (more (let long : length text ≡ suc (length ys) = ap length e in omega arith))

    by : (0 < length text → lines_of text ≡ before_first is_newline text ∷ lines_of (after_first is_newline text)) → (rest : List ℕ) → text ≡ rest → (b : Bool)
        → cond b ([] ∷ lines_of text) (with_byte byte (lines_of text))
        ≡ take (cond (not b) (1 + place) 0) (byte ∷ text) ∷ lines_of (drop (cond (not b) (1 + place) 0 + 1) (byte ∷ text))
    by more rest e true = refl
    by more rest e false = joined more rest e ∙ turn place
