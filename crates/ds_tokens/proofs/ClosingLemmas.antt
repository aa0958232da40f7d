-- The length of the longest string behind an opening quote, place by place.
use Rattle.std.proofs.Common.{◌≡◌, ℕ, ◌+◌, ◌<◌, ◌≤◌, Bool, true, false, List, [], ◌∷◌, length, get_or, drop, Option, Some, None, refl, ap}
use Rattle.std.proofs.Common.{◌∙◌, arith, length-drop, eqb-true}
use Rattle.std.specs.Prelude.{option_map, unwrap_or, cond}
use Rattle.std.proofs.lemmas.List.{drop_more, drop_all}
use Rattle.ds_tokens.specs.Tokens.{closing, is_quote}

-- what was found behind `at` bytes, or else the last place where a quote may close
abbrev pub best : Option ℕ → ℕ → Option ℕ → Option ℕ
best last at None = last
best last at (Some n) = Some (n + at)

further : (last : Option ℕ) (at : ℕ) (found : Option ℕ) → best last at (option_map (λ n. n + 1) found) ≡ best last (at + 1) found
further last at None = refl
further last at (Some n) = let e : n + 1 + at ≡ n + (at + 1) = omega arith in ap Some e

plain : (b : ℕ) (rest : List ℕ) (last : Option ℕ) (at : ℕ) → is_quote b ≡ false → best last at (closing (b ∷ rest)) ≡ best last (at + 1) (closing rest)
unfolding closing
plain b [] last at other = ap (λ q. best last at (cond q (Some 1) None)) other
plain b (c ∷ rest) last at other =
    ap (λ q. best last at (cond q (cond (is_quote c) (Some (unwrap_or (option_map (λ n. n + 2) (closing rest)) 1)) (Some 1)) (option_map (λ n. n + 1) (closing (c ∷ rest))))) other
    ∙ further last at (closing (c ∷ rest))

-- a byte that is no quote
pub closing-plain : (bs : List ℕ) (last : Option ℕ) (at : ℕ) → at < length bs → is_quote (get_or bs at 0) ≡ false → best last at (closing (drop at bs)) ≡ best last (at + 1) (closing (drop (at + 1) bs))
closing-plain bs last at within other =
    ap (λ t. best last at (closing t)) (drop_more bs at 0 within) ∙ plain (get_or bs at 0) (drop (at + 1) bs) last at other

pair : (b c : ℕ) (rest : List ℕ) (last : Option ℕ) (at : ℕ) → is_quote b ≡ true → is_quote c ≡ true → best last at (closing (b ∷ c ∷ rest)) ≡ best (Some (at + 1)) (at + 2) (closing rest)
unfolding closing
pair b c rest last at first second =
    ap (λ q. best last at (cond q (cond (is_quote c) (Some (unwrap_or (option_map (λ n. n + 2) (closing rest)) 1)) (Some 1)) (option_map (λ n. n + 1) (closing (c ∷ rest))))) first
    ∙ ap (λ q. best last at (cond q (Some (unwrap_or (option_map (λ n. n + 2) (closing rest)) 1)) (Some 1))) second
    ∙ by (closing rest) where
      by : (found : Option ℕ) → best last at (Some (unwrap_or (option_map (λ n. n + 2) found) 1)) ≡ best (Some (at + 1)) (at + 2) found
      by None = let e : 1 + at ≡ at + 1 = omega arith in ap Some e
      by (Some n) = let e : n + 2 + at ≡ n + (at + 2) = omega arith in ap Some e

-- a doubled quote
pub closing-pair : (bs : List ℕ) (last : Option ℕ) (at : ℕ) → at + 1 < length bs → is_quote (get_or bs at 0) ≡ true → is_quote (get_or bs (at + 1) 0) ≡ true → best last at (closing (drop at bs)) ≡ best (Some (at + 1)) (at + 2) (closing (drop (at + 2) bs))
closing-pair bs last at within first second =
    let e : at + 1 + 1 ≡ at + 2 = omega arith in
    ap (λ t. best last at (closing t)) (drop_more bs at 0 (omega arith) ∙ ap (λ t. get_or bs at 0 ∷ t) (drop_more bs (at + 1) 0 within))
    ∙ pair (get_or bs at 0) (get_or bs (at + 1) 0) (drop (at + 1 + 1) bs) last at first second
    ∙ ap (λ n. best (Some (at + 1)) (at + 2) (closing (drop n bs))) e

alone : (b : ℕ) (rest : List ℕ) → is_quote b ≡ true → (0 < length rest → is_quote (get_or rest 0 0) ≡ false) → closing (b ∷ rest) ≡ Some 1
unfolding closing
alone b [] quote none = ap (λ q. cond q (Some 1) None) quote
alone b (c ∷ rest) quote none =
    ap (λ q. cond q (cond (is_quote c) (Some (unwrap_or (option_map (λ n. n + 2) (closing rest)) 1)) (Some 1)) (option_map (λ n. n + 1) (closing (c ∷ rest)))) quote
    ∙ ap (λ q. cond q (Some (unwrap_or (option_map (λ n. n + 2) (closing rest)) 1)) (Some 1)) (none (omega arith))

-- a quote that closes
pub closing-ends : (bs : List ℕ) (last : Option ℕ) (at : ℕ) → at < length bs → is_quote (get_or bs at 0) ≡ true → (at + 1 < length bs → is_quote (get_or bs (at + 1) 0) ≡ false) → best last at (closing (drop at bs)) ≡ Some (at + 1)
closing-ends bs last at within quote none =
    let e : 1 + at ≡ at + 1 = omega arith in
    ap (λ t. best last at (closing t)) (drop_more bs at 0 within)
    ∙ ap (best last at) (alone (get_or bs at 0) (drop (at + 1) bs) quote (behind (drop (at + 1) bs) refl))
    ∙ ap Some e where
      behind : (rest : List ℕ) → rest ≡ drop (at + 1) bs → 0 < length rest → is_quote (get_or rest 0 0) ≡ false
      behind rest is some =
          let more : at + 1 < length bs = omega (arith, ap length is, length-drop (at + 1) bs) in
          ap (λ t. is_quote (get_or t 0 0)) (is ∙ drop_more bs (at + 1) 0 more) ∙ none more

-- nothing closes behind the last byte
pub closing-none : (bs : List ℕ) (last : Option ℕ) (at : ℕ) → length bs ≤ at → best last at (closing (drop at bs)) ≡ last
unfolding closing
closing-none bs last at past = ap (λ t. best last at (closing t)) (drop_all at bs past)

pub other_byte : (b : ℕ) → (b ≡ 39 → ⊥) → is_quote b ≡ false
other_byte b other = by (is_quote b) refl where
  by : (quote : Bool) → is_quote b ≡ quote → is_quote b ≡ false
  by true is = absurd (other (eqb-true b 39 is))
  by false is = is
