-- A string without the quotes that double others, quote by quote.
use Rattle.std.proofs.Common.{◌≡◌, ℕ, suc, ◌+◌, ◌<◌, Bool, true, false, not, List, [], ◌∷◌, ◌++◌, length, take, drop, refl, sym, ap, ◌∙◌}
use Rattle.std.proofs.Common.{arith, append_assoc, eqb-true}
use Rattle.std.specs.Prelude.{cond, ◌&&◌, ◌==◌}
use Rattle.std.specs.List.{before_first, after_first, position_or_len}
use Rattle.ds_tokens.specs.Pieces.{undoubled, without_second}
use Rattle.ds_tokens.specs.Tokens.{is_quote}

-- a byte that is no quote stays
undoubled-other : (b : ℕ) (bytes : List ℕ) → is_quote b ≡ false → undoubled (b ∷ bytes) ≡ b ∷ undoubled bytes
undoubled-other b [] other = refl
undoubled-other b (c ∷ bytes) other = ap (λ q. cond (q && (c == 39)) (39 ∷ undoubled bytes) (b ∷ undoubled (c ∷ bytes))) other

-- a quote stays, without a second one behind it
undoubled-quote : (b : ℕ) (bytes : List ℕ) → is_quote b ≡ true → undoubled (b ∷ bytes) ≡ 39 ∷ undoubled (without_second bytes)
undoubled-quote b [] quote = ap (λ n. n ∷ []) (eqb-true b 39 quote)
undoubled-quote b (c ∷ bytes) quote =
    ap (λ q. cond (q && (c == 39)) (39 ∷ undoubled bytes) (b ∷ undoubled (c ∷ bytes))) quote ∙ by (c == 39) where
      by : (second : Bool) → cond second (39 ∷ undoubled bytes) (b ∷ undoubled (c ∷ bytes)) ≡ 39 ∷ undoubled (cond second bytes (c ∷ bytes))
      by true = refl
      by false = ap (λ n. n ∷ undoubled (c ∷ bytes)) (eqb-true b 39 quote)

-- up to the first quote and behind it
pub undoubled-turn : (bytes : List ℕ) → position_or_len is_quote bytes < length bytes → undoubled bytes ≡ before_first is_quote bytes ++ 39 ∷ undoubled (without_second (after_first is_quote bytes))
undoubled-turn [] within = absurd (omega arith)
undoubled-turn (b ∷ bytes) within = by (is_quote b) refl (undoubled-turn bytes) within where
  n : ℕ
  n = position_or_len is_quote bytes

  turned : ℕ → List ℕ
  turned at = take at (b ∷ bytes) ++ 39 ∷ undoubled (without_second (drop (at + 1) (b ∷ bytes)))

  by : (quote : Bool) → is_quote b ≡ quote → (n < length bytes → undoubled bytes ≡ before_first is_quote bytes ++ 39 ∷ undoubled (without_second (after_first is_quote bytes))) → cond (not quote) (1 + n) 0 < suc (length bytes) → undoubled (b ∷ bytes) ≡ turned (cond (not quote) (1 + n) 0)
  by true is others within = undoubled-quote b bytes is
  by false is others within =
      let e : suc n ≡ 1 + n = omega arith in
      let f : n + 1 ≡ suc n = omega arith in
      let g : suc n + 1 ≡ suc (n + 1) = omega arith in
      undoubled-other b bytes is ∙ ap (λ t. b ∷ t) (others (omega arith))
      ∙ ap (λ k. (b ∷ take n bytes) ++ 39 ∷ undoubled (without_second (drop k (b ∷ bytes)))) (sym g)
      ∙ ap turned e

-- where no quote is left nothing changes
pub undoubled-none : (bytes : List ℕ) → position_or_len is_quote bytes ≡ length bytes → undoubled bytes ≡ bytes
undoubled-none [] none = refl
undoubled-none (b ∷ bytes) none = by (is_quote b) refl (undoubled-none bytes) none where
  by : (quote : Bool) → is_quote b ≡ quote → (position_or_len is_quote bytes ≡ length bytes → undoubled bytes ≡ bytes) → cond (not quote) (1 + position_or_len is_quote bytes) 0 ≡ suc (length bytes) → undoubled (b ∷ bytes) ≡ b ∷ bytes
  by true is others all = absurd (omega arith)
  by false is others all = undoubled-other b bytes is ∙ ap (λ t. b ∷ t) (others (omega arith))

-- one more piece and a quote at the end of what was written
pub undoubled-step : (text written piece quoted raw rest behind : List ℕ) → text ++ undoubled rest ≡ undoubled raw → position_or_len is_quote rest < length rest → piece ≡ before_first is_quote rest → behind ≡ without_second (after_first is_quote rest) → written ≡ text ++ piece → quoted ≡ written ++ 39 ∷ [] → quoted ++ undoubled behind ≡ undoubled raw
undoubled-step text written piece quoted raw rest behind so_far within piece_is behind_is written_is quoted_is =
    ap (λ t. t ++ undoubled behind) (quoted_is ∙ ap (λ t. t ++ 39 ∷ []) (written_is ∙ ap (λ t. text ++ t) piece_is))
    ∙ append_assoc (text ++ before_first is_quote rest) (39 ∷ []) (undoubled behind)
    ∙ append_assoc text (before_first is_quote rest) (39 ∷ undoubled behind)
    ∙ ap (λ t. text ++ (before_first is_quote rest ++ 39 ∷ undoubled t)) behind_is
    ∙ ap (λ t. text ++ t) (sym (undoubled-turn rest within)) ∙ so_far
