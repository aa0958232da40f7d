-- One item more in the text of a load.
use Rattle.std.proofs.Common.{◌≡◌, ℕ, zero, suc, ◌+◌, List, [], ◌∷◌, ◌++◌, ap, sym, ◌∙◌, arith, append-nil}
use Rattle.std.specs.List.{range_with_len}
use Rattle.std.proofs.lemmas.Grind.{flat_map-append}
use Rattle.ds_load.specs.Input.{line_of, put_text, puts_text}

range_push : (a n : ℕ) → range_with_len a (suc n) ≡ range_with_len a n ++ (a + n) ∷ []
range_push a zero = let same : a ≡ a + 0 = omega arith in ap (λ b. b ∷ []) same
range_push a (suc n) =
    let same : a + 1 + n ≡ a + suc n = omega arith in
    ap (λ bs. a ∷ bs) (range_push (a + 1) n ∙ ap (λ b. range_with_len (a + 1) n ++ b ∷ []) same)

pub puts_more : (i : ℕ) → puts_text (range_with_len 0 (i + 1)) ≡ puts_text (range_with_len 0 i) ++ line_of (put_text i)
puts_more i =
    let next : i + 1 ≡ suc i = omega arith in
    let same : 0 + i ≡ i = omega arith in
    ap (λ k. puts_text (range_with_len 0 k)) next
    ∙ ap puts_text (range_push 0 i ∙ ap (λ k. range_with_len 0 i ++ k ∷ []) same)
    ∙ flat_map-append (λ j. line_of (put_text j)) (range_with_len 0 i) (i ∷ [])
    ∙ ap (λ text. puts_text (range_with_len 0 i) ++ text) (append-nil (line_of (put_text i)))

-- one line more of what was written
pub one_put : (i : ℕ) (before after : List ℕ) → before ≡ puts_text (range_with_len 0 i) → after ≡ before ++ line_of (put_text i)
    → after ≡ puts_text (range_with_len 0 (i + 1))
one_put i before after so_far more = more ∙ ap (λ text. text ++ line_of (put_text i)) so_far ∙ sym (puts_more i)
