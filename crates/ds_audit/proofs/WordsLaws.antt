-- Three names, and the words of a server behind them.
use Rattle.std.proofs.Common.{◌≡◌, ℕ, ◌<◌, ◌≤◌, List, [], ◌∷◌, Bool, true, false, cond, length, map, drop, get_or, refl, ap, sym, ◌∙◌}
use Rattle.std.proofs.Common.{arith, Option, Some, None}
use Rattle.std.specs.Prelude.{◌&&◌, IsSome, option_map}
use Rattle.ds_words.specs.Form.{is_value, options_of}
use Rattle.ds_words.specs.declared.options.Options.{Options}
use Rattle.ds_audit.specs.Audits.{Asked, asked_by}

pub few_words : (words : List (List ℕ)) → length words < 3 → asked_by words ≡ None
few_words [] few = refl
few_words (x ∷ []) few = refl
few_words (x ∷ y ∷ []) few = refl
few_words (x ∷ y ∷ z ∷ words) few = absurd (omega (arith, few))

some-cond : (t : Bool) (o : Option Options) (f : Options → Asked) → t ≡ true → IsSome o → IsSome (cond t (option_map f o) None)
some-cond true (Some x) f is some = some
some-cond true None f is some = some
some-cond false o f is some = cc

-- words that are in their form ask something
pub some_asked : {W : Type 0} (f : W → List ℕ) (words : List W) (i r j : W) → 3 ≤ length words → i ≡ get_or words 0 i → r ≡ get_or words 1 r
    → j ≡ get_or words 2 j → (is_value (f i) && (is_value (f r) && is_value (f j))) ≡ true → IsSome (options_of (map f (drop 3 words)))
    → IsSome (asked_by (map f words))
some_asked f [] i r j many a b c are some = absurd (omega (arith, many))
some_asked f (x ∷ []) i r j many a b c are some = absurd (omega (arith, many))
some_asked f (x ∷ y ∷ []) i r j many a b c are some = absurd (omega (arith, many))
some_asked f (x ∷ y ∷ z ∷ words) i r j many a b c are some =
    some-cond (is_value (f x) && (is_value (f y) && is_value (f z))) (options_of (map f words))
    (λ options. record { input = f x; replies = f y; journal = f z; options = options })
    (sym (ap (λ k. is_value (f k) && (is_value (f r) && is_value (f j))) a
    ∙ ap (λ k. is_value (f x) && (is_value (f k) && is_value (f j))) b
    ∙ ap (λ k. is_value (f x) && (is_value (f y) && is_value (f k))) c) ∙ are) some
