use Rattle.std.proofs.Common.{◌≡◌, ℕ, ◌<◌, ◌^◌, List, Some, None, sym, ◌∙◌, subst}
use Rattle.std.specs.Prelude.{Result, Ok, Err, Option, IfOk, IfNone}
use Rattle.ds_kept_file.specs.Files.{next_line}
use Rattle.ds_kept_file.proofs.Counters.{found_next}
use Rattle.ds_kept_file.proofs.counter.read_next.Goals as goal

same_number : (m n : ℕ) → Some m ≡ Some n → m ≡ n
same_number m n e = cc

none_is_some : (n : ℕ) → None ≡ Some n → ⊥
none_is_some n e = cc

-- a line that isn't that of the number found in it is that of none
no_other : {E : Type 0} (line : List ℕ) (number : ℕ) (result : Result (Option ℕ) E)
    → ((n : ℕ) → n < 2 ^ 64 → line ≡ next_line n → Some number ≡ Some n)
    → IfOk result (λ read. IfNone read (line ≡ next_line number → ⊥))
    → IfOk result (λ next. IfNone next ((n : ℕ) → n < 2 ^ 64 → line ≡ next_line n → ⊥))
no_other line number (Ok (Some k)) found none = none
no_other line number (Ok None) found none = λ n small same.
    none (subst (λ m. line ≡ next_line m) (sym (same_number number n (found n small same))) same)
no_other line number (Err e) found none = none

pub returns-in-Some-clause-none : goal.returns-in-Some-clause-none
returns-in-Some-clause-none c =
    no_other c.args.line.now c.in-Some.next c.if_line.result
    (λ n small same. sym c.in-Some.is ∙ found_next c.args.line.now n c.in_ok-next.field-0 small c.in_ok-next.ensures same) c.if_line.ensures.none

pub returns-in-None-clause-none : goal.returns-in-None-clause-none
returns-in-None-clause-none c = λ n small same.
    none_is_some n (sym c.in-None.is ∙ found_next c.args.line.now n c.in_ok-next.field-0 small c.in_ok-next.ensures same)
