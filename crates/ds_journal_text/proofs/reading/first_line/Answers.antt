use Rattle.std.proofs.Common.{◌≡◌, ℕ, ◌-◌, List, [], length, take, drop, sym, ◌∙◌, refl, subst, inl, inr, arith, length-drop}
use Rattle.std.proofs.lemmas.List.{take_all, drop_all}
use Rattle.ds_journal_text.specs.Lines.{IsFirstLine}
use Rattle.ds_journal_text.proofs.reading.first_line.Goals as goal

pub returns-in-Some : goal.returns-in-Some
returns-in-Some c = record { whole = c.in-Some.ensures.whole; split = inl c.in-Some.ensures.split }

pub returns-in-None : goal.returns-in-None
returns-in-None c =
    let text = c.args.text.now in
    let nothing : take (length text - length text) (drop (length text) text) ≡ [] =
    take_all (length text - length text) (drop (length text) text) (omega (arith, length-drop (length text) text)) ∙ drop_all (length text) text (omega arith) in
    subst (λ (b : List ℕ). IsFirstLine text text b) (sym nothing) (record { whole = c.in-None.ensures.none; split = inr (refl, refl) })
