use Rattle.std.proofs.Common.{◌≡◌, ◌+◌, ◌-◌, List, ℕ, ◌∷◌, ◌++◌, length, take, drop, sym, ap, ◌∙◌, arith, length-drop}
use Rattle.std.proofs.lemmas.List.{take_all}
use Rattle.ds_rounds.proofs.LineLaws.{position-newline, position-no_newline}
use Rattle.ds_rounds.proofs.newline.split_line.Goals as goal

pub returns-in-Some-clause-split : goal.returns-in-Some-clause-split
returns-in-Some-clause-split c =
    let text = c.args.text.now in
    let end = c.in-Some.end in
    let behind : take (length text - (end + 1)) (drop (end + 1) text) ≡ drop (end + 1) text =
    take_all (length text - (end + 1)) (drop (end + 1) text) (omega (arith, length-drop (end + 1) text)) in
    (position-newline text end (sym c.in-Some.ensures.at)).whole ∙ ap (λ (l : List ℕ). take end text ++ 10 ∷ l) (sym behind)

pub returns-in-Some-clause-whole : goal.returns-in-Some-clause-whole
returns-in-Some-clause-whole c = (position-newline c.args.text.now c.in-Some.end (sym c.in-Some.ensures.at)).front

pub returns-in-None-clause-none : goal.returns-in-None-clause-none
returns-in-None-clause-none c = position-no_newline c.args.text.now (sym c.in-None.ensures.at)
