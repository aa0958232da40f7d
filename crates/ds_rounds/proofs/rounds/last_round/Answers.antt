use Rattle.std.proofs.Common.{◌∙◌, ◌∷◌, [], ap, arith, length, sym}
use Rattle.std.proofs.lemmas.Bool.{eqb-false}
use Rattle.ds_rounds.specs.Rounds.{numbered}
use Rattle.ds_rounds.proofs.DraftLaws.{round_of-some}
use Rattle.ds_rounds.proofs.rounds.last_round.Goals as goal

pub returns-clause-rounds : goal.returns-clause-rounds
returns-clause-rounds c = λ line is_line.
    c.in_ok-end_input.ensures.rounds line is_line
    ∙ round_of-some c.end_input.new.self.first c.end_input.new.self.lines [] (omega (arith, eqb-false (length c.end_input.new.self.lines) 0 (sym c.is_empty.ensures ∙ c.if-is_empty.false)))
    ∙ ap (λ n. numbered n c.end_input.new.self.lines ∷ []) (sym c.into_round.ensures.first)
    ∙ ap (λ ls. numbered c.into_round.result.first ls ∷ []) (sym c.into_round.ensures.lines)
