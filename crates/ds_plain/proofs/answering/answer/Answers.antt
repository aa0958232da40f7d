use Rattle.std.proofs.Common.{◌∙◌, ◌≤◌, ap, map, length, subst}
use Rattle.std.proofs.lemmas.List.{take_all}
use Rattle.ds_plain.specs.Answers.{query_page}
use Rattle.ds_plain.proofs.AnswerLaws.{given}
use Rattle.ds_plain.proofs.answering.answer.Goals as goal

pub returns : goal.returns
returns c =
    let i = c.loop-entity.entity-index in
    given c.answer_of.result c.answer_of.ensures (λ p page. page ∙ ap (query_page c.args.normal.now c.args.window.now)
    (ap (map (λ e. e.now)) c.as_slice.ensures.value ∙ c.loop-entity.invariant
    ∙ take_all i c.args.entities.now (subst (λ es. length es ≤ i) c.as_slice-entity-items.ensures c.loop-entity-test.false)))
