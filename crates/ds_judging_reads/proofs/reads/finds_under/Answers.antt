use Rattle.std.proofs.Common.{◌++◌, IfOk, map, ap, subst, take, ◌∙◌}
use Rattle.ds_entity.specs.declared.results.Seen.TheVariants as seen
use Rattle.ds_log.specs.After.{after}
use Rattle.ds_log.specs.Logs.{writes_of}
use Rattle.ds_history.specs.Writers.{writing}
use Rattle.ds_judging_lines.specs.Deciding.{SaidIs}
use Rattle.ds_judging_reads.specs.Reading.{told_over}
use Rattle.ds_judging_reads.proofs.SearchLaws.{by_key}
use Rattle.ds_judging_reads.proofs.reads.finds_under.Goals as goal

pub finds-requires-clause-by_key : goal.finds-requires-clause-by_key
finds-requires-clause-by_key c =
    by_key (map (λ e. e.now) c.as_slice.result.now)
    (after (writes_of (writing c.args.group.now (take c.args.place c.args.turn.now.run.now.history.journal))))
    (ap (map (λ e. e.now)) c.as_slice.ensures.value ∙ c.in_ok-put_all.ensures
    ∙ ap (λ es. map (λ e. e.now) es ++ c.in_ok-view.view) c.in_ok-entities.ensures.items ∙ c.in_ok-view.ensures)

pub returns : goal.returns
returns c =
    let told = told_over c.args.search.now c.args.ready.now.normal c.args.ready.now.window in
    subst (λ b. IfOk c.finds.result (SaidIs c.args.turn.now b))
    (ap (λ es. told es (seen.Place c.args.place))
    (ap (map (λ e. e.now)) c.as_slice.ensures.value ∙ c.in_ok-put_all.ensures
    ∙ ap (λ es. map (λ e. e.now) es ++ c.in_ok-view.view) c.in_ok-entities.ensures.items ∙ c.in_ok-view.ensures))
    c.finds.ensures
