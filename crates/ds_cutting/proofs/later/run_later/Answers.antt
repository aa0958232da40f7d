use Rattle.std.proofs.Common.{◌∙◌, ◌++◌, ◌∷◌, List, [], ap, refl, subst}
use Rattle.std.proofs.lemmas.List.Elements.{All-append, All-take}
use Rattle.ds_clients.specs.Runs.{IsIdle}
use Rattle.ds_serving.specs.declared.settings.Setting.{Setting}
use Rattle.ds_serving.proofs.Alike.{all_drop}
use Rattle.ds_serve.specs.RunSteps.{HasEnded}
use Rattle.ds_store.specs.Passes.{PassParts}
use Rattle.ds_cutting.specs.CutSteps.{asked_of}
use Rattle.ds_cutting.proofs.Outcomes.{went_on}
use Rattle.ds_cutting.proofs.later.run_later.Goals as goal

pub returns-clause-later : goal.returns-clause-later
returns-clause-later g c = λ first earlier said left held given.
    let setting = asked_of c.args.later.store.shards g.K.Names.window g.K.Names.definitions in
    let after = c.serve_beside-status.new in
    let stopped = c.serve_beside-status.result in
    let ended = subst (λ (s : Setting). HasEnded s c.args.later.rounds (g.I.Source.left c.args.input.now) (g.I.Source.left after.input)
    (g.O.Sink.held c.args.output.now) (g.O.Sink.held after.output) (g.I.Source.faults c.args.input.now) (g.I.Source.faults after.input)
    (g.O.Sink.faults c.args.output.now) (g.O.Sink.faults after.output) c.args.later.sessions after.sessions stopped) c.new-serving.ensures
    c.serve_beside-status.ensures.ended in
    went_on setting c.args.later.place c.args.later.loader first earlier said _ stopped.status after.sessions c.from.result _
    c.close-journal.result.journal c.close-journal.result.next refl refl refl (ended.stopped first earlier said left held given)
    (c.from.ensures ∙ c.push_reserved.ensures.items ∙ ap (λ (ps : List PassParts). ps ++ c.args.later.loader ∷ []) c.end.ensures.passes)
    (All-take IsIdle _ _ (All-append IsIdle _ _ c.serve_beside-status.ensures.idle (all_drop IsIdle _ _ c.requires.idle)))
    c.close-journal.ensures
