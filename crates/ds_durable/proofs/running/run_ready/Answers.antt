use Rattle.std.proofs.Common.{◌∙◌, All, ap, subst, sym}
use Rattle.std.proofs.lemmas.List.Elements.{All-append, All-take}
use Rattle.ds_clients.specs.Runs.{IsIdle}
use Rattle.ds_disk.specs.CrashLaws.{weakened}
use Rattle.ds_serving.specs.declared.settings.Setting.{Setting}
use Rattle.ds_serving.proofs.Alike.{all_drop}
use Rattle.ds_store.specs.Loads.{loaded}
use Rattle.ds_kept_rounds.specs.Ending.{HasEndedKept}
use Rattle.ds_keeping.specs.Holding.{kept_at}
use Rattle.ds_restoring.specs.LegalFrom.{sessions_from}
use Rattle.ds_keeping.specs.Moments.{IsBetween, IsLeft}
use Rattle.ds_durable.proofs.Closing.{closed_behind, going_first, left_between, loaded_later}
use Rattle.ds_durable.proofs.running.run_ready.Goals as goal

pub serve_beside-stopped-requires-clause-going : goal.serve_beside-stopped-requires-clause-going
serve_beside-stopped-requires-clause-going g c κs within =
    let ready = c.args.start.ready in
    going_first c.new-serving.result.shards ready.store.shards c.args.start.keeper ready.store _ ready.sessions
    ready.pass ready.counts _ _ c.requires.ready
    (ap (λ (s : Setting). s.shards) c.new-serving.ensures) c.requires.numbers.0 c.requires.numbers.1

pub serve_beside-stopped-requires-clause-idle : goal.serve_beside-stopped-requires-clause-idle
serve_beside-stopped-requires-clause-idle g c κs within =
    subst (All IsIdle) (sym c.as_mut_slice.ensures.value) c.requires.ready.appliers_idle

pub returns-clause-run : goal.returns-clause-run
returns-clause-run g c =
    let ready = c.args.start.ready in
    let keeper = c.args.start.keeper in
    let pass = ready.pass in
    let before = kept_at pass keeper.next in
    let after = c.serve_beside-stopped.new in
    let loader = after.running.follower.pass in
    closed_behind before keeper c.serve_beside-stopped.result _ loader c.close.result
    (All-take IsIdle _ _ (All-append IsIdle _ _ c.serve_beside-stopped.ensures.idle (all_drop IsIdle _ _ c.requires.ready.appliers_idle)))
    (loaded_later ready.store.shards before pass loader c.requires.least
    (c.requires.ready.follows ∙ ap (λ n. loaded ready.store.shards pass.journal n) (sym c.requires.numbers.1))
    c.serve_beside-stopped.ensures.read)
    (c.requires.ready.seen ∙ ap (λ n. sessions_from ready.store.shards (kept_at pass n)) (sym c.requires.numbers.1))
    c.requires.ready.idle
    (subst (λ (s : Setting). HasEndedKept s keeper (g.I.Source.left c.args.input.now) (g.I.Source.left after.input)
    (g.O.Sink.held c.args.output.now) (g.O.Sink.held after.output) (g.I.Source.faults c.args.input.now) (g.I.Source.faults after.input)
    (g.O.Sink.faults c.args.output.now) (g.O.Sink.faults after.output) ready.sessions after.running.sessions
    (g.D.Disk.is_honest c.args.disk.now) (g.D.Disk.images after.disk) (g.D.Disk.faults c.args.disk.now) (g.D.Disk.faults after.disk)
    c.serve_beside-stopped.result) c.new-serving.ensures c.serve_beside-stopped.ensures.ended)
    c.requires.fits c.close.ensures.status c.close.ensures.unsent
    (c.close.ensures.start ∙ c.kept-kept.ensures ∙ c.requires.numbers.0) c.close.ensures.journal c.close.ensures.ended

pub returns-clause-any_moment : goal.returns-clause-any_moment
returns-clause-any_moment g c = λ honest.
    let keeper = c.args.start.keeper in
    let pass = c.args.start.ready.pass in
    let before = kept_at pass keeper.next in
    let after = c.serve_beside-stopped.new in
    let loader = after.running.follower.pass in
    weakened g.D.Disk.moment g.D.Disk.left_since c.args.disk.now after.disk (IsBetween before loader.journal)
    (IsLeft before c.close.result.journal) (c.serve_beside-stopped.ensures.any_moment honest)
    (λ image is.
    left_between c.args.start.ready.store.shards before _ loader c.close.result.journal c.close.ensures.ended image is)
