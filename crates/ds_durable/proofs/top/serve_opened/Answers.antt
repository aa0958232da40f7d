use Rattle.std.proofs.Common.{◌≡◌, length, subst}
use Rattle.ds_serving.specs.declared.settings.Setting.{Setting}
use Rattle.ds_durable.specs.Behind.{IsRunBehind}
use Rattle.ds_durable.proofs.top.serve_opened.Goals as goal

pub returns-in-Ok-open-clause-run : goal.returns-in-Ok-open-clause-run
returns-in-Ok-open-clause-run g c =
    let setting = c.args.restart.start.setting in
    let kept = c.args.restart.opened in
    let opened = c.in-Ok-open.opened in
    let given = c.in-Ok-open.ensures.given in
    let after = c.run_opened.new in
    let made : Setting = record { shards = length opened.shards; window = opened.window; defs = opened.definitions } in
    let same : made ≡ setting = λ i. record { shards = given.0 i; window = given.2 i; defs = given.1 i } in
    subst (λ (s : Setting). IsRunBehind s (record { journal = kept.journal; next = kept.next }) (g.I.Source.left c.args.input.now)
    (g.I.Source.left after.input) (g.O.Sink.held c.args.output.now) (g.O.Sink.held after.output) (g.I.Source.faults c.args.input.now)
    (g.I.Source.faults after.input) (g.O.Sink.faults c.args.output.now) (g.O.Sink.faults after.output)
    (g.D.Disk.is_honest c.args.disk.now) (g.D.Disk.images after.disk) (g.D.Disk.faults c.args.disk.now) (g.D.Disk.faults after.disk)
    c.run_opened.result) same c.run_opened.ensures.run
