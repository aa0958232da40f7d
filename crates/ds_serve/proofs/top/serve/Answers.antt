use Rattle.std.proofs.Common.{map}
use Rattle.std.specs.String.{string_bytes}
use Rattle.ds_serve.proofs.Unset.{unset_ends}
use Rattle.ds_serve.proofs.top.serve.Goals as goal

pub returns-in-Ok-clause-legal : goal.returns-in-Ok-clause-legal
returns-in-Ok-clause-legal g c = c.serve_input.ensures.legal (map string_bytes c.args.words.now) (g.F.Files.content c.args.files.now)
    c.in-Ok.ensures.ok

pub returns-in-Err-clause-legal : goal.returns-in-Err-clause-legal
returns-in-Err-clause-legal g c =
    unset_ends (map string_bytes c.args.words.now) (g.F.Files.content c.args.files.now) (g.F.Files.faults c.args.files.now)
    (g.F.Files.faults c.set_up.new.files) c.in-Err.status c.nothing_run.result.status (g.I.Source.left c.args.input.now)
    (g.O.Sink.held c.args.output.now) c.nothing_run.result.journal c.nothing_run.result.unsent
    c.in-Err.ensures.refused c.nothing_run.ensures.status c.nothing_run.ensures.journal c.nothing_run.ensures.unsent
