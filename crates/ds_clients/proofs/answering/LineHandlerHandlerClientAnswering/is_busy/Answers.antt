use Rattle.std.proofs.Common.{Some}
use Rattle.ds_client.proofs.OwnLaws.{idle_answered}
use Rattle.ds_clients.proofs.answering.LineHandlerHandlerClientAnswering.is_busy.Goals as goal

pub returns : goal.returns
returns g c = λ idle.
    idle_answered g.J.Names.definitions g.N.RunNames.shards (Some g.J.Names.window) c.args.client.now.session c.args.client.now.own
    (c.has_lines.ensures idle)
