use Rattle.ds_hub.specs.Logs.{told_by}
use Rattle.ds_hub.proofs.Turning.{nobody_knows}
use Rattle.ds_hub.proofs.hub.open.Goals as goal

pub new-requires-clause-rule : goal.new-requires-clause-rule
new-requires-clause-rule g c = nobody_knows (told_by g.S.Absorb.asks g.S.Absorb.applied) g.S.Absorb.belongs (g.S.Absorb.state c.args.first) c.duplicate.result
