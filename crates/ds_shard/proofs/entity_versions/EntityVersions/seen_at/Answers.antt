use Rattle.std.proofs.Common.{Some, None, ◌∙◌}
use Rattle.ds_shard.specs.Histories.{in_key_order}
use Rattle.ds_shard.proofs.KeyCalls.{seen_there}
use Rattle.ds_shard.proofs.KeyOrdered.{found_too}
use Rattle.ds_shard.proofs.entity_versions.EntityVersions.seen_at.Goals as goal

pub returns-in-Some : goal.returns-in-Some
returns-in-Some c =
    let es = c.self.inside.by_key.entries in
    c.seen_at.ensures
    ∙ seen_there c.args.key.now (in_key_order es) c.self.invariant (Some c.in-Some.list.now)
    (found_too c.args.key.now es _ c.in-Some.ensures.value) c.args.self.now c.self.view_is c.args.at

pub returns-in-None : goal.returns-in-None
returns-in-None c =
    let es = c.self.inside.by_key.entries in
    seen_there c.args.key.now (in_key_order es) c.self.invariant None (found_too c.args.key.now es _ c.in-None.ensures.value)
    c.args.self.now c.self.view_is c.args.at
