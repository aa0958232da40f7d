use Rattle.std.proofs.Common.{◌∙◌, arith}
use Rattle.ds_shard.proofs.LastVersions.{current_is}
use Rattle.ds_shard.proofs.version_list.VersionList.current.Goals as goal

pub returns-in-Some : goal.returns-in-Some
returns-in-Some c =
    let items = c.self.inside.items in
    c.current.ensures
    ∙ current_is items.len items.items c.args.self.now c.in-Some.last.now items.ok.0 (omega (arith, c.in-Some.ensures.item.3.0, items.ok.0))
    c.in-Some.ensures.lookup c.self.invariant c.self.view_is
