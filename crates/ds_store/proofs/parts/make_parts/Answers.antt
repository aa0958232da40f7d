use Rattle.std.proofs.Common.{sym, length, ◌∙◌}
use Rattle.ds_store_passes.specs.Passes.{nothing_seen}
use Rattle.ds_store.proofs.Loads.{last_of_alike}
use Rattle.ds_store.proofs.parts.make_parts.Goals as goal

pub returns-clause-pass : goal.returns-clause-pass
returns-clause-pass g c =
    (last_of_alike c.args.passes (nothing_seen (length g.J.Names.shards)) c.in_ok-pass.others.items c.in_ok-pass.pass
    (sym c.in_ok-list.ensures.passes ∙ c.in_ok-pass.ensures.apart)).1

pub returns-clause-others : goal.returns-clause-others
returns-clause-others g c =
    (last_of_alike c.args.passes (nothing_seen (length g.J.Names.shards)) c.in_ok-pass.others.items c.in_ok-pass.pass
    (sym c.in_ok-list.ensures.passes ∙ c.in_ok-pass.ensures.apart)).0

pub returns-clause-some : goal.returns-clause-some
returns-clause-some g c =
    (last_of_alike c.args.passes (nothing_seen (length g.J.Names.shards)) c.in_ok-pass.others.items c.in_ok-pass.pass
    (sym c.in_ok-list.ensures.passes ∙ c.in_ok-pass.ensures.apart)).2
