use Rattle.std.proofs.Common.{subst}
use mathlib.Core.List.{IsPrefix}
use Rattle.ds_hub.proofs.Beginnings.{begins_by_length}
use Rattle.ds_hub.proofs.prefix.Prefix.begins.Goals as goal

pub returns : goal.returns
returns g c =
    let both = c.learn.new.self.log in
    let mine = c.self.inside.seen.log in
    let theirs = c.other.inside.seen.log in
    let this = subst (λ (s : _). IsPrefix s.log both) c.again-both.ensures c.learn.ensures.2 in
    rw (← c.self.view_is, ← c.other.view_is)
    (begins_by_length mine theirs both c.self.inside.held c.other.inside.held c.self.invariant c.other.invariant this c.learn.ensures.3)
