use Rattle.std.proofs.Common.{◌≤◌, subst, arith, length}
use mathlib.Core.List.{IsPrefix}
use Rattle.ds_hub.proofs.Beginnings.{begins_longer}
use Rattle.ds_hub.proofs.prefix.Prefix.longer.Goals as goal

pub returns-then-self-other-clause-this : goal.returns-then-self-other-clause-this
returns-then-self-other-clause-this g c =
    let both = c.learn.new.self.log in
    let mine = c.self.inside.seen.log in
    let theirs = c.other.inside.seen.log in
    let this = subst (λ (s : _). IsPrefix s.log both) c.again-both.ensures c.learn.ensures.2 in
    let less : length mine ≤ length theirs = omega (arith, c.self.invariant, c.other.invariant) in
    rw (c.duplicate.ensures, ← c.self.view_is, ← c.other.view_is) (begins_longer mine theirs both this c.learn.ensures.3 less)

pub returns-clause-that : goal.returns-clause-that
returns-clause-that g c =
    let both = c.learn.new.self.log in
    let mine = c.self.inside.seen.log in
    let theirs = c.other.inside.seen.log in
    let this = subst (λ (s : _). IsPrefix s.log both) c.again-both.ensures c.learn.ensures.2 in
    let less : length theirs ≤ length mine = omega (arith, c.self.invariant, c.other.invariant) in
    rw (c.duplicate-else-self-other.ensures, ← c.self.view_is, ← c.other.view_is) (begins_longer theirs mine both c.learn.ensures.3 this less)
