use Rattle.std.proofs.Common.{◌≡◌, [], ◌∷◌, ◌++◌, rules, subst, sym}
use Rattle.ds_applied.specs.AppliedLists.{IsShard}
use Rattle.ds_applied.proofs.ShardSteps.{shard_pushed}
use Rattle.ds_applied.proofs.shard.Shard.push.Goals as goal

pub invariant_of-self : goal.invariant_of-self
invariant_of-self c =
    let items : c.push.new.self.items ≡ c.self.inside.entries.items ++ c.args.entry ∷ [] = search rules in
    subst (λ es. IsShard es c.self.inside.applied c.self.inside.begun c.self.inside.entities) (sym items)
    (shard_pushed c.self.inside.entries.items c.args.entry c.self.inside.applied c.self.inside.begun c.self.inside.entities
    c.self.invariant)
