use Rattle.std.proofs.Common.{◌≡◌, ◌≤◌, [], ◌∷◌, ◌++◌, rules, subst, sym}
use Rattle.std.specs.List.Sorted.{IsNonDecreasing}
use Rattle.ds_log.specs.ShardCommits.{CommitsParts}
use Rattle.ds_log.specs.UpTo.{last_number}
use Rattle.ds_log.proofs.Numbers.{pushed}
use Rattle.ds_log.proofs.shard_commits.ShardCommits.push.Goals as goal

pub invariant_of-self : goal.invariant_of-self
invariant_of-self c =
    let items : c.push.new.self.items ≡ c.self.inside.commits.items ++ c.args.commit ∷ [] = search rules in
    subst IsNonDecreasing (sym items)
    (pushed c.self.inside.commits.items c.args.commit c.self.invariant
    (subst (λ (p : CommitsParts). last_number p.commits ≤ c.args.commit) (sym c.self.view_is) c.requires.ascends))
