use Rattle.std.proofs.Common.{◌≡◌, ◌<◌, ◌∙◌, ap, length, get_or, rules, arith}
use Rattle.ds_applied.specs.AppliedLists.{AppliedParts}
use Rattle.ds_applied.proofs.PullLaws.{follows_pulled}
use Rattle.ds_applied.proofs.applied.Applied.pull.Goals as goal

pub loop-self-preserved : goal.loop-self-preserved
loop-self-preserved c =
    let same_place : c.self.inside.commits ≡ c.loop-self.self.commits = ap (λ (p : AppliedParts). p.commits) c.self.view_is in
    let below : c.loop-self.self.commits < length c.args.journal.now = search rules in
    let next = c.in_ok-pull_commit.ensures.ok in (
      follows_pulled c.args.journal.now c.loop-self.self c.pull_commit.new.self c.index-journal-self.result c.loop-self.invariant.0 below
          (c.index-journal-self.is ∙ ap (λ i. get_or c.args.journal.now i c.index-journal-self.result) same_place) next,
      omega (arith, c.loop-self.invariant.1, ap (λ (p : AppliedParts). p.commits) next),
      ap (λ (p : AppliedParts). p.shards) next ∙ c.loop-self.invariant.2,
      ap (λ (p : AppliedParts). p.counts) next ∙ c.loop-self.invariant.3,
    )
