use Rattle.std.proofs.Common.{◌≡◌, ◌≤◌, ◌+◌, option_copied, subst}
use Rattle.ds_rows.specs.Versions.{seen_rows, unseen_rows, first_row, rows_passed}
use Rattle.ds_shard.specs.Shards.{ShardParts}
use Rattle.ds_shard.proofs.Seeking.{sought_first, sought_steps}
use Rattle.ds_shard.proofs.tables.ShardTablesTables.seek_near.Goals as goal

pub returns-clause-finds_the_first : goal.returns-clause-finds_the_first
returns-clause-finds_the_first g c =
    let a = c.args.at_least.now in
    let b = option_copied c.args.below in
    let found = option_copied c.seek_near.result in
    let shown = c.view.ensures in
    subst (λ (s : ShardParts). found ≡ first_row a b (seen_rows s.definitions c.args.at s.versions)) c.self.view_is
    (sought_first c.self.inside.shard.now c.args.at c.view.result shown.stamp shown.a_stamp shown.rows a b found c.seek_near.ensures.least
    c.seek_near.ensures.rows_ascend)

pub returns-clause-steps_bounded : goal.returns-clause-steps_bounded
returns-clause-steps_bounded g c =
    let a = c.args.at_least.now in
    let b = option_copied c.args.below in
    let found = option_copied c.seek_near.result in
    let shown = c.view.ensures in
    let old = c.args.steps.now in
    let new = c.seek_near.new.steps in
    subst (λ (s : ShardParts). new ≤ old + 1 + rows_passed a b found (unseen_rows s.definitions c.args.at s.versions)) c.self.view_is
    (sought_steps c.self.inside.shard.now c.args.at c.view.result shown.stamp shown.a_stamp shown.rows a b found c.seek_near.ensures.least
    c.seek_near.ensures.in_order old new c.seek_near.ensures.steps)
