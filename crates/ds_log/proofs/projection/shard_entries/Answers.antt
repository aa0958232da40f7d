use Rattle.std.proofs.Common.{◌≡◌, ◌+◌, ◌∙◌, ◌++◌, ap, sym, length, arith}
use Rattle.ds_log.specs.Logs.{shard_entries, shard_list}
use Rattle.ds_log.specs.ShardLaws.{shard_list-push}
use Rattle.ds_log.proofs.projection.shard_entries.Goals as goal

pub returns-clause-appended : goal.returns-clause-appended
returns-clause-appended c = λ journal is.
    let next : 1 + length journal ≡ c.args.number = omega (arith, is) in
    shard_list-push journal c.args.commit.now c.args.shard c.args.shards
    ∙ ap (λ n. shard_list journal c.args.shard c.args.shards ++ shard_entries n c.args.commit.now c.args.shard c.args.shards) next
    ∙ ap (λ es. shard_list journal c.args.shard c.args.shards ++ es)
    (sym (c.from.ensures ∙ c.in_ok-push_entries.ensures
    ∙ ap (λ es. es ++ shard_entries c.args.number c.args.commit.now c.args.shard c.args.shards) c.new-entries.ensures.items))
