use Rattle.std.proofs.Common.{◌≡◌, ◌∙◌, ap, length, arith}
use Rattle.std.proofs.lemmas.Bool.{le-leb}
use Rattle.std.proofs.lemmas.List.{length-map}
use Rattle.ds_log.specs.declared.Entry.{Entry}
use Rattle.ds_log.specs.Logs.{shard_list}
use Rattle.ds_log.specs.ShardLaws.{length-shard_list}
use Rattle.ds_write_tests.proofs.shards.are_few.Goals as goal

pub returns : goal.returns
returns c journal shard shards are long few =
    let bound = length-shard_list journal shard shards few in
    let same : length c.args.entries.now.commits ≡ length (shard_list journal shard shards) =
    ap length are ∙ length-map (shard_list journal shard shards) (λ (e : Entry). e.commit) in
    le-leb _ _ (omega (arith, bound, same, long, c.len.ensures))
