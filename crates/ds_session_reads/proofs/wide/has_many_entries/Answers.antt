use Rattle.std.proofs.Common.{◌<◌, ◌≤◌, ◌∙◌, arith, length, refl}
use Rattle.ds_session_reads.specs.Wide.{most_scanned_by_one}
use Rattle.ds_session_reads.proofs.WideLaws.{count_told, less_left, too_many}
use Rattle.ds_session_reads.proofs.wide.has_many_entries.Goals as goal

pub returns-then-count-left : goal.returns-then-count-left
returns-then-count-left g c =
    let lists = c.args.pass.now.lists in
    let k = c.loop-shard.shard in
    let below : k < length lists = omega (arith, c.loop-shard-test.true, c.loop-shard.auto.shard-end, c.shards-shard-end.ensures) in
    let count = c.unwrap_or-count.ensures ∙ count_told lists k c.count.result c.count.ensures in
    let more : c.loop-shard.left < c.unwrap_or-count.result = omega (arith, c.if-count-left.true) in (
      λ yes. too_many lists k c.loop-shard.left most_scanned_by_one c.unwrap_or-count.result below count c.loop-shard.invariant more,
      λ many. refl,
    )

pub loop-shard-preserved : goal.loop-shard-preserved
loop-shard-preserved g c =
    let lists = c.args.pass.now.lists in
    let k = c.loop-shard.shard in
    let below : k < length lists = omega (arith, c.loop-shard-test.true, c.loop-shard.auto.shard-end, c.shards-shard-end.ensures) in
    let count = c.unwrap_or-count.ensures ∙ count_told lists k c.count.result c.count.ensures in
    let within : c.unwrap_or-count.result ≤ c.loop-shard.left = omega (arith, c.if-count-left.false) in
    less_left lists k c.loop-shard.left most_scanned_by_one c.unwrap_or-count.result below count c.loop-shard.invariant within
