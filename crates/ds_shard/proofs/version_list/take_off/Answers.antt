use Rattle.std.proofs.Common.{◌≡◌, true, map, sym, ◌∙◌}
use Rattle.ds_shard.specs.Histories.{BeginsBy, version_of, last_begins_at}
use Rattle.ds_shard.proofs.LastVersions.{back_off, each_off, history_off}
use Rattle.ds_shard.proofs.version_list.take_off.Goals as goal

pub loop-items-preserved-in-loop-items : goal.loop-items-preserved-in-loop-items
loop-items-preserved-in-loop-items c =
    let begun : last_begins_at c.args.stamp (map version_of c.loop-items.items.items) ≡ true =
    sym c.begins_last_at.ensures ∙ c.loop-items-test.true in
    let off = c.pop_back.ensures.items in
    record {
      history = history_off _ _ c.pop_back.result off c.loop-items.invariant.history;
      begun = each_off (BeginsBy c.args.stamp) _ _ c.pop_back.result off c.loop-items.invariant.begun;
      same = back_off c.args.stamp _ _ c.pop_back.result off begun ∙ c.loop-items.invariant.same;
    }
