use Rattle.std.proofs.Common.{Some, sym, ap, ◌∙◌, subst}
use Rattle.ds_shard.specs.Histories.{BeginsBy, IsFilled, in_key_order, joined}
use Rattle.ds_shard.proofs.HistoryLaws.{end_open, map_kept}
use Rattle.ds_shard.proofs.ByKey.{each_found, ended_local}
use Rattle.ds_shard.proofs.FilledKeys.{filled-map}
use Rattle.ds_shard.proofs.KeyCalls.{nothing_changed, changed, changed_by_key, end_keeps}
use Rattle.ds_shard.proofs.KeyOrdered.{found_too, set_ascends, set_in_order}
use Rattle.ds_shard.proofs.entity_versions.end_in.Goals as goal

pub end-requires : goal.end-requires
end-requires c =
    let es = c.args.map.now.entries in
    each_found (BeginsBy c.args.stamp) c.args.key.now (in_key_order es) c.in-Some.list.now c.requires.begun
    (sym (found_too c.args.key.now es _ c.in-Some.ensures.value))

pub returns-in-Some-clause-by_key : goal.returns-in-Some-clause-by_key
returns-in-Some-clause-by_key c =
    let w = c.end.new.self in
    let es = c.args.map.now.entries in
    changed_by_key (λ v. Some (end_open c.args.stamp v)) c.args.key.now (in_key_order es) c.requires.by_key c.in-Some.list.now w _
    (found_too c.args.key.now es _ c.in-Some.ensures.value)
    (c.end.ensures.ended ∙ sym (map_kept (end_open c.args.stamp) c.in-Some.list.now))
    (set_in_order c.args.key.now es _ c.in-Some.list.now w c.in-Some.ensures.value (c.get_mut.follows.holds w).0)
    (end_keeps c.args.stamp) c.end.ensures.history (set_ascends c.args.key.now es _ w (c.get_mut.follows.holds w).0)
    (λ there. subst IsFilled (sym c.end.ensures.ended) (filled-map (end_open c.args.stamp) c.in-Some.list.now there))

pub returns-in-Some-clause-ended : goal.returns-in-Some-clause-ended
returns-in-Some-clause-ended c =
    let w = c.end.new.self in
    let es = c.args.map.now.entries in
    changed (λ v. Some (end_open c.args.stamp v)) c.args.key.now (in_key_order es) c.requires.by_key c.in-Some.list.now w _
    (found_too c.args.key.now es _ c.in-Some.ensures.value)
    (c.end.ensures.ended ∙ sym (map_kept (end_open c.args.stamp) c.in-Some.list.now))
    (set_in_order c.args.key.now es _ c.in-Some.list.now w c.in-Some.ensures.value (c.get_mut.follows.holds w).0)
    ∙ sym (ended_local c.args.stamp c.args.key.now (joined (in_key_order es)))

pub returns-in_default-clause-ended : goal.returns-in_default-clause-ended
returns-in_default-clause-ended c =
    let es = c.args.map.now.entries in
    nothing_changed (λ v. Some (end_open c.args.stamp v)) c.args.key.now (in_key_order es) c.requires.by_key _
    (found_too c.args.key.now es _ c.in_default.ensures.value) (ap (λ m. in_key_order m.entries) c.get_mut.follows.holds-at-none)
    ∙ sym (ended_local c.args.stamp c.args.key.now (joined (in_key_order es)))
