use Rattle.std.proofs.Common.{sym, ap, ◌∙◌}
use Rattle.ds_shard.specs.Histories.{in_key_order, joined, outlives}
use Rattle.ds_shard.proofs.ByKey.{trimmed_local, filter_kept, outliving}
use Rattle.ds_shard.proofs.KeyCalls.{nothing_but, nothing_changed, changed, changed_but, outliving_keeps}
use Rattle.ds_shard.proofs.KeyOrdered.{found_too, set_ascends, set_in_order}
use Rattle.ds_shard.proofs.entity_versions.trim_in.Goals as goal

pub returns-in-Some-clause-by_key : goal.returns-in-Some-clause-by_key
returns-in-Some-clause-by_key c =
    let w = c.trim.new.self in
    let es = c.args.map.now.entries in
    changed_but (outliving c.args.floor) c.args.key.now (in_key_order es) c.requires c.in-Some.list.now w _
    (found_too c.args.key.now es _ c.in-Some.ensures.value)
    (c.trim.ensures.trimmed ∙ sym (filter_kept (outlives c.args.floor) c.in-Some.list.now))
    (set_in_order c.args.key.now es _ c.in-Some.list.now w c.in-Some.ensures.value (c.get_mut.follows.holds w).0)
    (outliving_keeps c.args.floor) c.trim.ensures.history (set_ascends c.args.key.now es _ w (c.get_mut.follows.holds w).0)

pub returns-in-Some-clause-trimmed : goal.returns-in-Some-clause-trimmed
returns-in-Some-clause-trimmed c =
    let w = c.trim.new.self in
    let es = c.args.map.now.entries in
    changed (outliving c.args.floor) c.args.key.now (in_key_order es) c.requires c.in-Some.list.now w _
    (found_too c.args.key.now es _ c.in-Some.ensures.value)
    (c.trim.ensures.trimmed ∙ sym (filter_kept (outlives c.args.floor) c.in-Some.list.now))
    (set_in_order c.args.key.now es _ c.in-Some.list.now w c.in-Some.ensures.value (c.get_mut.follows.holds w).0)
    ∙ sym (trimmed_local c.args.floor c.args.key.now (joined (in_key_order es)))

pub returns-in_default-clause-trimmed : goal.returns-in_default-clause-trimmed
returns-in_default-clause-trimmed c =
    let es = c.args.map.now.entries in
    nothing_changed (outliving c.args.floor) c.args.key.now (in_key_order es) c.requires _
    (found_too c.args.key.now es _ c.in_default.ensures.value) (ap (λ m. in_key_order m.entries) c.get_mut.follows.holds-at-none)
    ∙ sym (trimmed_local c.args.floor c.args.key.now (joined (in_key_order es)))

pub returns-in_default-clause-by_key : goal.returns-in_default-clause-by_key
returns-in_default-clause-by_key c =
    nothing_but (outliving c.args.floor) c.args.key.now (in_key_order c.args.map.now.entries) c.requires _
    (ap (λ m. in_key_order m.entries) c.get_mut.follows.holds-at-none)
