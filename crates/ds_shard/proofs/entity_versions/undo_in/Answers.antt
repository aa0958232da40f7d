use Rattle.std.proofs.Common.{sym, ap}
use Rattle.ds_shard.specs.Histories.{BeginsBy, before_stamp, in_key_order}
use Rattle.ds_shard.proofs.ByKey.{each_found}
use Rattle.ds_shard.proofs.KeyCalls.{nothing_but, nothing_changed, changed, changed_but, before_keeps}
use Rattle.ds_shard.proofs.KeyOrdered.{found_too, set_ascends, set_in_order}
use Rattle.ds_shard.proofs.entity_versions.undo_in.Goals as goal

pub undo-requires : goal.undo-requires
undo-requires c =
    let es = c.args.map.now.entries in
    each_found (BeginsBy c.args.stamp) c.args.key.now (in_key_order es) c.in-Some.list.now c.requires.begun
    (sym (found_too c.args.key.now es _ c.in-Some.ensures.value))

pub returns-in-Some-clause-by_key : goal.returns-in-Some-clause-by_key
returns-in-Some-clause-by_key c =
    let w = c.undo.new.self in
    let es = c.args.map.now.entries in
    changed_but (before_stamp c.args.stamp) c.args.key.now (in_key_order es) c.requires.by_key c.in-Some.list.now w _
    (found_too c.args.key.now es _ c.in-Some.ensures.value) c.undo.ensures.undone
    (set_in_order c.args.key.now es _ c.in-Some.list.now w c.in-Some.ensures.value (c.get_mut.follows.holds w).0)
    (before_keeps c.args.stamp) c.undo.ensures.history (set_ascends c.args.key.now es _ w (c.get_mut.follows.holds w).0)

pub returns-in-Some-clause-undone : goal.returns-in-Some-clause-undone
returns-in-Some-clause-undone c =
    let w = c.undo.new.self in
    let es = c.args.map.now.entries in
    changed (before_stamp c.args.stamp) c.args.key.now (in_key_order es) c.requires.by_key c.in-Some.list.now w _
    (found_too c.args.key.now es _ c.in-Some.ensures.value) c.undo.ensures.undone
    (set_in_order c.args.key.now es _ c.in-Some.list.now w c.in-Some.ensures.value (c.get_mut.follows.holds w).0)

pub returns-in_default-clause-undone : goal.returns-in_default-clause-undone
returns-in_default-clause-undone c =
    let es = c.args.map.now.entries in
    nothing_changed (before_stamp c.args.stamp) c.args.key.now (in_key_order es) c.requires.by_key _
    (found_too c.args.key.now es _ c.in_default.ensures.value) (ap (λ m. in_key_order m.entries) c.get_mut.follows.holds-at-none)

pub returns-in_default-clause-by_key : goal.returns-in_default-clause-by_key
returns-in_default-clause-by_key c =
    nothing_but (before_stamp c.args.stamp) c.args.key.now (in_key_order c.args.map.now.entries) c.requires.by_key _
    (ap (λ m. in_key_order m.entries) c.get_mut.follows.holds-at-none)
