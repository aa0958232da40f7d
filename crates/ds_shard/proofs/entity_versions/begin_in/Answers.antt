use Rattle.std.proofs.Common.{None}
use Rattle.ds_rows.specs.Versions.{Version}
use Rattle.ds_shard.specs.Histories.{in_key_order}
use Rattle.ds_shard.proofs.KeyCalls.{over_there, begun_by_key, begun_is, unbegun_is}
use Rattle.ds_shard.proofs.KeyOrdered.{found_too, set_ascends, set_in_order}
use Rattle.ds_shard.proofs.entity_versions.begin_in.Goals as goal

pub begin-requires : goal.begin-requires
begin-requires c =
    let k = c.key.result.now in
    let es = c.args.map.now.entries in
    over_there c.args.stamp c.args.entity.now.key k (in_key_order es) c.in-Some.list.now c.key.ensures.value
    c.requires.by_key c.requires.over (found_too k es _ c.in-Some.ensures.value)

pub returns-in-Some-clause-by_key : goal.returns-in-Some-clause-by_key
returns-in-Some-clause-by_key c =
    let v : Version = record { entity = c.args.entity.now; from = c.args.stamp; until = None } in
    let w = c.begin.new.self in
    let k = c.key.result.now in
    let es = c.args.map.now.entries in
    begun_by_key v k c.key.ensures.value (in_key_order es) _ c.in-Some.list.now w c.requires.by_key
    (found_too k es _ c.in-Some.ensures.value)
    (set_in_order k es _ c.in-Some.list.now w c.in-Some.ensures.value (c.get_mut.follows.holds w).0) c.begin.result c.begin.ensures.begun
    c.begin.ensures.unchanged c.begin.ensures.history (set_ascends k es _ w (c.get_mut.follows.holds w).0)

pub returns-in-Some-clause-begun : goal.returns-in-Some-clause-begun
returns-in-Some-clause-begun c =
    let v : Version = record { entity = c.args.entity.now; from = c.args.stamp; until = None } in
    let w = c.begin.new.self in
    let k = c.key.result.now in
    let es = c.args.map.now.entries in
    begun_is v k c.key.ensures.value (in_key_order es) _ c.in-Some.list.now w c.requires.by_key
    (found_too k es _ c.in-Some.ensures.value)
    (set_in_order k es _ c.in-Some.list.now w c.in-Some.ensures.value (c.get_mut.follows.holds w).0) c.begin.result c.begin.ensures.begun

pub returns-in-Some-clause-unchanged : goal.returns-in-Some-clause-unchanged
returns-in-Some-clause-unchanged c =
    let v : Version = record { entity = c.args.entity.now; from = c.args.stamp; until = None } in
    let w = c.begin.new.self in
    let k = c.key.result.now in
    let es = c.args.map.now.entries in
    unbegun_is v k c.key.ensures.value (in_key_order es) _ c.in-Some.list.now w c.requires.by_key
    (found_too k es _ c.in-Some.ensures.value)
    (set_in_order k es _ c.in-Some.list.now w c.in-Some.ensures.value (c.get_mut.follows.holds w).0) c.begin.result
    c.begin.ensures.unchanged
