use Rattle.std.proofs.Common.{◌<◌, ◌∙◌, ap, length, rules}
use Rattle.std.proofs.Math.Seq.{map-set_same}
use Rattle.std.proofs.lemmas.List.{length-set}
use Rattle.std.proofs.lemmas.List.Elements.{AllWithin-more_set}
use Rattle.ds_applied.specs.AppliedLists.{AppliedShard}
use Rattle.ds_applied.specs.Routing.{HasRoom}
use Rattle.ds_applied.proofs.routing.make_room.Goals as goal

pub returns-in_err-reserve-clause-entries : goal.returns-in_err-reserve-clause-entries
returns-in_err-reserve-clause-entries c =
    map-set_same (λ (s : AppliedShard). s.entries) c.loop-i.shards.items c.loop-i.i c.reserve.new.self c.index_mut.result.now
    (c.in_err-reserve.ensures.kept.0 ∙ ap (λ (s : AppliedShard). s.entries) c.index_mut.ensures.value) ∙ c.loop-i.invariant.1

pub returns-in_err-reserve-clause-applied : goal.returns-in_err-reserve-clause-applied
returns-in_err-reserve-clause-applied c =
    map-set_same (λ (s : AppliedShard). s.applied) c.loop-i.shards.items c.loop-i.i c.reserve.new.self c.index_mut.result.now
    (c.in_err-reserve.ensures.kept.1 ∙ ap (λ (s : AppliedShard). s.applied) c.index_mut.ensures.value) ∙ c.loop-i.invariant.2

pub loop-i-preserved : goal.loop-i-preserved
loop-i-preserved c =
    let below : c.loop-i.i < length c.loop-i.shards.items = search rules in (
      length-set c.loop-i.shards.items c.loop-i.i c.reserve.new.self ∙ c.loop-i.invariant.0,
      map-set_same (λ (s : AppliedShard). s.entries) c.loop-i.shards.items c.loop-i.i c.reserve.new.self c.index_mut.result.now
          (c.in_ok-reserve.ensures.kept.0 ∙ ap (λ (s : AppliedShard). s.entries) c.index_mut.ensures.value) ∙ c.loop-i.invariant.1,
      map-set_same (λ (s : AppliedShard). s.applied) c.loop-i.shards.items c.loop-i.i c.reserve.new.self c.index_mut.result.now
          (c.in_ok-reserve.ensures.kept.1 ∙ ap (λ (s : AppliedShard). s.applied) c.index_mut.ensures.value) ∙ c.loop-i.invariant.2,
      AllWithin-more_set c.loop-i.shards.items c.loop-i.i c.reserve.new.self below
          (HasRoom c.args.entries) c.loop-i.invariant.3 c.in_ok-reserve.ensures.ok,
    )
