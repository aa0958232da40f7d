use Rattle.std.proofs.Common.{◌≡◌, ◌+◌, [], ◌∷◌, ◌++◌, ap, drop, length, length-append, map, subst, sym, take, ◌∙◌, arith, rules}
use Rattle.std.specs.Prelude.{flat_map}
use Rattle.std.proofs.lemmas.List.{nil_from_length}
use Rattle.std.proofs.lemmas.List.Folds.{flat_map-map}
use Rattle.ds_pages.specs.Places.{placed}
use Rattle.ds_engine.specs.Lanes.{AreLanes, IsLaneOf}
use Rattle.ds_engine.specs.Searches.{shard_rows}
use Rattle.ds_engine.specs.Snapshots.{SnapshotParts, entities_in}
use Rattle.ds_engine.proofs.LaneLaws.{next_lane, none_left}
use Rattle.ds_engine.proofs.RowLoops.{placed-more, rows-all, rows-more}
use Rattle.ds_engine.proofs.wide.joined.Goals as goal

pub loop-lane-preserved : goal.loop-lane-preserved
loop-lane-preserved g c =
    let n = c.args.query.now.normal.now in
    let w = c.args.query.now.window.now in
    let ss = c.args.snapshots.now in
    let i = length c.loop-lane.yielded in
    let rest = c.next.new.self.rest.items in
    let next = next_lane n w ss i c.in-Some.lane rest
    (subst (λ ls. AreLanes n w (drop i ss) ls) c.in-Some.ensures.steps.0 c.loop-lane.invariant.left) in
    let own = subst (IsLaneOf n w next.shard) c.in-Some-lane.is next.own in
    let more = length-append c.loop-lane.yielded (c.in-Some.lane ∷ []) in
    let longer : i + 1 ≡ length (c.loop-lane.yielded ++ c.in-Some.lane ∷ []) = omega (arith, more) in
    record {
      rows = subst (λ k. c.put_rows.new.rows.items ≡ map (placed n.merged)
          (flat_map (λ (s : SnapshotParts). shard_rows n w (entities_in s)) (take k ss)))
          longer
          (rows-more n.merged (λ (s : SnapshotParts). shard_rows n w (entities_in s)) ss i next.shard next.below next.is []
          c.loop-lane.rows.items c.in-Some-lane.list c.put_rows.new.rows.items c.loop-lane.invariant.rows own.are c.in_ok-put_rows.ensures);
      placed = placed-more n.merged c.loop-lane.rows.items c.in-Some-lane.list c.put_rows.new.rows.items c.loop-lane.invariant.placed
          own.placed c.in_ok-put_rows.ensures;
      left = subst (λ k. AreLanes n w (drop k ss) rest) longer next.rest;
    }

pub returns-clause-rows : goal.returns-clause-rows
returns-clause-rows g c =
    let n = c.args.query.now.normal.now in
    let w = c.args.query.now.window.now in
    let ss = c.args.snapshots.now in
    let i = length c.loop-lane.yielded in
    let few : length c.loop-lane.lane-iterator.rest.items ≡ 0 = search rules in
    let none : c.loop-lane.lane-iterator.rest.items ≡ [] = nil_from_length c.loop-lane.lane-iterator.rest.items few in
    rows-all n.merged (λ (s : SnapshotParts). shard_rows n w (entities_in s)) ss i [] c.loop-lane.rows.items
    (none_left n w ss i (subst (λ ls. AreLanes n w (drop i ss) ls) none c.loop-lane.invariant.left)) c.loop-lane.invariant.rows
    ∙ ap (map (placed n.merged)) (sym (flat_map-map (shard_rows n w) entities_in ss))
