use Rattle.std.proofs.Common.{◌≡◌, ◌++◌, List, ap, drop, length, map, subst, sym, take, ◌∙◌, arith}
use Rattle.std.specs.Prelude.{All, IfOk}
use Rattle.std.proofs.lemmas.List.{take-append-le, take_all}
use Rattle.ds_pages.specs.Places.{placed}
use Rattle.ds_engine.specs.Lanes.{AreLanes}
use Rattle.ds_engine.specs.Searches.{rows_of_shards}
use Rattle.ds_engine.specs.Snapshots.{SnapshotParts, entities_in}
use Rattle.ds_engine.proofs.LaneLaws.{as_lanes}
use Rattle.ds_engine.proofs.wide.rows_at_once.Goals as goal

pub scan_all-requires-clause-definitions : goal.scan_all-requires-clause-definitions
scan_all-requires-clause-definitions g c κs within =
    subst (λ (ss : List SnapshotParts). All (λ s. c.args.query.now.defs.now ≡ s.shard.definitions) ss)
    (sym (c.as_slice-shared.ensures.value ∙ c.in_ok-list.ensures)) c.requires.definitions

pub joined-requires : goal.joined-requires
joined-requires g c =
    let n = c.args.query.now.normal.now in
    let w = c.args.query.now.window.now in
    let ss = c.as_slice-shared.result.now in
    let filled = c.scan_all.new.lanes in
    let empty = c.in_ok-lanes.lanes.items in
    let many : length filled ≡ length ss = omega (arith, ap length c.as_mut_slice.ensures.value, c.in_ok-lanes.ensures) in
    let whole : take c.in_ok-lanes.lanes.len (filled ++ drop (length filled) empty) ≡ filled =
    take-append-le c.in_ok-lanes.lanes.len filled (drop (length filled) empty) (omega (arith, many, c.in_ok-lanes.ensures))
    ∙ take_all c.in_ok-lanes.lanes.len filled (omega (arith, many, c.in_ok-lanes.ensures)) in
    record { lanes = subst (λ ls. AreLanes n w ss ls) (sym whole) (as_lanes n w ss filled many c.scan_all.ensures) }

pub returns-clause-rows : goal.returns-clause-rows
returns-clause-rows g c =
    let n = c.args.query.now.normal.now in
    let w = c.args.query.now.window.now in
    subst (λ (ss : List SnapshotParts). IfOk c.joined.result (λ rows. rows.items ≡ map (placed n.merged)
    (rows_of_shards n w (map entities_in ss)))) (c.as_slice-shared.ensures.value ∙ c.in_ok-list.ensures) c.joined.ensures.rows
