-- The rows that were read so far.
use Rattle.std.proofs.Common.{◌≡◌, List, map, take}
use Rattle.ds_bytes.specs.Rows.{RowParts}
use Rattle.ds_pages.specs.Places.{placed}
use Rattle.ds_branch.specs.Behind.{ArePlaces}
use Rattle.ds_engine.proofs.over_shards.rows_at.Given as goal

abbrev pub invariant-loop-place : goal.invariant-loop-place
invariant-loop-place l = (rows : List RowParts) → ArePlaces l.columns rows l.places → l.rows.items
    ≡ map (placed l.columns) (take l.place-index rows)
