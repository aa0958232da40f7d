-- The rows of the ways so far.
use Rattle.std.proofs.Common.{◌≡◌, take}
use Rattle.std.specs.Prelude.{All}
use Rattle.ds_bytes.specs.Lawful.{IsLawfulValue}
use Rattle.ds_rows.specs.IndexedValues.{each_way}
use Rattle.ds_rows.specs.Ways.{lists_of}
use Rattle.ds_rows.proofs.WayLaws.{first_rows}
use Rattle.ds_rows.proofs.ways.put_rows.Given as goal

abbrev pub invariant-loop-way : goal.invariant-loop-way
invariant-loop-way l = record {
  so_far : l.rows ≡ first_rows l.initial.rows.rows l.front l.columns l.key l.way;
  lawful : All (All IsLawfulValue) (take l.way (each_way (lists_of l.columns)));
}
