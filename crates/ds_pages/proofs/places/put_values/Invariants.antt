-- The bytes so far and those of the values that are left are all.
use Rattle.std.proofs.Common.{◌≡◌, ◌++◌, drop, take}
use Rattle.std.specs.Prelude.{All}
use Rattle.ds_bytes.specs.Lawful.{IsValueOfBytes}
use Rattle.ds_bytes.specs.Rows.{columns_bytes}
use Rattle.ds_pages.proofs.places.put_values.Given as goal

abbrev pub invariant-loop-slot : goal.invariant-loop-slot
invariant-loop-slot l = record {
  put : l.bytes.bytes ++ columns_bytes (drop l.slot l.directions) (drop l.slot l.values)
      ≡ l.initial.bytes.bytes ++ columns_bytes l.directions l.values;
  lawful : All IsValueOfBytes (take l.slot l.values);
}
