-- The elements so far stand before what is left.
use Rattle.std.proofs.Common.{◌≡◌, ◌++◌, length}
use Rattle.std.specs.Prelude.{flat_map, All}
use Rattle.ds_bytes.specs.Encoding.{directed, elem_bytes}
use Rattle.ds_bytes.specs.Lawful.{IsLawfulElem}
use Rattle.ds_bytes.proofs.decoder.read_path.Given as goal

abbrev pub invariant-elems : goal.invariant-elems
invariant-elems l = record {
  so_far : directed l.descending l.bytes ≡ flat_map elem_bytes l.path.items ++ directed l.descending l.rest;
  long : l.taken ≡ length (flat_map elem_bytes l.path.items);
  lawful : All IsLawfulElem l.path.items;
}

abbrev pub decreases-elems : goal.decreases-elems
decreases-elems l = length l.rest
