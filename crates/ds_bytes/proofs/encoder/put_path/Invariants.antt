-- Where what is left is put, all is; and what was put is lawful.
use Rattle.std.proofs.Common.{take}
use Rattle.std.specs.Prelude.{flat_map, All}
use Rattle.ds_bytes.specs.Encoding.{elem_bytes}
use Rattle.ds_bytes.specs.Lawful.{IsLawfulElem}
use Rattle.ds_bytes.specs.Writing.{Puts}
use Rattle.ds_bytes.proofs.encoder.put_path.Given as goal

abbrev pub invariant-loop-elem : goal.invariant-loop-elem
invariant-loop-elem l = record {
  so_far : Puts (flat_map elem_bytes (take l.elem-index l.path)) l.initial.output l.output;
  lawful : All IsLawfulElem (take l.elem-index l.path);
}
