-- The parts so far are put, each behind the byte 1.
use Rattle.std.proofs.Common.{◌≡◌, ◌++◌, ◌∷◌, take}
use Rattle.std.specs.Prelude.{flat_map}
use Rattle.ds_cursor.proofs.query_bytes.put_list.Given as goal

abbrev pub invariant-loop-part : goal.invariant-loop-part
invariant-loop-part g l = l.onto.bytes ≡ l.initial.onto.bytes ++ flat_map (λ x. 0x01 ∷ g.T.Put.bytes x) (take l.part-index l.parts)
