-- The bound of the elements so far.
use Rattle.std.proofs.Common.{◌≡◌, ◌+◌, ◌*◌, length, take}
use Rattle.std.specs.List.{sum_by}
use Rattle.ds_output.specs.Room.{most_of_elem}
use Rattle.ds_output.proofs.bounds.most_bytes.Given as goal

abbrev pub invariant-loop-elem : goal.invariant-loop-elem
invariant-loop-elem l = l.most ≡ (length l.key.namespace * 6 + 256) + sum_by most_of_elem (take l.elem-index l.key.elems)
