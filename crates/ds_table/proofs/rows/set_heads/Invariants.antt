use Rattle.std.proofs.Common.{◌≡◌, ◌++◌, length, take, drop}
use Rattle.std.specs.Vec.{vec_capacity}
use Rattle.ds_table.specs.Heads.{heads_of}
use Rattle.ds_table.proofs.rows.set_heads.Given as goal

abbrev pub invariant-loop-i : goal.invariant-loop-i
invariant-loop-i l = record {
  long : length l.heads.items ≡ length l.initial.heads.items;
  same : l.heads.items ≡ take l.i (heads_of l.shared l.rows) ++ drop l.i l.initial.heads.items;
  room : vec_capacity l.heads ≡ vec_capacity l.initial.heads;
}
