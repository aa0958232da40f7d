use Rattle.std.proofs.Common.{◌≡◌, ◌+◌, ◌-◌, [], replicate}
use Rattle.ds_draw.specs.Draws.{new_seat}
use Rattle.ds_draw.proofs.make.Given as goal

abbrev pub invariant-loop : goal.invariant-loop
invariant-loop l = record {
  given : l.all ≡ replicate (l.counter - 1) (new_seat l.table.shared.table_id l.first);
  same : l.giver.table_id ≡ l.table.shared.table_id;
  parts : l.giver.me.0.parts + l.counter ≡ l.seats + 1;
  drawn : l.giver.me.0.drawn ≡ [];
  counter : l.giver.me.0.counter ≡ l.first;
  slots : l.giver.me.1 ≡ [];
}
