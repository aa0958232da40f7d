use Rattle.std.proofs.Common.{◌≡◌}
use Rattle.ds_store_passes.specs.Passes.{HasRead}
use Rattle.ds_store_running.proofs.store.Store.meet_count.Given as goal

-- nothing but more entries is seen
abbrev pub invariant-loop : goal.invariant-loop
invariant-loop g l = record {
  read : HasRead l.fn.pass l.pass;
  place : l.pass.place ≡ l.fn.pass.place;
  next : l.pass.next ≡ l.fn.pass.next;
}
