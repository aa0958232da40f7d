use Rattle.std.proofs.Common.{◌≡◌, ◌≤◌}
use Rattle.ds_store_running.proofs.store.Store.look_up_to.Given as goal

-- nothing but the counter has risen
abbrev pub invariant-loop : goal.invariant-loop
invariant-loop g l = record {
  same : l.pass ≡ record l.fn.pass { next = l.pass.next };
  risen : l.fn.pass.next ≤ l.pass.next;
}
