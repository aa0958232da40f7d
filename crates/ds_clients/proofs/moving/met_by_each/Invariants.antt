-- The pass has met the clients so far.
use Rattle.std.proofs.Common.{map, take}
use Rattle.ds_store.specs.Passes.{HasRead}
use Rattle.ds_clients.specs.Moving.{HaveBeenMet}
use Rattle.ds_clients.proofs.moving.met_by_each.Given as goal

abbrev pub invariant-loop-client : goal.invariant-loop-client
invariant-loop-client g l = record {
  read : HasRead l.fn.pass l.pass;
  met : HaveBeenMet l.pass (map (λ c. c.session) (take l.client-index l.clients));
}
