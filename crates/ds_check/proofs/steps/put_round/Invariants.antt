use Rattle.std.proofs.Common.{◌≡◌, ◌++◌, flat_map}
use Rattle.ds_check.specs.Walks.{client_steps}
use Rattle.ds_check.proofs.steps.put_round.Given as goal

-- with those that are left they are those that were there, and all
abbrev pub invariant-clients : goal.invariant-clients
invariant-clients l =
    l.steps.items ++ flat_map client_steps l.own-iterator.rest.items
    ≡ l.initial.steps.items ++ flat_map client_steps l.initial.own-iterator.rest.items
