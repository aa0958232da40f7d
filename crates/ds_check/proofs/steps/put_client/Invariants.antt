use Rattle.std.proofs.Common.{◌≡◌, ◌++◌}
use Rattle.ds_check.specs.Walks.{client_steps}
use Rattle.ds_check.proofs.steps.put_client.Given as goal

-- with those that are left they are those that were there, and all
abbrev pub invariant-lines : goal.invariant-lines
invariant-lines l =
    l.steps.items ++ client_steps l.asked-iterator.rest.items ≡ l.initial.steps.items ++ client_steps l.initial.asked-iterator.rest.items
