use Rattle.ds_machine.proofs.QueryPlans.{group_search}
use Rattle.ds_machine.proofs.state.State.in_group_due.Goals as goal

pub find_in_group-requires-clause-reached : goal.find_in_group-requires-clause-reached
find_in_group-requires-clause-reached c =
    group_search _ _ _ _ _ c.args.group c.requires.group (rw c.in-Ok-Read.field-0-is at c.in-Ok-Read.ensures.read)
