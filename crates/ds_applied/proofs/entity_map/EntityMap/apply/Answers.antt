use Rattle.ds_applied.proofs.KeyedLaws.{keyed_put, keyed_delete, put_applied, delete_applied}
use Rattle.ds_applied.proofs.entity_map.EntityMap.apply.Goals as goal

pub invariant_of-self : goal.invariant_of-self
invariant_of-self c = keyed_put _ _ c.self.invariant c.in-Put.entity c.put.result c.put.ensures.ok c.put.ensures.err

pub invariant_of-self-in-Delete : goal.invariant_of-self-in-Delete
invariant_of-self-in-Delete c = keyed_delete _ _ c.self.invariant c.in-Delete.key c.delete.ensures.removed

pub returns-in-Put-clause-ok : goal.returns-in-Put-clause-ok
returns-in-Put-clause-ok c =
    put_applied _ _ c.self.invariant _ c.self.view_is c.in-Put.entity c.args.write.now c.put.result c.in-Put.is c.put.ensures.ok
    c.put.ensures.ordered

pub returns-in-Delete-clause-ok : goal.returns-in-Delete-clause-ok
returns-in-Delete-clause-ok c =
    delete_applied _ _ c.self.invariant _ c.self.view_is c.in-Delete.key c.args.write.now c.in-Delete.is c.delete.ensures.removed
    c.delete.ensures.ordered
