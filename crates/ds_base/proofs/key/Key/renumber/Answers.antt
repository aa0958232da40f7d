use Rattle.ds_base.proofs.KeyLaws.{is_key-renumbered}
use Rattle.ds_base.proofs.key.Key.renumber.Goals as goal

pub invariant_of-self : goal.invariant_of-self
invariant_of-self c = rw c.set_last_id.ensures (is_key-renumbered (record { namespace = c.self.inside.namespace; elems = c.self.inside.path }) c.args.id c.requires.positive c.requires.bounded c.self.invariant)
