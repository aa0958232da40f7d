use Rattle.std.proofs.Common.{◌≡◌, true, ap, ◌∙◌, arith}
use Rattle.std.specs.Arc.{arc_value}
use Rattle.ds_base.specs.Keys.{ends_in_id}
use Rattle.ds_entity.specs.Entities.{EntityParts}
use Rattle.ds_entity.proofs.EntityLaws.{IsEntity-renumbered}
use Rattle.ds_entity.proofs.entity.Entity.renumber.Goals as goal

pub invariant_of-self : goal.invariant_of-self
invariant_of-self c =
    let ends : ends_in_id c.self.inside.key.elems ≡ true = ap (λ (e : EntityParts). ends_in_id e.key.elems) c.self.view_is ∙ c.requires.ends_in_id in
    rw c.renumber.ensures (IsEntity-renumbered c.self.inside.key (arc_value c.self.inside.properties) c.args.id ends c.requires.positive (omega arith) c.self.invariant)
