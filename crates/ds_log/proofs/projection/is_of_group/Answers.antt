use Rattle.std.proofs.Common.{◌∙◌, sym, ap, ◌&&◌}
use Rattle.ds_log.proofs.Roots.{same_bytes, same_elems, same_group, other_group}
use Rattle.ds_log.proofs.projection.is_of_group.Goals as goal

pub returns-then-eq : goal.returns-then-eq
returns-then-eq c =
    ap (λ a. a && c.is_first_elem.result) (sym c.if-eq.true)
    ∙ same_group c.args.key.now c.args.group.now c.eq.result
    (same_bytes c.eq.result _ _ _ _ c.eq.ensures c.namespace.ensures.value c.namespace-2.ensures.value) c.is_first_elem.result
    (same_elems c.is_first_elem.result _ _ _ _ c.is_first_elem.ensures (c.as_slice.ensures ∙ c.elems.ensures.value)
    (c.as_slice-then-eq.ensures ∙ c.elems-then-eq.ensures.value))

pub returns-else-eq : goal.returns-else-eq
returns-else-eq c =
    other_group c.args.key.now c.args.group.now c.eq.result
    (same_bytes c.eq.result _ _ _ _ c.eq.ensures c.namespace.ensures.value c.namespace-2.ensures.value) c.if-eq.false
