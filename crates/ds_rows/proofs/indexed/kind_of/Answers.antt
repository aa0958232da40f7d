use Rattle.std.proofs.Common.{ap, ◌∙◌}
use Rattle.ds_base.specs.declared.key.Elem.{Elem}
use Rattle.ds_rows.proofs.LastKinds.{last_kind_at}
use Rattle.ds_rows.specs.IndexedValues.{last_kind}
use Rattle.ds_rows.proofs.indexed.kind_of.Goals as goal

pub returns-in-Some : goal.returns-in-Some
returns-in-Some c =
    let elem = c.in-Some.elem.now in
    c.bytes.ensures.value ∙ ap (λ (e : Elem). e.kind) (c.in-Some.ensures.item.3.1 elem)
    ∙ last_kind_at c.as_slice.result.now elem c.in-Some.ensures.item.3.0
    ∙ ap last_kind (c.as_slice.ensures ∙ c.elems.ensures.value)
