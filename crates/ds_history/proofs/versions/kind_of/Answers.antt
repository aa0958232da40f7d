use Rattle.std.proofs.Common.{◌≡◌, ◌∙◌, ap, subst, IfOk}
use Rattle.ds_base.specs.declared.key.Elem.{Elem}
use Rattle.ds_rows.proofs.LastKinds.{last_kind_at}
use Rattle.ds_rows.specs.IndexedValues.{kind_of, last_kind}
use Rattle.ds_history.proofs.versions.kind_of.Goals as goal

pub returns-in-Some : goal.returns-in-Some
returns-in-Some c =
    let elem = c.in-Some.elem.now in
    let own : elem.kind ≡ kind_of c.args.key.now =
    ap (λ (e : Elem). e.kind) (c.in-Some.ensures.item.3.1 elem)
    ∙ last_kind_at c.as_slice.result.now elem c.in-Some.ensures.item.3.0
    ∙ ap last_kind (c.as_slice.ensures ∙ c.elems.ensures.value) in
    subst (λ k. IfOk c.copy.result (λ kind. kind ≡ k)) own c.copy.ensures.copied
