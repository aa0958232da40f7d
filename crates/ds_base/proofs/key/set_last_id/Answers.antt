use Rattle.std.proofs.Common.{◌+◌, ◌-◌, ◌≡◌, length, ◌∙◌, ap, arith}
use Rattle.std.specs.Prelude.{slice_set}
use Rattle.ds_base.specs.declared.key.Ident.TheVariants.{Id}
use Rattle.ds_base.specs.declared.key.Elem.{Elem}
use Rattle.ds_base.specs.Keys.{with_last_id}
use Rattle.ds_base.proofs.KeyLaws.{with_last_id-set, ends_in_id-positive}
use Rattle.ds_base.proofs.key.set_last_id.Goals as goal

pub returns : goal.returns
returns c =
    let items = c.path.inside.items.items in
    let last = c.len-last.result - 1 in
    let counted : last + 1 ≡ length items = omega (arith, ends_in_id-positive c.args.path.now c.requires, ap length c.path.view_is) in
    ap (λ k. slice_set items last (record { kind = k; ident = Id c.args.id })) (ap (λ (e : Elem). e.kind) c.index_mut-elem.ensures.value)
    ∙ with_last_id-set items c.args.id last c.index_mut-elem.result.now counted
    ∙ ap (λ es. with_last_id es c.args.id) c.path.view_is
