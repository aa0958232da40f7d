use Rattle.std.proofs.Common.{◌≡◌, suc, ◌-◌, [], ◌∷◌, length, ap, sym, ◌∙◌, arith, rules}
use Rattle.ds_base.specs.declared.key.Ident.TheVariants.{Id, Name}
use Rattle.ds_model.specs.Legal.{last_id}
use Rattle.ds_told.proofs.Joining.{last_as, last_told}
use Rattle.ds_told.proofs.told.last_id.Goals as goal

pub returns-in-Id : goal.returns-in-Id
returns-in-Id c =
    let whole : c.as_slice.result.now ≡ c.args.key.now.elems = search rules in
    let some = c.in_ok-id.ensures.item.3.0 in
    let is : c.in_ok-id.field-0.now.ident ≡ Id c.in-Id.id = search rules in
    sym (ap last_id (sym whole)
    ∙ last_told c.as_slice.result.now c.in_ok-id.field-0.now (length c.as_slice.result.now - 1) (omega (arith, some)) (sym c.in_ok-id.ensures.item.1)
    ∙ last_as c.in_ok-id.field-0.now (Id c.in-Id.id) is)

pub returns-in-Name : goal.returns-in-Name
returns-in-Name c =
    let whole : c.as_slice.result.now ≡ c.args.key.now.elems = search rules in
    let some = c.in_ok-id.ensures.item.3.0 in
    let is : c.in_ok-id.field-0.now.ident ≡ Name c.in-Name.field-0 = search rules in
    sym (ap last_id (sym whole)
    ∙ last_told c.as_slice.result.now c.in_ok-id.field-0.now (length c.as_slice.result.now - 1) (omega (arith, some)) (sym c.in_ok-id.ensures.item.1)
    ∙ last_as c.in_ok-id.field-0.now (Name c.in-Name.field-0) is)
