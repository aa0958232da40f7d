use Rattle.std.proofs.Common.{◌∙◌, ◌&&◌, not, ap, sym}
use Rattle.ds_indexdef.specs.Names.{has_name}
use Rattle.ds_indexdef.proofs.NameLaws.{contains-name, takes-is}
use Rattle.ds_indexdef.proofs.entry.Entry.takes.Goals as goal

pub returns-then-not-self : goal.returns-then-not-self
returns-then-not-self c =
    let e = c.self.inside in
    let name = c.args.name.now in
    rw (← c.self.view_is) (ap not (c.contains.ensures ∙ contains-name e.names.keys name)
    ∙ ap (λ k. not k && not (has_name e.names.keys name)) (sym c.if-not-self.true) ∙ takes-is e.def.columns e.names.keys e.key name c.self.invariant)

pub returns-else-not-self : goal.returns-else-not-self
returns-else-not-self c =
    let e = c.self.inside in
    let name = c.args.name.now in
    rw (← c.self.view_is) (ap not c.if-not-self.false ∙ sym (ap (λ k. not k && not (has_name e.names.keys name)) c.if-not-self.false)
    ∙ takes-is e.def.columns e.names.keys e.key name c.self.invariant)
