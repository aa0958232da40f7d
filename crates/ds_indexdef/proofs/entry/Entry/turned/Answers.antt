use Rattle.std.proofs.Common.{ap, sym, subst}
use Rattle.ds_indexdef.specs.Names.{AreNamesOf}
use Rattle.ds_indexdef.proofs.NameLaws.{names-turned}
use Rattle.ds_indexdef.proofs.entry.Entry.turned.Goals as goal

pub invariant_of-result : goal.invariant_of-result
invariant_of-result c =
    let e = c.self.inside in
    subst (λ cs. AreNamesOf cs e.names.keys e.key) (sym (ap (λ d. d.columns) c.turned-def.ensures)) (names-turned e.def.columns e.names.keys e.key c.args.descending c.self.invariant)
