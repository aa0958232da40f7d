use Rattle.std.proofs.Common.{ap}
use Rattle.ds_indexdef.proofs.NameLaws.{names-pushed}
use Rattle.ds_indexdef.proofs.entry.Entry.with_column.Goals as goal

pub invariant_of-result : goal.invariant_of-result
invariant_of-result c =
    let e = c.self.inside in
    names-pushed e.def.columns c.in_ok-def.def.columns e.names.keys c.insert.new.self.keys e.key c.is_key_or-key.result c.args.name c.in_ok-copy.copy c.self.invariant
    (ap (λ d. d.columns) c.in_ok-def.ensures) c.in_ok-copy.ensures.copied c.in_ok-insert.ensures.keys c.is_key_or-key.ensures
