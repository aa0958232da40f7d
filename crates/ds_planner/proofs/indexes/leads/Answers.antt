use Rattle.std.proofs.Common.{sym, ap, ◌∙◌, is_some, is_none, ◌&&◌}
use Rattle.std.specs.Prelude.{bytes_eq}
use Rattle.ds_planner.specs.Indexes.{leads}
use Rattle.ds_base.specs.KeyColumn.{is_by_key}
use Rattle.ds_planner.proofs.ColumnEnds.{names_by_key, names_by_property}
use Rattle.ds_planner.proofs.indexes.leads.Goals as goal

pub returns-in-AllByKey : goal.returns-in-AllByKey
returns-in-AllByKey c =
    let b = c.args.branch.now in
    sym (ap (λ i. leads b c.args.defs.now i c.args.wanted.now) c.in-AllByKey.is ∙ names_by_key (is_none b.kind) b.columns c.args.wanted.now c.requires)

pub returns-in-KindByKey : goal.returns-in-KindByKey
returns-in-KindByKey c =
    let b = c.args.branch.now in
    sym (ap (λ i. leads b c.args.defs.now i c.args.wanted.now) c.in-KindByKey.is ∙ names_by_key (is_some b.kind) b.columns c.args.wanted.now c.requires)

pub returns-then-has_kind : goal.returns-then-has_kind
returns-then-has_kind c =
    let b = c.args.branch.now in
    let named = is_by_key b.columns && bytes_eq c.args.wanted.now c.in-Property.name in
    c.property_leads.ensures
    ∙ ap (λ columns. is_by_key columns && bytes_eq c.args.wanted.now c.in-Property.name) c.as_slice.ensures
    ∙ sym (ap (λ i. leads b c.args.defs.now i c.args.wanted.now) c.in-Property.is ∙ names_by_property (is_some b.kind) (record { name = c.in-Property.name; descending = c.in-Property.descending }) b.columns c.args.wanted.now c.requires ∙ ap (λ k. k && named) (sym c.has_kind.ensures ∙ c.if-has_kind.true))
