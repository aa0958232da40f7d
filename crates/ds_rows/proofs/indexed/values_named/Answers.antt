use Rattle.std.proofs.Common.{rules, ◌∙◌}
use Rattle.std.specs.Cmp.Lexicographic.{nat_list_cmp_total}
use Rattle.std.proofs.lemmas.Fn.{always_returns_same}
use Rattle.std.proofs.lemmas.List.Sorted.{searchable_from_sorted}
use Rattle.ds_entity.specs.declared.entity.Property.{Property}
use Rattle.ds_base.specs.KeyOrder.{bytes_cmp}
use Rattle.ds_rows.proofs.Lookups.{named_at, named_nowhere, names_sorted}
use Rattle.ds_rows.proofs.indexed.values_named.Goals as goal

pub returns-in-Ok : goal.returns-in-Ok
returns-in-Ok c =
    let named = c.in-Ok.ensures.position (λ p. bytes_cmp p.name c.args.name.now) (always_returns_same _ _ _
    (λ a r g called. search rules)) in
    λ e same.
    c.as_slice.ensures
    ∙ named_at c.args.properties.now c.args.lists.now c.in-Ok.place c.args.name.now c.index-lists-place.result c.requires.ascending
    c.requires.theirs
    c.in-Ok.ensures.bound named c.index-lists-place.is e same

pub returns-in-Err : goal.returns-in-Err
returns-in-Err c =
    let split = c.in-Err.ensures.position (λ p. bytes_cmp p.name c.args.name.now) (always_returns_same _ _ _ (λ a r g called. search rules))
    (searchable_from_sorted nat_list_cmp_total (λ (p : Property). p.name) c.args.properties.now c.args.name.now
    (names_sorted c.args.properties.now c.requires.ascending)) in
    named_nowhere c.args.properties.now c.in-Err.field-0 c.args.name.now split.0 split.1
