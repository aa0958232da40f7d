use Rattle.std.proofs.Common.{rules, ap, length}
use Rattle.std.specs.Cmp.Lexicographic.{nat_list_cmp_total}
use Rattle.std.proofs.lemmas.Fn.{always_returns_same}
use Rattle.std.proofs.lemmas.List.Sorted.{searchable_from_sorted}
use Rattle.ds_entity.specs.declared.entity.Property.{Property}
use Rattle.ds_base.specs.KeyOrder.{bytes_cmp}
use Rattle.ds_rows.proofs.Lookups.{counted_at, named_nowhere, names_sorted}
use Rattle.ds_rows.proofs.indexed.count_named.Goals as goal

pub returns-in-Ok : goal.returns-in-Ok
returns-in-Ok c =
    let named = c.in-Ok.ensures.position (λ p. bytes_cmp p.name c.args.name.now) (always_returns_same _ _ _
    (λ a r g called. search rules)) in
    counted_at c.args.properties.now c.args.counts.now c.in-Ok.place c.args.name.now 0 c.requires.ascending
    c.requires.theirs c.in-Ok.ensures.bound named

pub returns-in-Err : goal.returns-in-Err
returns-in-Err c =
    let split = c.in-Err.ensures.position (λ p. bytes_cmp p.name c.args.name.now) (always_returns_same _ _ _ (λ a r g called. search rules))
    (searchable_from_sorted nat_list_cmp_total (λ (p : Property). p.name) c.args.properties.now c.args.name.now
    (names_sorted c.args.properties.now c.requires.ascending)) in
    λ e same. ap length (named_nowhere c.args.properties.now c.in-Err.field-0 c.args.name.now split.0 split.1 e same)
