use Rattle.std.proofs.Common.{◌≡◌, ℕ, subst, ap, sym, ◌∙◌, All, rules}
use Rattle.std.proofs.lemmas.List.Sorted.{All-permutation, IsNonDecreasingBy-from_sort_by_key}
use Rattle.std.specs.List.Sorted.{IsNonDecreasingBy}
use Rattle.ds_told.specs.Told.{EndWithin, end_from}
use Rattle.ds_model.specs.Sessions.{first_id}
use Rattle.ds_told.proofs.Joining.{found_sorted}
use Rattle.ds_told.proofs.ranges.end_of.Goals as goal

pub end_from-requires-clause-within : goal.end_from-requires-clause-within
end_from-requires-clause-within c =
    subst (λ rs. All EndWithin rs) (sym c.as_slice.ensures.value)
    (All-permutation EndWithin c.args.drawn.items c.sort_unstable_by_key.new.self.items c.sort_unstable_by_key.ensures.permutation c.requires)

pub returns : goal.returns
returns c =
    let sorted = c.sort_unstable_by_key.new.self.items in
    let up : IsNonDecreasingBy (λ (r : ℕ × ℕ). r.0) sorted =
    IsNonDecreasingBy-from_sort_by_key (λ (r : ℕ × ℕ). r.0) _ c.sort_unstable_by_key.ensures.sorted (λ a r q k. search rules) in
    found_sorted c.args.drawn.items sorted c.end_from.result c.sort_unstable_by_key.ensures.permutation up
    (c.end_from.ensures ∙ ap (end_from first_id) c.as_slice.ensures.value)
