use Rattle.std.proofs.Common.{◌≡◌, subst, ap, sym, ◌∙◌}
use Rattle.std.proofs.lemmas.List.Sorted.{IsPermutation-trans}
use Rattle.std.specs.List.Sorted.{IsPermutation}
use Rattle.ds_told.proofs.RangeOrder.{sorted_range}
use Rattle.ds_told.proofs.ranges.are_all.Goals as goal

pub returns : goal.returns
returns c =
    let sorted = c.as_slice.ensures.value in (
      λ yes_is. subst (IsPermutation c.args.numbers.items) (sym sorted ∙ c.is_range.ensures.0 yes_is) c.sort_unstable.ensures.permutation,
      λ are. c.is_range.ensures.1 (sorted ∙ sorted_range c.args.numbers.items c.sort_unstable.new.self.items 1 c.args.last c.sort_unstable.ensures.permutation c.sort_unstable.ensures.sorted are),
    )
