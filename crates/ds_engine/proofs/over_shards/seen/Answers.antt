use Rattle.std.proofs.Common.{◌≡◌, rules, subst}
use Rattle.std.specs.Cmp.Lexicographic.{nat_list_cmp_total}
use Rattle.ds_base.specs.KeyOrderLaws.{bytes_cmp-same}
use Rattle.ds_base.specs.SortingLaws.{sorted_by-only}
use Rattle.ds_pages.specs.Pages.{at_most, plus_limit}
use Rattle.ds_engine.proofs.over_shards.seen.Goals as goal

pub returns : goal.returns
returns c =
    let w = c.args.window.now in
    let sorted = sorted_by-only nat_list_cmp_total bytes_cmp-same c.args.places.items c.sort.new.self.items c.in_ok-sort.ensures.sorted
    c.in_ok-sort.ensures.permutation in
    subst (λ xs. c.match-window.places.items ≡ at_most (plus_limit w.offset w.limit) xs) sorted (search rules)
