use Rattle.std.proofs.Common.{◌≡◌, fold, []}
use Rattle.std.specs.BTreeSet.{insert_key}
use Rattle.ds_query.specs.Branching.{pair_cmp}
use Rattle.ds_query.proofs.normal.sorted_pairs.Given as goal

abbrev pub invariant-loop-pair : goal.invariant-loop-pair
invariant-loop-pair l = l.sorted.keys ≡ fold (insert_key pair_cmp) [] l.yielded

abbrev pub invariant-loop-pair-2 : goal.invariant-loop-pair-2
invariant-loop-pair-2 l = l.distinct.items ≡ l.yielded
