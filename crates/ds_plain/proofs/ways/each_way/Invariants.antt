-- The ways by the lists so far.
use Rattle.std.proofs.Common.{◌≡◌, take, fold, [], ◌∷◌}
use Rattle.ds_plain.proofs.WayLaws.{grown}
use Rattle.ds_plain.proofs.ways.each_way.Given as goal

abbrev pub invariant-loop-list : goal.invariant-loop-list
invariant-loop-list l = l.ways.items ≡ fold grown ([] ∷ []) (take l.list-index l.lists)
