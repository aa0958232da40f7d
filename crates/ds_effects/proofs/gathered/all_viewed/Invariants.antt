use Rattle.std.proofs.Common.{◌≡◌, Some, map, take, true}
use Rattle.std.specs.List.{list_all}
use Rattle.std.specs.Option.{is_some}
use Rattle.ds_effects.proofs.gathered.all_viewed.Given as goal

-- those so far
abbrev pub invariant-loop-view : goal.invariant-loop-view
invariant-loop-view l = record {
  viewed : map (λ n. Some n) l.counts.items ≡ take l.view-index l.views;
  all : list_all is_some (take l.view-index l.views) ≡ true;
}
