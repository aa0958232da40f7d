use Rattle.std.proofs.Common.{◌≡◌, length, map}
use Rattle.std.specs.Prelude.{All}
use Rattle.ds_applied.specs.AppliedLists.{entries_of, applied_of}
use Rattle.ds_log.specs.Routing.{IsRouted, entry_of}
use Rattle.ds_applied.specs.Routing.{HasRoom, added}
use Rattle.ds_applied.proofs.routing.put_all.Given as goal

-- what is left leads from the lists so far to those of all
abbrev pub invariant-loop-one : goal.invariant-loop-one
invariant-loop-one l =
    (length l.shards.items ≡ length l.initial.shards.items)
    × All (IsRouted (length l.initial.shards.items)) l.one-iterator.rest.items
    × All (HasRoom (length l.one-iterator.rest.items)) l.shards.items
    × (added (length l.initial.shards.items) 0 (entries_of l.shards.items) (map entry_of l.one-iterator.rest.items)
    ≡ added (length l.initial.shards.items) 0 (entries_of l.initial.shards.items) (map entry_of l.initial.one-iterator.rest.items))
    × (applied_of l.shards.items ≡ applied_of l.initial.shards.items)
