use Rattle.std.proofs.Common.{◌≡◌, length}
use Rattle.std.specs.List.{AllWithin}
use Rattle.ds_applied.specs.AppliedLists.{entries_of, applied_of}
use Rattle.ds_applied.specs.Routing.{HasRoom}
use Rattle.ds_applied.proofs.routing.make_room.Given as goal

-- the first shards have room, and nothing else changes
abbrev pub invariant-loop-i : goal.invariant-loop-i
invariant-loop-i l =
    (length l.shards.items ≡ length l.initial.shards.items) × (entries_of l.shards.items ≡ entries_of l.initial.shards.items)
    × (applied_of l.shards.items ≡ applied_of l.initial.shards.items) × AllWithin (HasRoom l.entries) l.shards.items 0 l.i
