use Rattle.std.proofs.Common.{◌≡◌, [], fold, map, take}
use Rattle.std.specs.BTreeSet.{insert_key}
use Rattle.ds_base.specs.KeyOrder.{key_cmp}
use Rattle.ds_log.specs.Logs.{group_of}
use Rattle.ds_log.proofs.projection.distinct_groups.Given as goal

abbrev pub invariant-loop-write : goal.invariant-loop-write
invariant-loop-write l = l.sorted.keys ≡ fold (insert_key key_cmp) [] (map group_of (take l.write-index l.writes))

abbrev pub invariant-loop-group : goal.invariant-loop-group
invariant-loop-group l = l.groups.items ≡ l.yielded
