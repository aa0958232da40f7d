use Rattle.std.proofs.Common.{◌≡◌, drop, map}
use Rattle.ds_log.specs.Logs.{key_of}
use Rattle.ds_shard.specs.Histories.{BeginsBy}
use Rattle.std.specs.List.{AllByRecursion as Each}
use Rattle.ds_shard.specs.Contents.{all_undone}
use Rattle.ds_shard.proofs.contents.undo_writes.Given as goal

abbrev pub invariant-loop-write : goal.invariant-loop-write
invariant-loop-write l = record {
  begun : Each (BeginsBy l.stamp) l.entities;
  undone : all_undone l.stamp (map key_of (drop l.write-index l.writes)) l.entities ≡ all_undone l.stamp (map key_of l.writes) l.initial.entities;
}
