use Rattle.std.proofs.Common.{◌≡◌, drop, map}
use Rattle.std.specs.Prelude.{fold}
use Rattle.ds_log.specs.Logs.{key_of}
use Rattle.ds_shard.specs.Histories.{written}
use Rattle.ds_shard.specs.Contents.{AreKept, CanUndo, LeadBack}
use Rattle.ds_shard.proofs.contents.Contents.write_all.Given as goal

abbrev pub invariant-loop-write : goal.invariant-loop-write
invariant-loop-write l = record {
  entities : fold (written l.stamp) l.self.entities (drop l.write-index l.writes) ≡ fold (written l.stamp) l.initial.self.entities l.writes;
  kept : AreKept l.stamp l.self;
  leads_back : LeadBack l.stamp (map key_of l.writes) l.initial.self l.self;
  can_undo : CanUndo l.stamp l.self;
}
