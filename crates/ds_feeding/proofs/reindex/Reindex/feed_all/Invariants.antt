use Rattle.std.proofs.Common.{◌≡◌, ◌++◌}
use Rattle.ds_log.specs.Ids.{AllIssued}
use Rattle.ds_feeding.specs.Feeding.{AreFed}
use Rattle.ds_feeding.proofs.reindex.Reindex.feed_all.Given as goal

-- the first commits were fed, and the others are left
abbrev pub invariant-loop-commit : goal.invariant-loop-commit
invariant-loop-commit g l = record {
  whole : l.self.journal ++ l.commit-iterator.rest.items ≡ l.fn.self.journal ++ l.fn.commits;
  fed : AreFed g.K.Names.definitions (l.fn.self.journal ++ l.fn.commits) l.fn.self l.self;
  next : l.self.next ≡ l.fn.self.next;
  issued : AllIssued l.fn.self.next l.commit-iterator.rest.items;
}
