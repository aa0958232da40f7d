use Rattle.std.proofs.Common.{◌≡◌, ◌+◌, ◌++◌, List, length, take}
use Rattle.ds_base.specs.Limits.{greatest_client}
use Rattle.ds_rounds.specs.Rounds.{NumberedLine, numbered}
use Rattle.ds_asked.specs.AskedLines.{AreAskedBy}
use Rattle.ds_asked.proofs.lines.ask_chunk.Given as goal

-- the chunk's lines so far are read, behind those before
abbrev pub invariant-loop-i : goal.invariant-loop-i
invariant-loop-i l = record {
  clients : length l.lists.items ≡ greatest_client + 1;
  asked_by : (before : List NumberedLine) → AreAskedBy l.shards before l.fn.lists.items
      → AreAskedBy l.shards (before ++ take l.i (numbered l.first l.chunk)) l.lists.items;
}
