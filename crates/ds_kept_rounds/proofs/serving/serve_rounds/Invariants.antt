use Rattle.std.proofs.Common.{◌≡◌, ◌+◌, ◌-◌, ◌≤◌, List, []}
use Rattle.std.specs.Prelude.{IsTrue}
use Rattle.ds_base.specs.Limits.{most_input_bytes}
use Rattle.ds_disk.specs.Crashes.{LeavesOnly}
use Rattle.ds_keep.specs.Keepers.{IsSettled}
use Rattle.ds_model.specs.Sessions.{Session}
use Rattle.ds_rounds.specs.Reading.{first_reader}
use Rattle.ds_serving.specs.Rounds.{HasServed}
use Rattle.ds_store.specs.Passes.{HasRead}
use Rattle.ds_kept_rounds.specs.Going.{HasRunKept, IsGoing}
use Rattle.ds_keeping.specs.Holding.{kept_at}
use Rattle.ds_keeping.specs.Moments.{IsBetween}
use Rattle.ds_kept_rounds.proofs.serving.serve_rounds.Given as goal

-- each round takes a line at least, and an input has no more lines than bytes and one
abbrev pub decreases-serve : goal.decreases-serve
decreases-serve g l = most_input_bytes + 1 - l.running.rounds.number

-- so far the rounds were read and run, and all that they did is kept and their replies were written, and nothing failed
abbrev pub invariant-serve : goal.invariant-serve
invariant-serve g l = record {
  served : (first : List Session)
      → HasServed (HasRunKept l.serving first l.fn.keeper.commits l.fn.keeper.next []) (g.I.Source.left l.fn.input)
      (g.I.Source.left l.fn.input) (g.O.Sink.held l.fn.output) (g.O.Sink.held l.fn.output) first_reader l.fn.running.sessions
      → HasServed (HasRunKept l.serving first l.keeper.commits l.keeper.next []) (g.I.Source.left l.fn.input) (g.I.Source.left l.input)
      (g.O.Sink.held l.fn.output) (g.O.Sink.held l.output) l.running.rounds l.running.sessions;
  going : IsGoing l.serving.shards l.keeper l.running.sessions l.running.follower.pass l.running.follower.counts;
  settled : IsTrue (g.D.Disk.is_honest l.fn.disk)
      → IsSettled g.D.Disk.is_honest g.D.Disk.contents g.D.Disk.images l.keeper (kept_at l.running.follower.pass l.keeper.next) l.disk;
  read : HasRead l.fn.running.follower.pass l.running.follower.pass;
  rises : l.fn.keeper.next ≤ l.keeper.next;
  moments : IsTrue (g.D.Disk.is_honest l.fn.disk)
      → LeavesOnly g.D.Disk.moment g.D.Disk.left_since l.fn.disk l.disk
      (IsBetween (kept_at l.fn.running.follower.pass l.fn.keeper.next) l.running.follower.pass.journal);
  honest : g.D.Disk.is_honest l.disk ≡ g.D.Disk.is_honest l.fn.disk;
  disk_faults : g.D.Disk.faults l.fn.disk ≤ g.D.Disk.faults l.disk;
  read_faults : g.I.Source.faults l.input ≡ g.I.Source.faults l.fn.input;
  write_faults : g.O.Sink.faults l.output ≡ g.O.Sink.faults l.fn.output;
}
