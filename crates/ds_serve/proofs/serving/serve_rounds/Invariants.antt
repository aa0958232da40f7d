use Rattle.std.proofs.Common.{◌≡◌, ℕ, ◌+◌, ◌-◌, ◌≤◌, List, Option}
use Rattle.ds_base.specs.Limits.{most_input_bytes}
use Rattle.ds_rounds.specs.Rounds.{NumberedLine}
use Rattle.ds_model.specs.Sessions.{Session}
use Rattle.ds_protocol.specs.Watermarks.{HaveCounts}
use Rattle.ds_clients.specs.Runs.{AreWritten, seen_of}
use Rattle.ds_serving.specs.Rounds.{HasServed}
use Rattle.ds_serve.specs.RunSteps.{RanBehind}
use Rattle.ds_serve.proofs.serving.serve_rounds.Given as goal

-- each round takes a line at least, and an input has no more lines than bytes and one
abbrev pub decreases-serve : goal.decreases-serve
decreases-serve g l = most_input_bytes + 1 - l.rounds.number

-- so far the rounds were read, run and written, and nothing failed
abbrev pub invariant-serve : goal.invariant-serve
invariant-serve g l = record {
  served : (first : List Session) (earlier : List (List NumberedLine)) (said : List ℕ) (left_first held_first : Option (List ℕ))
      → HasServed (RanBehind l.serving first earlier said) left_first (g.I.Source.left l.fn.input) held_first (g.O.Sink.held l.fn.output)
      l.fn.rounds l.fn.sessions
      → HasServed (RanBehind l.serving first earlier said) left_first (g.I.Source.left l.input) held_first (g.O.Sink.held l.output) l.rounds
      l.sessions;
  counts : HaveCounts l.serving.shards (seen_of l.sessions);
  written : AreWritten l.sessions;
  no_read_fault : g.I.Source.faults l.input ≡ g.I.Source.faults l.fn.input;
  no_write_fault : g.O.Sink.faults l.output ≡ g.O.Sink.faults l.fn.output;
  numbered : l.rounds.number ≤ most_input_bytes + 1;
}
