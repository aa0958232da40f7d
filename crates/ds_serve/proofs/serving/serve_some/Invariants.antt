use Rattle.std.proofs.Common.{◌≡◌, ℕ, ◌+◌, ◌≤◌, List, Option}
use Rattle.ds_base.specs.Limits.{most_input_bytes}
use Rattle.ds_rounds.specs.Rounds.{NumberedLine}
use Rattle.ds_model.specs.Sessions.{Session}
use Rattle.ds_protocol.specs.Watermarks.{HaveCounts}
use Rattle.ds_clients.specs.Runs.{AreWritten, seen_of}
use Rattle.ds_serving.specs.Rounds.{HasServed}
use Rattle.ds_serve.specs.RunSteps.{Counted, Exactly, RanBehind}
use Rattle.ds_serve.proofs.serving.serve_some.Given as goal

-- so many rounds were read, run and written, and nothing failed
abbrev pub invariant-loop-done : goal.invariant-loop-done
invariant-loop-done g l = record {
  served : (first : List Session) (before : List (List NumberedLine)) (said : List ℕ) (left held : Option (List ℕ))
      → HasServed (Counted (Exactly 0) (RanBehind l.serving first before said)) left (g.I.Source.left l.fn.input) held
      (g.O.Sink.held l.fn.output) l.fn.rounds l.fn.sessions
      → HasServed (Counted (Exactly l._done) (RanBehind l.serving first before said)) left (g.I.Source.left l.input) held
      (g.O.Sink.held l.output) l.rounds l.sessions;
  counts : HaveCounts l.serving.shards (seen_of l.sessions);
  written : AreWritten l.sessions;
  no_read_fault : g.I.Source.faults l.input ≡ g.I.Source.faults l.fn.input;
  no_write_fault : g.O.Sink.faults l.output ≡ g.O.Sink.faults l.fn.output;
  numbered : l.rounds.number ≤ most_input_bytes + 1;
}
