use Rattle.std.proofs.Common.{◌≡◌, take}
use Rattle.ds_protocol.specs.Watermarks.{greatest_of}
use Rattle.ds_judging_lines.proofs.sessions.greatest_of.Given as goal

-- it is the greatest of those so far
abbrev pub invariant-loop-session : goal.invariant-loop-session
invariant-loop-session l = l.greatest ≡ greatest_of l.shards (take l.session-index l.sessions)
