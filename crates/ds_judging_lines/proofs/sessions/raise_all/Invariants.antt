use Rattle.std.proofs.Common.{◌≡◌, ◌++◌, drop, map, take}
use Rattle.ds_protocol.specs.Watermarks.{raised_by}
use Rattle.ds_judging_lines.proofs.sessions.raise_all.Given as goal

-- those so far are raised
abbrev pub invariant-loop-session : goal.invariant-loop-session
invariant-loop-session l =
    l.sessions ≡ map (raised_by l.greatest) (take l.session-index l.initial.sessions) ++ drop l.session-index l.initial.sessions
