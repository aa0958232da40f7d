use Rattle.std.proofs.Common.{map}
use Rattle.ds_model.specs.Sessions.{first_sessions}
use Rattle.ds_judging_lines.specs.Deciding.{world_run}
use Rattle.ds_check.specs.Walks.{AreSessions}
use Rattle.ds_check.proofs.WalkLaws.{IsSoFar}
use Rattle.ds_check.proofs.walk.wrong_reply.Given as goal

-- the replies so far are answers, and noted
abbrev pub invariant-steps : goal.invariant-steps
invariant-steps l =
    AreSessions l.run.history.shards l.sessions.items
    × IsSoFar (world_run l.run) (first_sessions l.run.history.shards) l.initial.step-iterator.rest.items (map (λ line. line.now) l.replies)
    l.step-iterator.rest.items l.sessions.items l.answered l.told
