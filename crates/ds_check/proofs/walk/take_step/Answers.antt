use Rattle.std.proofs.Common.{ℕ, ◌+◌, ◌++◌, drop, length, map, take, refl, subst, sym}
use Rattle.std.specs.Prelude.{Ok, Err}
use Rattle.ds_judging_lines.specs.Deciding.{world_run}
use Rattle.ds_check.specs.Walks.{AreSessions, IfAsk, IsFound, IsTaken}
use Rattle.ds_protocol.specs.Watermarks.{HaveCounts}
use Rattle.ds_check.proofs.SessionLaws.{counted_each}
use Rattle.ds_check.proofs.walk.take_step.Goals as goal

pub meet-requires : goal.meet-requires
meet-requires c =
    let shards = c.args.run.now.history.shards in
    subst (λ (n : ℕ). HaveCounts n c.as_mut_slice.result.now) (sym c.shards.ensures.value)
    (subst (HaveCounts shards) (sym c.as_mut_slice.ensures.value) (counted_each shards c.args.sessions.now.items c.requires.sessions))

pub returns-in_ok-meet-in-Meet-clause-sessions : goal.returns-in_ok-meet-in-Meet-clause-sessions
returns-in_ok-meet-in-Meet-clause-sessions c =
    let now = take c.args.sessions.now.len (c.meet.new.sessions ++ drop (length c.meet.new.sessions) c.args.sessions.now.items) in
    subst (λ s. IfAsk s (AreSessions c.args.run.now.history.shards now)) (sym c.in-Meet.is) tt

pub returns-then-branch-clause-sessions : goal.returns-then-branch-clause-sessions
returns-then-branch-clause-sessions c =
    subst (λ s. IfAsk s (AreSessions c.args.run.now.history.shards c.is_answered.new.sessions.items)) (sym c.in-Ask.is)
    c.in_ok-is_answered-in-Ask.ensures.sessions

pub returns-else-branch-clause-sessions : goal.returns-else-branch-clause-sessions
returns-else-branch-clause-sessions c =
    subst (λ s. IfAsk s (AreSessions c.args.run.now.history.shards c.is_answered.new.sessions.items)) (sym c.in-Ask.is)
    c.in_ok-is_answered-in-Ask.ensures.sessions

pub returns-then-branch-clause-taken : goal.returns-then-branch-clause-taken
returns-then-branch-clause-taken c =
    let w = world_run c.args.run.now in
    let ss = c.args.sessions.now.items in
    let next = c.is_answered.new.sessions.items in
    let later = c.is_answered.new.told in
    let lines = map (λ line. line.now) c.args.replies.now in
    subst (λ s. IsTaken w ss c.args.told.now lines c.args.answered s (Ok (c.args.answered + 1)) next later) (sym c.in-Ask.is) (
      refl,
      c.line_at.result.now,
      c.line_at.ensures,
      subst (λ b. IsFound w ss c.args.told.now c.in-Ask.asked c.line_at.result.now b next later) c.if-branch.true
          c.in_ok-is_answered-in-Ask.ensures.found,
    )

pub returns-else-branch-clause-taken : goal.returns-else-branch-clause-taken
returns-else-branch-clause-taken c =
    let w = world_run c.args.run.now in
    let ss = c.args.sessions.now.items in
    let next = c.is_answered.new.sessions.items in
    let later = c.is_answered.new.told in
    let lines = map (λ line. line.now) c.args.replies.now in
    subst (λ s. IsTaken w ss c.args.told.now lines c.args.answered s (Err c.in-Ask.asked.number) next later) (sym c.in-Ask.is) (
      refl,
      c.line_at.result.now,
      c.line_at.ensures,
      subst (λ b. IsFound w ss c.args.told.now c.in-Ask.asked c.line_at.result.now b next later) c.if-branch.false
          c.in_ok-is_answered-in-Ask.ensures.found,
    )
