use Rattle.std.proofs.Common.{◌≡◌, ℕ, List, ◌∙◌, length, map, ap, subst, sym, rules}
use Rattle.std.specs.Prelude.{Result}
use Rattle.std.proofs.lemmas.List.{length-map, nil_from_length}
use Rattle.ds_model.specs.Sessions.{Session, first_sessions}
use Rattle.ds_judging_lines.specs.Deciding.{world_run}
use Rattle.ds_check.specs.Walks.{AreSessions, IsFirstWrong, IsReplied, IsTaken, IsWalked, asks}
use Rattle.ds_check.specs.declared.steps.Step.{Step}
use Rattle.ds_check.proofs.SessionLaws.{first_are, sessions_next}
use Rattle.ds_check.proofs.WalkLaws.{IsSoFar, replied_next, so_far_begun, so_far_more, so_far_whole, so_far_wrong}
use Rattle.ds_check.proofs.walk.wrong_reply.Goals as goal

pub steps-init : goal.steps-init
steps-init c =
    let shards = c.args.run.now.history.shards in
    let first = first_sessions shards in
    let all = c.into_iter-step-iterator.result.rest.items in
    let lines = map (λ line. line.now) c.args.replies.now in
    let begun : c.in_ok-sessions.sessions.items ≡ first = c.in_ok-sessions.ensures
    ∙ ap first_sessions c.shards.ensures.value in (
      subst (λ (ss : List Session). AreSessions shards ss) (sym begun) (first_are shards),
      subst (λ (ss : List Session). IsSoFar (world_run c.args.run.now) first all lines all ss 0 c.args.told.now) (sym begun)
          (so_far_begun (world_run c.args.run.now) first all lines c.args.told.now c.requires.begun),
    )

pub take_step-requires-clause-replied : goal.take_step-requires-clause-replied
take_step-requires-clause-replied c =
    let w = world_run c.args.run.now in
    let first = first_sessions c.args.run.now.history.shards in
    let all = c.into_iter-step-iterator.result.rest.items in
    let lines = map (λ line. line.now) c.args.replies.now in
    let whole : all ≡ c.args.steps.items = search rules in
    let many : length lines ≡ length c.args.replies.now = length-map c.args.replies.now (λ line. line.now) in
    subst (λ (n : ℕ). IsReplied c.in-Some.step c.steps.answered n) many
    (replied_next w first all lines c.in-Some.step c.next.new.self.rest.items c.steps.sessions.items c.steps.answered
    c.steps.told
    (subst (λ (left : List Step). IsSoFar w first all lines left c.steps.sessions.items c.steps.answered c.steps.told)
    c.in-Some.ensures.steps.0 c.steps.invariant.1)
    (ap asks whole ∙ c.requires.counted ∙ sym many))

pub returns-in-Err : goal.returns-in-Err
returns-in-Err c =
    let w = world_run c.args.run.now in
    let first = first_sessions c.args.run.now.history.shards in
    let all = c.into_iter-step-iterator.result.rest.items in
    let lines = map (λ line. line.now) c.args.replies.now in
    let now = c.steps.sessions.items in
    let next = c.take_step.new.sessions.items in
    let whole : all ≡ c.args.steps.items = search rules in
    subst (λ (xs : List Step). IsFirstWrong w first xs lines c.in-Err.number) whole
    (so_far_wrong w first all lines c.in-Some.step c.next.new.self.rest.items now next c.steps.answered c.in-Err.number c.steps.told
    c.take_step.new.told
    (subst (λ (left : List Step). IsSoFar w first all lines left now c.steps.answered c.steps.told) c.in-Some.ensures.steps.0
    c.steps.invariant.1)
    (subst (λ (f : Result ℕ ℕ). IsTaken w now c.steps.told lines c.steps.answered c.in-Some.step f next c.take_step.new.told) c.in-Err.is
    c.in_ok-count.ensures.taken))

pub steps-preserved : goal.steps-preserved
steps-preserved c =
    let w = world_run c.args.run.now in
    let first = first_sessions c.args.run.now.history.shards in
    let all = c.into_iter-step-iterator.result.rest.items in
    let lines = map (λ line. line.now) c.args.replies.now in
    let now = c.steps.sessions.items in
    let next = c.take_step.new.sessions.items in (
      sessions_next c.args.run.now.history.shards w now next c.steps.told c.take_step.new.told lines c.steps.answered c.in-Ok.count
          c.in-Some.step
          c.steps.invariant.0
          (subst (λ (f : Result ℕ ℕ). IsTaken w now c.steps.told lines c.steps.answered c.in-Some.step f next c.take_step.new.told)
          c.in-Ok.is
          c.in_ok-count.ensures.taken)
          c.in_ok-count.ensures.sessions,
      so_far_more w first all lines c.in-Some.step c.next.new.self.rest.items now next c.steps.answered c.in-Ok.count c.steps.told
          c.take_step.new.told
          (subst (λ (left : List Step). IsSoFar w first all lines left now c.steps.answered c.steps.told) c.in-Some.ensures.steps.0
          c.steps.invariant.1)
          (subst (λ (f : Result ℕ ℕ). IsTaken w now c.steps.told lines c.steps.answered c.in-Some.step f next c.take_step.new.told)
          c.in-Ok.is
          c.in_ok-count.ensures.taken),
    )

pub returns : goal.returns
returns c =
    let w = world_run c.args.run.now in
    let first = first_sessions c.args.run.now.history.shards in
    let all = c.into_iter-step-iterator.result.rest.items in
    let lines = map (λ line. line.now) c.args.replies.now in
    let now = c.steps.sessions.items in
    let whole : all ≡ c.args.steps.items = search rules in
    let many : length lines ≡ length c.args.replies.now = length-map c.args.replies.now (λ line. line.now) in
    let none : length c.steps.step-iterator.rest.items ≡ 0 = search rules in
    subst (λ (xs : List Step). IsWalked w first xs lines c.steps.told) whole
    (so_far_whole w first all lines now c.steps.answered c.steps.told
    (subst (λ (left : List Step). IsSoFar w first all lines left now c.steps.answered c.steps.told)
    (nil_from_length c.steps.step-iterator.rest.items none) c.steps.invariant.1)
    (ap asks whole ∙ c.requires.counted ∙ sym many))
