use Rattle.std.proofs.Common.{◌≡◌, ℕ, true, false, Option, Some, None, ap, sym, ◌∙◌, subst}
use Rattle.std.specs.Prelude.{codes}
use Rattle.ds_base.specs.Keys.{KeyParts}
use Rattle.ds_model.specs.Answers.{saw_group}
use Rattle.ds_model.specs.Groups.{StandsAt, group_refusal, place_in}
use Rattle.ds_model.specs.Results.{entity_of}
use Rattle.ds_model.specs.Views.{strong_view}
use Rattle.ds_reply.specs.declared.reply.Body.{Body}
use Rattle.ds_reply.specs.declared.reply.Body.TheVariants as body
use Rattle.ds_reply_lines.specs.ReplyLines.{number_at}
use Rattle.ds_judging_lines.specs.Deciding.{DecidesTurn, IsOnlyTold, SaidIs, told_in, world_in}
use Rattle.ds_judging_reads.specs.Reading.{IsExpired}
use Rattle.ds_judging_lines.specs.declared.turn.Turn.{Turn}
use Rattle.ds_judging_lines.proofs.CountSteps.{at_none}
use Rattle.ds_judging_reads.proofs.GetLaws.{get_decided, get_expired, get_placeless, stands_within}
use Rattle.ds_judging_reads.proofs.GetSteps.{if_ok, two_ways}
use Rattle.ds_judging_reads.proofs.reads.judge_get.Goals as goal

-- the body with the entity is said or not
abbrev Says : Turn → KeyParts → ℕ → Option Body → Type 0
Says turn key m o = SaidIs turn (body.Get (entity_of (strong_view turn.run.now.history.journal m) key) m) o

pub returns-in_default-clause-decided : goal.returns-in_default-clause-decided
returns-in_default-clause-decided c =
    let turn = c.args.turn.now in
    let s = c.args.session.now in
    get_placeless turn c.requires.session.turn s c.args.key
    (subst (λ (g : KeyParts). IsOnlyTold (StandsAt turn.run.now.history.journal s (place_in s.transaction g)) (number_at (codes "place")
    (told_in turn)) None)
    c.in_ok-group.ensures
    (at_none (λ o. IsOnlyTold (StandsAt turn.run.now.history.journal s (place_in s.transaction c.in_ok-group.group)) (number_at
    (codes "place") (told_in turn)) o)
    c.group_place.result c.in_default.not-Some c.group_place.ensures))

pub returns-then-tells_error-clause-decided : goal.returns-then-tells_error-clause-decided
returns-then-tells_error-clause-decided c =
    let turn = c.args.turn.now in
    let s = c.args.session.now in
    let after = c.judge_expired.new.session in
    if_ok c.judge_expired.result
    (λ found decided. get_expired turn c.requires.session.turn s c.args.key found after (c.tells_error.ensures.0 c.if-tells_error.true)
    (subst (λ (g : KeyParts). DecidesTurn turn (λ said t. IsExpired (world_in turn) s g said t) found after) c.in_ok-group.ensures decided))
    c.judge_expired.ensures.decided

pub returns-in_default-2-clause-decided : goal.returns-in_default-2-clause-decided
returns-in_default-2-clause-decided c =
    let turn = c.args.turn.now in
    let s = c.args.session.now in
    get_decided turn c.requires.session.turn s c.args.key c.in-Some.place None s
    (subst (λ (g : KeyParts). IsOnlyTold (StandsAt turn.run.now.history.journal s (place_in s.transaction g)) (number_at (codes "place")
    (told_in turn)) (Some c.in-Some.place))
    c.in_ok-group.ensures c.in-Some.ensures)
    (λ error. two_ways c.tells_error.result (c.tells_error.ensures.1 error) c.if-tells_error.false)
    (subst (Says turn c.args.key c.in-Some.place) c.in_default-2.is c.in_ok-said.ensures)

pub see_group-requires-clause-allowed : goal.see_group-requires-clause-allowed
see_group-requires-clause-allowed c =
    subst (λ (g : KeyParts). group_refusal c.args.session.now.transaction (Some g) ≡ None)
    (sym c.in_ok-group.ensures) c.requires.unrefused

pub see_group-requires-clause-place : goal.see_group-requires-clause-place
see_group-requires-clause-place c =
    let s = c.args.session.now in
    stands_within c.args.turn.now.run.now.history.journal s (place_in s.transaction c.in_ok-group.group) c.in-Some.place c.in-Some.ensures.0

pub returns-clause-decided : goal.returns-clause-decided
returns-clause-decided c =
    let turn = c.args.turn.now in
    let s = c.args.session.now in
    let said = subst (Says turn c.args.key c.in-Some.place) c.in-Some-2.is c.in_ok-said.ensures in
    let after = c.in_ok-see_group.ensures.seen ∙ ap (λ (g : KeyParts). saw_group
    (world_in turn) g c.in-Some.place s) c.in_ok-group.ensures in
    get_decided turn c.requires.session.turn s c.args.key c.in-Some.place (Some c.in-Some-2.said) c.see_group.new.session
    (subst (λ (g : KeyParts). IsOnlyTold (StandsAt turn.run.now.history.journal s (place_in s.transaction g)) (number_at (codes "place")
    (told_in turn)) (Some c.in-Some.place))
    c.in_ok-group.ensures c.in-Some.ensures)
    (λ error. two_ways c.tells_error.result (c.tells_error.ensures.1 error) c.if-tells_error.false)
    (said.0, said.1, after)
