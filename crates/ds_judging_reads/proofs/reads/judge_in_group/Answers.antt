use Rattle.std.proofs.Common.{◌≡◌, ℕ, Bool, Option, Some, None, subst, take, true, false}
use Rattle.std.specs.Prelude.{codes}
use Rattle.ds_entity.specs.EntityOrder.{sorted_by_key}
use Rattle.ds_base.specs.Keys.{KeyParts}
use Rattle.ds_entity.specs.declared.results.Seen.TheVariants as seen
use Rattle.ds_log.specs.After.{after}
use Rattle.ds_log.specs.Logs.{writes_of}
use Rattle.ds_history.specs.Writers.{writing}
use Rattle.ds_protocol.specs.declared.preparing.Ready.{Ready}
use Rattle.ds_protocol.specs.declared.searching.Search.{Search}
use Rattle.ds_reply.specs.declared.reply.Body.{Body}
use Rattle.ds_model.specs.Groups.{StandsAt, place_in}
use Rattle.ds_model.specs.Sessions.{Session}
use Rattle.ds_reply_lines.specs.ReplyLines.{number_at}
use Rattle.ds_judging_lines.specs.Deciding.{DecidesTurn, IsOnlyTold, SaidIs, told_in, world_in}
use Rattle.ds_judging_reads.specs.Reading.{IsExpired, IsSearched, told_over}
use Rattle.ds_judging_lines.specs.declared.turn.Turn.{Turn}
use Rattle.ds_judging_lines.proofs.CountSteps.{at_none}
use Rattle.ds_judging_reads.proofs.GetLaws.{stands_within}
use Rattle.ds_judging_lines.proofs.Saying.{ok_so}
use Rattle.ds_judging_reads.proofs.SearchLaws.{ancestor_of, group_found, group_gone, group_placeless, unrefused_in}
use Rattle.ds_judging_reads.proofs.reads.judge_in_group.Goals as goal

-- where the group stands is told
abbrev Stands : Turn → Session → KeyParts → Option ℕ → Type 0
Stands turn s group o =
    IsOnlyTold (StandsAt turn.run.now.history.journal s (place_in s.transaction group)) (number_at (codes "place") (told_in turn)) o

-- the body with the results is said or not
abbrev Says : Turn → Search → Ready → KeyParts → ℕ → Option Body → Type 0
Says turn search ready group m o =
    SaidIs turn (told_over search ready.normal ready.window
    (sorted_by_key (after (writes_of (writing group (take m turn.run.now.history.journal))))) (seen.Place m)) o

apart : {b : Bool} → b ≡ false → b ≡ true → ⊥
apart is also = cc

pub returns-in_default-clause-decided : goal.returns-in_default-clause-decided
returns-in_default-clause-decided c =
    let turn = c.args.turn.now in
    let s = c.args.session.now in
    let a = ancestor_of c.args.search.now c.args.group c.requires.group c.requires.key in
    group_placeless turn c.requires.session.turn s c.args.search.now c.args.ready.now.normal c.args.ready.now.window c.requires.ready
    (unrefused_in s c.args.search.now c.args.group a c.requires.allowed) c.requires.texts c.requires.asks c.args.group a
    (at_none (Stands turn s c.args.group) c.group_place.result c.in_default.not-Some c.group_place.ensures)

pub returns-then-tells_error-clause-decided : goal.returns-then-tells_error-clause-decided
returns-then-tells_error-clause-decided c =
    let turn = c.args.turn.now in
    let s = c.args.session.now in
    let a = ancestor_of c.args.search.now c.args.group c.requires.group c.requires.key in
    ok_so c.judge_expired.result
    (λ found. DecidesTurn turn (λ said t. IsExpired (world_in turn) s c.args.group said t) found c.judge_expired.new.session)
    (λ found. DecidesTurn turn (λ said t. IsSearched (world_in turn) s c.args.search.now said t) found
    c.judge_expired.new.session)
    (λ found decided. group_gone turn c.requires.session.turn s c.args.search.now c.args.ready.now.normal c.args.ready.now.window
    c.requires.ready (unrefused_in s c.args.search.now c.args.group a c.requires.allowed) c.requires.texts c.requires.asks c.args.group a
    found c.judge_expired.new.session (c.tells_error.ensures.0 c.if-tells_error.true) decided)
    c.judge_expired.ensures.decided

pub returns-in_default-2-clause-decided : goal.returns-in_default-2-clause-decided
returns-in_default-2-clause-decided c =
    let turn = c.args.turn.now in
    let s = c.args.session.now in
    let a = ancestor_of c.args.search.now c.args.group c.requires.group c.requires.key in
    group_found turn c.requires.session.turn s c.args.search.now c.args.ready.now.normal c.args.ready.now.window c.requires.ready
    (unrefused_in s c.args.search.now c.args.group a c.requires.allowed) c.requires.texts c.requires.asks c.args.group a
    c.in-Some.place None s c.in-Some.ensures (λ gone. apart c.if-tells_error.false (c.tells_error.ensures.1 gone))
    (subst (Says turn c.args.search.now c.args.ready.now c.args.group c.in-Some.place) c.in_default-2.is c.in_ok-said.ensures)

pub see_group-requires-clause-place : goal.see_group-requires-clause-place
see_group-requires-clause-place c =
    let s = c.args.session.now in
    stands_within c.args.turn.now.run.now.history.journal s (place_in s.transaction c.args.group) c.in-Some.place c.in-Some.ensures.0

pub returns-clause-decided : goal.returns-clause-decided
returns-clause-decided c =
    let turn = c.args.turn.now in
    let s = c.args.session.now in
    let a = ancestor_of c.args.search.now c.args.group c.requires.group c.requires.key in
    let says = subst (Says turn c.args.search.now c.args.ready.now c.args.group c.in-Some.place) c.in-Some-2.is c.in_ok-said.ensures in
    group_found turn c.requires.session.turn s c.args.search.now c.args.ready.now.normal c.args.ready.now.window c.requires.ready
    (unrefused_in s c.args.search.now c.args.group a c.requires.allowed) c.requires.texts c.requires.asks c.args.group a
    c.in-Some.place (Some c.in-Some-2.said) c.see_group.new.session c.in-Some.ensures
    (λ gone. apart c.if-tells_error.false (c.tells_error.ensures.1 gone))
    (says.0, says.1, c.in_ok-see_group.ensures.seen)
