use Rattle.std.proofs.Common.{List, ap, sym, ◌∙◌}
use Rattle.std.proofs.lemmas.Result.{IfOk-weaker}
use Rattle.ds_reply.specs.declared.reply.Body.TheVariants as body
use Rattle.ds_model.specs.Sessions.{Session}
use Rattle.ds_judging_lines.specs.Deciding.{DecidesTurn, SaysThen, world_in}
use Rattle.std.specs.Prelude.{slice_get, take}
use Rattle.std.specs.Option.{option_map}
use Rattle.ds_log.specs.declared.Conflict.{Conflict}
use Rattle.ds_log.specs.declared.Touch.{Touch}
use Rattle.ds_log.specs.Conflicts.{conflict_of}
use Rattle.ds_model.specs.Groups.{IsSeenPlace}
use Rattle.ds_judging_writes.specs.Committing.{IsConflict}
use Rattle.ds_judging.proofs.CommitLaws.{PlaceTold, body_for, conflict_found, conflict_unlooked, conflict_unnamed, conflict_unplaced, ended}
use Rattle.ds_judging_lines.proofs.Decisions.{only_some}
use Rattle.ds_judging.proofs.transactions.judge_conflict.Goals as goal

pub returns-in_default-clause-decided : goal.returns-in_default-clause-decided
returns-in_default-clause-decided c =
    conflict_unplaced c.args.turn.now c.args.session.now c.requires.session.turn c.args.session.now.transaction
    c.args.draft.now c.requires.lawful c.requires.draft c.place.result c.place.ensures c.in_default.not-Some

pub returns-in_default-conflict-clause-decided : goal.returns-in_default-conflict-clause-decided
returns-in_default-conflict-clause-decided c =
    let turn = c.args.turn.now in
    let s : Session = c.args.session.now in
    let read = c.requires.session.turn in
    let m = c.in-Some.place in
    let one = only_some (IsSeenPlace turn.run.now.history.journal s) (PlaceTold turn s read) c.place.result m c.place.ensures c.in-Some.is
    in
    conflict_unlooked turn s read c.args.session.now.transaction c.args.draft.now c.requires.lawful c.requires.draft m
    c.conflict.result one
    (c.conflict.ensures ∙ ap (conflict_of (take m turn.run.now.history.journal)) c.as_slice-touched.ensures)
    c.in_default-conflict.not-Some

pub returns-in_default-2-clause-decided : goal.returns-in_default-2-clause-decided
returns-in_default-2-clause-decided c =
    let turn = c.args.turn.now in
    let s : Session = c.args.session.now in
    let read = c.requires.session.turn in
    let m = c.in-Some.place in
    let found : Conflict = c.in-Some-conflict.conflict in
    let o = c.args.session.now.transaction in
    let one = only_some (IsSeenPlace turn.run.now.history.journal s) (PlaceTold turn s read) c.place.result m c.place.ensures c.in-Some.is
    in
    conflict_unnamed turn s read o c.args.draft.now c.requires.lawful c.requires.draft m found c.in_ok-body.field-0 one
    (sym (c.conflict.ensures ∙ ap (conflict_of (take m turn.run.now.history.journal)) c.as_slice-touched.ensures)
    ∙ c.in-Some-conflict.is)
    (c.in_ok-body.ensures
    ∙ ap (λ (ts : List Touch). option_map (body_for turn s read o c.args.draft.now c.requires.lawful c.requires.draft found)
    (slice_get ts found.group))
    c.as_slice-touched.ensures)
    c.in_default-2.not-Some

pub returns-clause-decided : goal.returns-clause-decided
returns-clause-decided c =
    let turn = c.args.turn.now in
    let s : Session = c.args.session.now in
    let read = c.requires.session.turn in
    let o = c.args.session.now.transaction in
    let after : Session = c.say_ended.new.session in
    let m = c.in-Some.place in
    let found : Conflict = c.in-Some-conflict.conflict in
    let one = only_some (IsSeenPlace turn.run.now.history.journal s) (PlaceTold turn s read) c.place.result m c.place.ensures c.in-Some.is
    in
    IfOk-weaker c.say_ended.result (λ told. SaysThen turn c.in-Some-2.body (ended turn s read m) told after)
    (λ told. DecidesTurn turn (IsConflict (world_in turn) s o) told after)
    (λ told says. conflict_found turn s read o c.args.draft.now c.requires.lawful c.requires.draft m found c.in-Some-2.body told after one
    (sym (c.conflict.ensures ∙ ap (conflict_of (take m turn.run.now.history.journal)) c.as_slice-touched.ensures)
    ∙ c.in-Some-conflict.is)
    (sym (c.in_ok-body.ensures
    ∙ ap (λ (ts : List Touch). option_map (body_for turn s read o c.args.draft.now c.requires.lawful c.requires.draft found)
    (slice_get ts found.group))
    c.as_slice-touched.ensures) ∙ c.in-Some-2.is)
    says)
    c.say_ended.ensures.said
