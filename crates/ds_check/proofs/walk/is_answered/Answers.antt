use Rattle.std.proofs.Common.{sym, subst}
use Rattle.ds_told.specs.Told.{CanBeDrawn}
use Rattle.ds_judging_lines.specs.Deciding.{world_run}
use Rattle.ds_check.proofs.DrawnLaws.{can_be_drawn}
use Rattle.ds_check.proofs.SessionLaws.{answer_of, client_below, is_right, is_wrong, none_of, noted_as, session_in, sessions_set}
use Rattle.ds_check.proofs.walk.is_answered.Goals as goal

pub judge-requires-clause-session : goal.judge-requires-clause-session
judge-requires-clause-session c =
    let items = c.args.sessions.now.items in
    let below = client_below c.args.run.now.history.shards items c.args.asked.client c.requires.answerable.within c.requires.sessions in
    session_in c.args.run.now.history.shards items c.args.asked.client c.index_mut.result.now below c.index_mut.ensures.value
    c.requires.sessions

pub note-requires : goal.note-requires
note-requires c =
    let answer = answer_of (world_run c.args.run.now) c.index_mut.result.now c.args.asked c.args.line.now c.in_ok-body.field-0
    c.judge.new.session c.in-Some.body c.in-Some.is c.in_ok-body.ensures.decided in
    subst (λ d. CanBeDrawn d c.in-Some.body) (sym c.of-draws.ensures)
    (can_be_drawn (world_run c.args.run.now) c.index_mut.result.now c.args.asked.client c.args.asked.request c.in-Some.body
    c.judge.new.session answer.is_answer)

pub returns-in_ok-note-in-Some-clause-found : goal.returns-in_ok-note-in-Some-clause-found
returns-in_ok-note-in-Some-clause-found c =
    let items = c.args.sessions.now.items in
    let w = world_run c.args.run.now in
    let s = c.index_mut.result.now in
    let below = client_below c.args.run.now.history.shards items c.args.asked.client c.requires.answerable.within c.requires.sessions in
    let answer = answer_of w s c.args.asked c.args.line.now c.in_ok-body.field-0 c.judge.new.session c.in-Some.body
    c.in-Some.is
    c.in_ok-body.ensures.decided in
    let noted = c.in_ok-note-in-Some.ensures in
    is_right w items c.args.told.now c.args.asked c.args.line.now s below c.index_mut.ensures.value c.in-Some.body c.judge.new.session
    c.note.new.self
    answer (noted_as c.args.asked c.in-Some.body c.args.told.now c.note.new.self c.of-draws.result c.of-draws.ensures noted.commits
    noted.drawn
    noted.accepted noted.printed)

pub returns-in_ok-note-in-Some-clause-sessions : goal.returns-in_ok-note-in-Some-clause-sessions
returns-in_ok-note-in-Some-clause-sessions c =
    sessions_set c.args.run.now.history.shards c.args.sessions.now.items c.args.asked.client c.judge.new.session c.in_ok-body.ensures.kept
    c.requires.sessions

pub returns-in-None-clause-found : goal.returns-in-None-clause-found
returns-in-None-clause-found c =
    let items = c.args.sessions.now.items in
    let w = world_run c.args.run.now in
    let s = c.index_mut.result.now in
    let below = client_below c.args.run.now.history.shards items c.args.asked.client c.requires.answerable.within c.requires.sessions in
    is_wrong w items c.args.told.now c.args.asked c.args.line.now s below c.index_mut.ensures.value
    (none_of w s c.args.asked c.args.line.now c.in_ok-body.field-0 c.judge.new.session c.in-None.is
    c.in_ok-body.ensures.decided)

pub returns-in-None-clause-sessions : goal.returns-in-None-clause-sessions
returns-in-None-clause-sessions c =
    sessions_set c.args.run.now.history.shards c.args.sessions.now.items c.args.asked.client c.judge.new.session c.in_ok-body.ensures.kept
    c.requires.sessions
