use Rattle.ds_core.proofs.Words.{subst, Some, get_or, first_session, IsDueNow, looked-shown}
use Rattle.ds_core.proofs.Changing.{due-now}
use Rattle.ds_core.proofs.Places.{open-ready}
use Rattle.ds_core.proofs.opened.due_open.Goals as goal

pub due-requires : goal.due-requires
due-requires c =
    let ready = open-ready c.args.state.now c.args.client _ c.session_at.result.now _ c.in-Some.open.now c.session_at.ensures
    c.in-Some.ensures c.requires.seen c.requires.lawful c.shards-shards.ensures.counts in
    record { work = ready.work; seen = ready.seen; gathered = ready.gathered; views = ready.views }

pub returns-in-Some-clause-due : goal.returns-in-Some-clause-due
returns-in-Some-clause-due c =
    let ready = open-ready c.args.state.now c.args.client _ c.session_at.result.now _ c.in-Some.open.now c.session_at.ensures
    c.in-Some.ensures c.requires.seen c.requires.lawful c.shards-shards.ensures.counts in
    subst (λ o. IsDueNow c.due.new.self (get_or c.args.sessions.now.items c.args.client (first_session 0)) c.args.client c.args.taken o
    (Some c.due.result)) c.in-Some.ensures
    (subst (λ s. IsDueNow c.due.new.self s c.args.client c.args.taken (Some c.in-Some.open.now) (Some c.due.result)) c.session_at.ensures
    (due-now c.args.state.now c.due.new.self c.session_at.result.now c.args.client c.args.taken c.in-Some.open.now c.due.result
    (looked-shown c.args.state.now c.due.new.self c.due.ensures.store c.due.ensures.counts) ready.of c.due.ensures.plan c.due.ensures.told
    c.due.ensures.next))
