use Rattle.ds_core.proofs.Words.{◌∙◌, ap, sym, Some, is_some, parts, course_of}
use Rattle.ds_core.proofs.Calls.{ok-three}
use Rattle.ds_core.proofs.Changing.{closed-one, due_told, refused-changes, still-opens}
use Rattle.ds_core.proofs.Legals.{as-many}
use Rattle.ds_core.proofs.machine.Machine.begin.Goals as goal

pub returns-then-has_open-clause-opens : goal.returns-then-has_open-clause-opens
returns-then-has_open-clause-opens c =
    still-opens c.args.self.now.state.store.shards c.args.client (Some c.args.request) (course_of (parts c.args.self.now))
    (λ none. let never = sym (ap is_some none) ∙ (sym c.has_open.ensures ∙ c.if-has_open.true) in cc)

pub work_of-requires-clause-seen : goal.work_of-requires-clause-seen
work_of-requires-clause-seen c = (c.requires.legal.opens c.args.client c.requires.client).0

pub open-requires-clause-closed : goal.open-requires-clause-closed
open-requires-clause-closed c = closed-one _ (sym c.has_open.ensures ∙ c.if-has_open.false)

pub tell-requires-clause-many : goal.tell-requires-clause-many
tell-requires-clause-many c = as-many (parts c.args.self.now) c.requires.legal

pub tell-requires-clause-allowed : goal.tell-requires-clause-allowed
tell-requires-clause-allowed c = λ told. (due_told _ _ _ _ _ _ _ told c.in-Err.ensures.refused).allowed

pub returns-in-Err : goal.returns-in-Err
returns-in-Err c =
    let all = ok-three c.tell.result (refused-changes (parts c.args.self.now) c.requires.legal c.args.client c.requires.client
    c.args.request (closed-one _ (sym c.has_open.ensures ∙ c.if-has_open.false)) c.in-Err.plan.body c.in-Err.plan.effect
    (parts c.tell.new.self) c.requires.lawful.0 c.in-Err.ensures.refused c.in-Err.ensures.told) c.tell.ensures in
    record { legal = all.0; same = all.1; opens = all.2 }
