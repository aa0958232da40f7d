use Rattle.ds_core.proofs.Words.{◌≡◌, ◌∙◌, ◌++◌, [], ◌∷◌, ap, map, refl, rules, subst, sym, append-nil, All, event_of, moment_of}
use Rattle.ds_core.proofs.Words.{IsLawfulEvent, parts, AreWaiting, GoesOn, HappensAt, course_of}
use Rattle.std.proofs.lemmas.List.{nil_from_length}
use Rattle.std.proofs.lemmas.List.Elements.{All-head, All-rest}
use Rattle.ds_core.proofs.Legals.{legal-round}
use Rattle.ds_core.proofs.Happened.{event-then, has-happened, past-then}
use Rattle.ds_core.proofs.Places.{open-within}
use Rattle.ds_core.proofs.Serial.{round-serial}
use Rattle.ds_core.proofs.Taken.{happening}
use Rattle.ds_core.proofs.Waiting.{happened-waiting}
use Rattle.ds_core.proofs.running.run.Goals as goal

pub event-requires-clause-lawful : goal.event-requires-clause-lawful
event-requires-clause-lawful c =
    let first : c.loop-event.event-iterator.rest.items ≡ c.in-Some.event ∷ c.next.new.self.rest.items = search rules in
    subst (λ n. IsLawfulEvent n c.in-Some.event) (sym c.loop-event.invariant.shards)
    (All-head (IsLawfulEvent c.args.shards) c.in-Some.event _
    (subst (All (IsLawfulEvent c.args.shards)) first c.loop-event.invariant.lawful))

pub loop-event-preserved : goal.loop-event-preserved
loop-event-preserved c =
    let first : c.loop-event.event-iterator.rest.items ≡ c.in-Some.event ∷ c.next.new.self.rest.items = search rules in
    let was = parts c.loop-event.machine in
    let is = parts c.event.new.self in
    let asked = c.in-Some.event in
    let now = c.in_ok-event.ensures in
    let before = c.loop-event.invariant in
    let happens = subst (λ n. HappensAt n asked.step asked.client asked.begins (course_of was) (course_of is)) before.shards now.happens in
    let h = happening happens in
    record {
      legal = now.legal;
      definitions = now.same.0 ∙ before.definitions;
      shards = now.same.1 ∙ before.shards;
      lawful = All-rest (IsLawfulEvent c.args.shards) asked c.next.new.self.rest.items _ first before.lawful;
      waiting = subst (λ n. AreWaiting n (moment_of is)) (sym now.same.1)
          (happened-waiting now.happens (open-within was before.legal) before.waiting);
      happenings = before.happenings ++ h ∷ [];
      past = past-then before.happenings happens before.past;
      taken = event-then before.happenings h asked _ _ c.args.events before.taken first refl;
    }

pub returns-clause-legal : goal.returns-clause-legal
returns-clause-legal c =
    legal-round (parts c.finish.new.self) c.end.result c.args.defs c.args.shards c.in_ok-finish.ensures.legal
    c.in_ok-finish.ensures.closed
    (c.in_ok-finish.ensures.same.0 ∙ c.loop-event.invariant.definitions)
    (c.in_ok-finish.ensures.same.1 ∙ c.loop-event.invariant.shards)
    c.end.ensures.requests c.end.ensures.replies c.end.ensures.journal

pub returns-clause-happened : goal.returns-clause-happened
returns-clause-happened c =
    let before = c.loop-event.invariant in
    let none : c.loop-event.event-iterator.rest.items ≡ [] = nil_from_length c.loop-event.event-iterator.rest.items (search rules) in
    has-happened c.args.shards (course_of (parts c.loop-event.machine)) (parts c.finish.new.self) before.happenings c.args.events
    c.end.result before.past
    (sym (append-nil (map event_of before.happenings)) ∙ ap (λ es. map event_of before.happenings ++ es) (sym none) ∙ before.taken)
    (subst (λ n. GoesOn n (course_of (parts c.loop-event.machine)) (course_of (parts c.finish.new.self))) before.shards
    c.in_ok-finish.ensures.goes) c.in_ok-finish.ensures.closed c.end.ensures.requests c.end.ensures.replies c.end.ensures.journal

pub returns-clause-serial : goal.returns-clause-serial
returns-clause-serial c = round-serial c.args.defs c.args.shards c.end.result (returns-clause-legal c)
