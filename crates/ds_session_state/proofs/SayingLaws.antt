-- What is said after earlier calls of the store, and what tells of no commit and of no id.
use Rattle.std.proofs.Common.{◌≡◌, ℕ, ◌<◌, ◌≤◌, List, [], ◌++◌, refl, ap, sym, ◌∙◌, subst, Bool, true, false, Option}
use Rattle.std.proofs.Common.{Some, None}
use Rattle.std.specs.Prelude.{All, Result, Ok, Err}
use Rattle.std.proofs.lemmas.List.{append-nil}
use Rattle.std.proofs.lemmas.List.Elements.{All-nil}
use Rattle.ds_indexdef.specs.declared.IndexDef.{IndexDef}
use Rattle.ds_request.specs.declared.call.Call.{Call}
use Rattle.ds_request.specs.declared.call.Call.TheVariants as call
use Rattle.ds_request.specs.declared.call.Request.{Request}
use Rattle.ds_reply.specs.declared.reply.Body.{Body}
use Rattle.ds_reply.specs.declared.reply.Body.TheVariants as body
use Rattle.ds_model.specs.Answers.{AskedAnswers, BodyAnswers, CallAnswers, RequestAnswers, UnlessRefused}
use Rattle.ds_model.specs.Asked.{search_of}
use Rattle.ds_model.specs.Legal.{acknowledged_in, accepted_in, printed_next_in, drawn_by, drawn_by_call}
use Rattle.ds_model.specs.Refusals.{refusal_of}
use Rattle.ds_model.specs.Sessions.{Session}
use Rattle.ds_model.specs.Worlds.{World}
use Rattle.ds_protocol.specs.Refused.{is_quiet}
use Rattle.ds_store.specs.Passes.{PassParts, HasRead}
use Rattle.ds_session_state.specs.Answering.{HasSaid}
use Rattle.ds_session_state.specs.Sessions.{IsWithin, world_seen}
use Rattle.ds_session_state.proofs.GrowthLaws.{grown_by_reading, grown_through}
use Rattle.ds_session_state.proofs.SeeingLaws.{within_later}

quiet-acknowledges : (b : Body) → is_quiet b ≡ true → acknowledged_in b ≡ []
quiet-acknowledges (body.Put key at) is = cc
quiet-acknowledges (body.Delete key at) is = cc
quiet-acknowledges (body.Commit n) is = cc
quiet-acknowledges _ is = refl

quiet-accepts : (b : Body) → is_quiet b ≡ true → accepted_in b ≡ []
quiet-accepts (body.Put key at) is = cc
quiet-accepts (body.Delete key at) is = cc
quiet-accepts _ is = refl

quiet-prints : (b : Body) → is_quiet b ≡ true → printed_next_in b ≡ []
quiet-prints (body.IdNotIssued id next) is = cc
quiet-prints (body.IdsExhausted next) is = cc
quiet-prints _ is = refl

-- a reply that is no put's and tells no range tells no id as drawn
abbrev pub tells_no_id : Body → Bool
tells_no_id (body.Put key at) = false
tells_no_id (body.AllocateIds first count) = false
tells_no_id _ = true

pub draws_nothing : (read : Result Request (ℕ × Body)) (b : Body) → tells_no_id b ≡ true → drawn_by read b ≡ []
draws_nothing (Err e) b is = refl
draws_nothing (Ok r) b is = by r.call b is where
  by : (c : Call) (b : Body) → tells_no_id b ≡ true → drawn_by_call c b ≡ []
  by (call.Put key true properties) (body.Put printed place) is = cc
  by (call.AllocateIds count) (body.AllocateIds first printed) is = cc
  by _ _ is = refl

quiet-draws : (read : Result Request (ℕ × Body)) (b : Body) → is_quiet b ≡ true → drawn_by read b ≡ []
quiet-draws read b is = draws_nothing read b (by b is) where
  by : (b : Body) → is_quiet b ≡ true → tells_no_id b ≡ true
  by (body.Put key at) is = cc
  by (body.AllocateIds first count) is = cc
  by _ is = refl

-- ---- what is said of a request

-- what is said to a request isn't lack of memory, or it is and nothing changes
pub body_asked : (w : World) (s : Session) (read : Result Request (ℕ × Body)) (said : Body) → AskedAnswers w s read said s
    → BodyAnswers w s read said s
body_asked w s read body.NoMemory a = refl
body_asked w s read _ a = a

-- the answers to a request that isn't a search and that nothing refuses before
pub call_answers : (w : World) (s later : Session) (r : Request) (said : Body) → search_of r.call ≡ None
    → refusal_of w.definitions s r.call ≡ None
    → CallAnswers w r.client s r.call said later → AskedAnswers w s (Ok r) said later
call_answers w s later r said no_search unrefused answers =
    subst (λ o. RequestAnswers w r.client s r.call o said later) (sym no_search)
    (subst (λ o. UnlessRefused o s said later (CallAnswers w r.client s r.call said later)) (sym unrefused) answers)

-- the refusal of a request that isn't a search
pub call_refused : (w : World) (s : Session) (r : Request) (refusal : Body) → search_of r.call ≡ None
    → refusal_of w.definitions s r.call ≡ Some refusal
    → AskedAnswers w s (Ok r) refusal s
call_refused w s r refusal no_search is =
    subst (λ o. RequestAnswers w r.client s r.call o refusal s) (sym no_search)
    (subst (λ o. UnlessRefused o s refusal s (CallAnswers w r.client s r.call refusal s)) (sym is) (refl, refl))

module _ (definitions : List IndexDef) (shards : ℕ) (window : Option ℕ) where
  -- what is said after earlier calls, which committed and drew nothing
  pub said_after : (p q r : PassParts) (s later : Session) (read : Result Request (ℕ × Body)) (said : Body) → HasRead p q
      → HasSaid definitions shards window q r s later read said → HasSaid definitions shards window p r s later read said
  said_after p q r s later read said first last = record {
    answers = last.answers;
    grown = grown_through p q r (grown_by_reading p q first) last.grown;
    commits = last.commits ∙ ap (λ ns. ns ++ acknowledged_in said) first.commits;
    draws = last.draws ∙ ap (λ ids. ids ++ drawn_by read said) first.draws;
    accepts = last.accepts;
    prints = last.prints;
    within = last.within;
  }

  -- what tells of no commit and of no id, once the pass has only read
  pub said_quietly : (p q : PassParts) (s later : Session) (read : Result Request (ℕ × Body)) (said : Body) → is_quiet said ≡ true
      → HasRead p q
      → IsWithin later q → BodyAnswers (world_seen definitions shards window q) s read said later
      → HasSaid definitions shards window p q s later read said
  said_quietly p q s later read said quiet h within answers = record {
    answers = answers;
    grown = grown_by_reading p q h;
    commits = h.commits ∙ sym (ap (λ ns. p.commits ++ ns) (quiet-acknowledges said quiet) ∙ append-nil p.commits);
    draws = h.draws ∙ sym (ap (λ ids. p.draws ++ ids) (quiet-draws read said quiet) ∙ append-nil p.draws);
    accepts = subst (All (λ id. id < q.next)) (sym (quiet-accepts said quiet)) (All-nil (λ id. id < q.next));
    prints = subst (All (λ next. next ≤ q.next)) (sym (quiet-prints said quiet)) (All-nil (λ next. next ≤ q.next));
    within = within;
  }

  -- there was no memory: nothing changes but what the pass has seen
  pub said_no_memory : (p q : PassParts) (s : Session) (read : Result Request (ℕ × Body)) → HasRead p q → IsWithin s p
      → HasSaid definitions shards window p q s s read body.NoMemory
  said_no_memory p q s read h within = said_quietly p q s s read body.NoMemory refl h (within_later s p q (grown_by_reading p q h) within)
      refl

  -- a refusal that the line and the session before decide
  pub said_refusal : (p q : PassParts) (s : Session) (read : Result Request (ℕ × Body)) (refusal : Body) → is_quiet refusal ≡ true
      → HasRead p q
      → IsWithin s p → AskedAnswers (world_seen definitions shards window q) s read refusal s
      → HasSaid definitions shards window p q s s read refusal
  said_refusal p q s read refusal quiet h within answers =
      said_quietly p q s s read refusal quiet h (within_later s p q (grown_by_reading p q h) within)
      (body_asked (world_seen definitions shards window q) s read refusal answers)
