-- Ids: those that are drawn, and the id counter where it refuses them.
use Rattle.std.proofs.Common.{◌≡◌, ℕ, ◌+◌, ◌-◌, ◌<◌, ◌≤◌, List, [], ◌∷◌, ◌++◌, refl, ap, sym, ◌∙◌, subst, arith, Bool, true}
use Rattle.std.proofs.Common.{Option, Some, None}
use Rattle.std.specs.Prelude.{All, Ok}
use Rattle.std.specs.List.{range_with_len}
use Rattle.std.proofs.lemmas.List.{append-nil}
use Rattle.std.proofs.lemmas.List.Elements.{All-nil, All-cons}
use Rattle.ds_entity.specs.declared.entity.Property.{Property}
use Rattle.ds_base.specs.Keys.{KeyParts}
use Rattle.ds_base.specs.Limits.{greatest_id}
use Rattle.ds_draw.specs.Draws.{numbers}
use Rattle.ds_indexdef.specs.declared.IndexDef.{IndexDef}
use Rattle.ds_log.specs.Ids.{first_unissued}
use Rattle.ds_request.specs.declared.call.Call.{Call}
use Rattle.ds_request.specs.declared.call.Call.TheVariants as call
use Rattle.ds_reply.specs.declared.reply.Body.{Body}
use Rattle.ds_reply.specs.declared.reply.Body.TheVariants as body
use Rattle.ds_model.specs.Answers.{BodyAnswers}
use Rattle.ds_model.specs.Legal.{acknowledged_in, accepted_in, printed_next_in}
use Rattle.ds_model.specs.Refusals.{refusal_of}
use Rattle.ds_model.specs.Sessions.{Session, saw_next}
use Rattle.ds_store.specs.Answered.{HasDrawn, HasSeenNext}
use Rattle.ds_store.specs.Passes.{PassParts, HasRead}
use Rattle.ds_session_state.specs.Answering.{HasSaid}
use Rattle.ds_session_state.specs.Sessions.{HasGrown, IsWithin, world_seen}
use Rattle.ds_session_state.proofs.GrowthLaws.{begins_same, grown_by_reading, longer_same}
use Rattle.ds_session_state.proofs.SayingLaws.{call_answers, draws_nothing, tells_no_id}
use Rattle.ds_session_state.proofs.SeeingLaws.{within_later, within_next}

pub one_number : (n : ℕ) → numbers n (n + 1) ≡ n ∷ []
one_number n = let one : n + 1 - n ≡ 1 = omega arith in ap (range_with_len n) one

numbers_from : (first count : ℕ) → numbers first (first + count) ≡ range_with_len first count
numbers_from first count = let so_many : first + count - first ≡ count = omega arith in ap (range_with_len first) so_many

module _ (p q : PassParts) where
  pub grown_drawn : (first count : ℕ) → HasDrawn p q first count → HasGrown p q
  grown_drawn first count drawn = record {
    journal = begins_same p.journal q.journal (ap (λ r. r.journal) drawn.after_is);
    lists = longer_same p.lists q.lists (ap (λ r. r.lists) drawn.after_is);
    place = let same : q.place ≡ p.place = ap (λ r. r.place) drawn.after_is in omega (arith, same);
    next = let risen : q.next ≡ first + count = ap (λ r. r.next) drawn.after_is in omega (arith, risen, drawn.shown);
  }

  -- looking at the id counter reads
  pub read_next : (next : ℕ) → HasSeenNext p q next → HasRead p q
  read_next next seen = record {
    journal = begins_same p.journal q.journal (ap (λ r. r.journal) seen.after_is);
    lists = longer_same p.lists q.lists (ap (λ r. r.lists) seen.after_is);
    place = let same : q.place ≡ p.place = ap (λ r. r.place) seen.after_is in omega (arith, same);
    next = let risen : q.next ≡ next = ap (λ r. r.next) seen.after_is in omega (arith, risen, seen.shown);
    commits = ap (λ r. r.commits) seen.after_is;
    draws = ap (λ r. r.draws) seen.after_is;
  }

module _ (definitions : List IndexDef) (shards : ℕ) (window : Option ℕ) (client : ℕ) (s : Session) (p q : PassParts)
    (within : IsWithin s p) where
  -- what prints the id counter that the pass then knows, and tells of nothing else
  prints_next : (c : Call) (said : Body) (next : ℕ) → tells_no_id said ≡ true → acknowledged_in said ≡ [] → accepted_in said ≡ []
      → printed_next_in said ≡ next ∷ [] → HasRead p q → next ≤ q.next
      → BodyAnswers (world_seen definitions shards window q) s (Ok (record { client = client; call = c })) said (saw_next next s)
      → HasSaid definitions shards window p q s (saw_next next s) (Ok (record { client = client; call = c })) said
  prints_next c said next no_id no_commit none_accepted printed h low answers = record {
    answers = answers;
    grown = grown_by_reading p q h;
    commits = h.commits ∙ sym (ap (λ ns. p.commits ++ ns) no_commit ∙ append-nil p.commits);
    draws = h.draws ∙ sym (ap (λ ids. p.draws ++ ids) (draws_nothing (Ok (record { client = client; call = c })) said no_id)
        ∙ append-nil p.draws);
    accepts = subst (All (λ id. id < q.next)) (sym none_accepted) (All-nil (λ id. id < q.next));
    prints = subst (All (λ n. n ≤ q.next)) (sym printed) (All-cons (λ n. n ≤ q.next) next [] low (All-nil (λ n. n ≤ q.next)));
    within = within_next s q next low (within_later s p q (grown_by_reading p q h) within);
  }

  -- the written key has an id that the counter didn't give yet
  pub put_unissued : (key : KeyParts) (incomplete : Bool) (properties : List Property) (id : ℕ)
      → refusal_of definitions s (call.Put key incomplete properties) ≡ None → first_unissued q.next key.elems ≡ Some id → HasRead p q
      → HasSaid definitions shards window p q s (saw_next q.next s)
      (Ok (record { client = client; call = call.Put key incomplete properties }))
      (body.IdNotIssued id q.next)
  put_unissued key incomplete properties id unrefused first h =
      prints_next (call.Put key incomplete properties) (body.IdNotIssued id q.next) q.next refl refl refl refl h (omega arith)
      (call_answers (world_seen definitions shards window q) s (saw_next q.next s)
      (record { client = client; call = call.Put key incomplete properties }) (body.IdNotIssued id q.next) refl unrefused
      (record { shown = omega (arith, within.next, h.next); first = first; raised = refl }))

  pub delete_unissued : (key : KeyParts) (id : ℕ) → refusal_of definitions s (call.Delete key) ≡ None
      → first_unissued q.next key.elems ≡ Some id
      → HasRead p q
      → HasSaid definitions shards window p q s (saw_next q.next s) (Ok (record { client = client; call = call.Delete key }))
      (body.IdNotIssued id q.next)
  delete_unissued key id unrefused first h =
      prints_next (call.Delete key) (body.IdNotIssued id q.next) q.next refl refl refl refl h (omega arith)
      (call_answers (world_seen definitions shards window q) s (saw_next q.next s) (record { client = client; call = call.Delete key })
      (body.IdNotIssued id q.next) refl unrefused
      (record { shown = omega (arith, within.next, h.next); first = first; raised = refl }))

  -- no id is left for an incomplete put
  pub put_exhausted : (key : KeyParts) (properties : List Property) (next : ℕ)
      → refusal_of definitions s (call.Put key true properties) ≡ None
      → first_unissued next key.elems ≡ None → greatest_id < next + 1 → p.next ≤ next → next ≤ q.next → HasRead p q
      → HasSaid definitions shards window p q s (saw_next next s) (Ok (record { client = client; call = call.Put key true properties }))
      (body.IdsExhausted next)
  put_exhausted key properties next unrefused issued beyond shown low h =
      prints_next (call.Put key true properties) (body.IdsExhausted next) next refl refl refl refl h low
      (call_answers (world_seen definitions shards window q) s (saw_next next s)
      (record { client = client; call = call.Put key true properties })
      (body.IdsExhausted next) refl unrefused
      (refl, issued, record { shown = omega (arith, within.next, shown); beyond = beyond; raised = refl }))

  -- or for a range
  pub allocate_exhausted : (count next : ℕ) → HasSeenNext p q next → greatest_id < next + count
      → HasSaid definitions shards window p q s (saw_next next s) (Ok (record { client = client; call = call.AllocateIds count }))
      (body.IdsExhausted next)
  allocate_exhausted count next seen beyond =
      let known : q.next ≡ next = ap (λ r. r.next) seen.after_is in
      prints_next (call.AllocateIds count) (body.IdsExhausted next) next refl refl refl refl (read_next p q next seen)
      (omega (arith, known))
      (call_answers (world_seen definitions shards window q) s (saw_next next s) (record { client = client; call = call.AllocateIds count })
      (body.IdsExhausted next) refl refl
      (record { shown = omega (arith, within.next, seen.shown); beyond = beyond; raised = refl }))

  -- a range of ids
  pub allocated : (first count : ℕ) → HasDrawn p q first count
      → HasSaid definitions shards window p q s (saw_next (first + count) s)
      (Ok (record { client = client; call = call.AllocateIds count }))
      (body.AllocateIds first count)
  allocated first count drawn =
      let known : q.next ≡ first + count = ap (λ r. r.next) drawn.after_is in record {
        answers =
            (call_answers (world_seen definitions shards window q) s (saw_next (first + count) s)
            (record { client = client; call = call.AllocateIds count }) (body.AllocateIds first count) refl refl
            (refl, record { shown = omega (arith, within.next, drawn.shown); within = drawn.within; raised = refl }));
        grown = grown_drawn p q first count drawn;
        commits = ap (λ r. r.commits) drawn.after_is ∙ sym (append-nil p.commits);
        draws = ap (λ r. r.draws) drawn.after_is ∙ ap (λ ids. p.draws ++ ids) (numbers_from first count);
        accepts = All-nil (λ id. id < q.next);
        prints = All-nil (λ n. n ≤ q.next);
        within = within_next s q (first + count) (omega (arith, known)) (within_later s p q (grown_drawn p q first count drawn) within);
      }
