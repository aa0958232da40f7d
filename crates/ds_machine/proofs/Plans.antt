-- What is due where the store stays as it is: answers that tell at most the id counter, and refusals.
use Rattle.ds_machine.proofs.Words.{◌≡◌, inr, ℕ, ◌<◌, ◌≤◌, [], ◌∷◌, refl, ap, sym, ◌∙◌, subst, arith, rules, Option, Some, None, true}
use Rattle.ds_machine.proofs.Words.{false, Result, Ok, All, append-nil, All-nil, All-cons, Call, Body, CallAnswers, UnlessRefused}
use Rattle.ds_machine.proofs.Words.{RequestAnswers, BodyAnswers, search_of, acknowledged_in, accepted_in, printed_next_in, drawn_by_call}
use Rattle.ds_machine.proofs.Words.{refusal_of, Session, World, Effect, IsDue, IsDuePlan, IsAllowed, store_after, session_after, is_quiet}
use Rattle.ds_machine.proofs.Words.{StoreParts, StateParts, world, AskedAnswers}
use Rattle.ds_request.specs.declared.call.Request.{Request}
use Rattle.ds_model.specs.Asked.{Search}
use Rattle.ds_request.specs.declared.call.Call.TheVariants as call
use Rattle.ds_reply.specs.declared.reply.Body.TheVariants as body
use Rattle.ds_effects.specs.declared.effect.Effect.TheVariants as effect

-- ---- answers that tell of no commit and of no new id

-- the answer to the call acknowledges no commit, accepts and draws no id, and prints no counter above this one
abbrev pub KeepsStore : ℕ → Call → Body → Type 0
KeepsStore next c b =
    (acknowledged_in b ≡ []) × (accepted_in b ≡ []) × All (λ printed. printed ≤ next) (printed_next_in b) × (drawn_by_call c b ≡ [])

draws-none : (c : Call) (b : Body) → is_quiet b ≡ true → drawn_by_call c b ≡ []
draws-none (call.Put key true properties) (body.Put printed place) quiet = cc
draws-none (call.Put key false properties) b quiet = refl
draws-none (call.AllocateIds count) (body.AllocateIds first printed) quiet = cc
draws-none _ _ quiet = refl

pub keeps-quiet : (next : ℕ) (c : Call) (b : Body) → is_quiet b ≡ true → KeepsStore next c b
keeps-quiet next c b quiet = let kept = by b quiet in (kept.0, kept.1, kept.2, draws-none c b quiet) where
  by : (x : Body) → is_quiet x ≡ true → (acknowledged_in x ≡ []) × (accepted_in x ≡ []) × All (λ printed. printed ≤ next) (printed_next_in x)
  by (body.Put key place) quiet = cc
  by _ quiet = first_of (cc, search (rules, All-nil (λ printed. printed ≤ next)))

pub printed-one : (next : ℕ) → All (λ printed. printed ≤ next) (next ∷ [])
printed-one next = All-cons (λ printed. printed ≤ next) next [] (omega arith) (All-nil (λ printed. printed ≤ next))

-- nothing refuses it before
pub unrefused : (w : World) (client : ℕ) (s after : Session) (c : Call) (b : Body) → refusal_of w.definitions s c ≡ None
    → CallAnswers w client s c b after → UnlessRefused (refusal_of w.definitions s c) s b after (CallAnswers w client s c b after)
unrefused w client s after c b none answers =
    subst (λ o. UnlessRefused o s b after (CallAnswers w client s c b after)) (sym none) answers

said : (w : World) (s : Session) (line : Result Request (ℕ × Body)) (b : Body) → AskedAnswers w s line b s → BodyAnswers w s line b s
said w s line body.NoMemory answers = refl
said w s line _ answers = answers

module _ (st : StateParts) (s : Session) (client : ℕ) (c : Call) where
  pub due_here : (b : Body) (e : Effect) → store_after e st.store ≡ st.store → KeepsStore st.store.next c b → IsAllowed e st s
      → ((window : Option ℕ) → BodyAnswers (world st.store window) s (Ok (record { client = client; call = c })) b
      (session_after e st.store s)) → IsDue st s client c [] b e
  due_here b e same keeps allowed answers = record {
    answers = λ window. rw same (answers window);
    allowed = allowed;
    definitions = ap (λ (x : StoreParts). x.definitions) same;
    shards = ap (λ (x : StoreParts). x.shards) same;
    next = ap (λ (x : StoreParts). x.next) same;
    added = [];
    journal = ap (λ (x : StoreParts). x.journal) same ∙ sym (append-nil st.store.journal);
    acknowledges = keeps.0;
    draws = keeps.3;
    accepts = subst (All (λ id. id < st.store.next)) (sym keeps.1) (All-nil (λ id. id < st.store.next));
    prints = keeps.2;
  }

  -- the answer to a call that nothing refuses
  pub due_unrefused : (b : Body) (e : Effect) → store_after e st.store ≡ st.store → KeepsStore st.store.next c b → IsAllowed e st s
      → refusal_of st.store.definitions s c ≡ None
      → ((w : World) → UnlessRefused (refusal_of w.definitions s c) s b (session_after e st.store s)
      (CallAnswers w client s c b (session_after e st.store s))
      → BodyAnswers w s (Ok (record { client = client; call = c })) b (session_after e st.store s))
      → ((window : Option ℕ) → CallAnswers (world st.store window) client s c b (session_after e st.store s))
      → IsDuePlan st s client c [] b e
  due_unrefused b e same keeps allowed none is_call answers = inr (due_here b e same keeps allowed (λ window.
      is_call (world st.store window) (unrefused (world st.store window) client s (session_after e st.store s) c b none (answers window))))

  -- ---- refusals

  pub due_said : (b : Body) (asked : Option (Result Search Body)) → is_quiet b ≡ true → search_of c ≡ asked
      → ((window : Option ℕ) → RequestAnswers (world st.store window) client s c asked b s) → IsDue st s client c [] b effect.Nothing
  due_said b asked quiet is answers = due_here b effect.Nothing refl (keeps-quiet st.store.next c b quiet) tt (λ window.
      said (world st.store window) s (Ok (record { client = client; call = c })) b
      (subst (λ o. RequestAnswers (world st.store window) client s c o b s) (sym is) (answers window)))

  pub due_refused : (b : Body) → is_quiet b ≡ true → search_of c ≡ None → refusal_of st.store.definitions s c ≡ Some b
      → IsDue st s client c [] b effect.Nothing
  due_refused b quiet plain is = due_said b None quiet plain (λ window.
      subst (λ o. UnlessRefused o s b s (CallAnswers (world st.store window) client s c b s)) (sym is) (refl, refl))
