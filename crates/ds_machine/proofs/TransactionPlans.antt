-- What is due of transactions.
use Rattle.ds_machine.proofs.Words.{common_steps, ◌≡◌, ℕ, ◌+◌, ◌-◌, ◌<◌, ◌≤◌, List, [], ◌∷◌, ◌++◌, length, take, refl, ap, sym, ◌∙◌, inr}
use Rattle.ds_machine.proofs.Words.{subst, arith, Option, Some, None, slice_get, option_map, All-nil, KeyParts, Commit, Touch, last_writer}
use Rattle.ds_machine.proofs.Words.{Session, Transaction, IsDuePlan, session_after, StateParts, IsSession, IsTransaction, world}
use Rattle.ds_machine.proofs.Words.{take-append-le, most_writes, conflict_of, conflict_from, IsCommitted, commit_of, no_transaction}
use Rattle.std.proofs.Math.Seq.{take-length}
use Rattle.ds_log.specs.declared.Conflict.{Conflict}
use Rattle.ds_request.specs.declared.call.Call.TheVariants as call
use Rattle.ds_reply.specs.declared.reply.Body.TheVariants as body
use Rattle.ds_effects.specs.declared.effect.Effect.TheVariants as effect
use Rattle.ds_machine.proofs.Plans.{due_unrefused, keeps-quiet, unrefused}
use Rattle.ds_machine.proofs.WriteAnswers.{at_end}

-- the place of a conflict is that of the check
pub conflict-place : (last : KeyParts → Option ℕ) (place i : ℕ) (touched : List Touch) (x : Conflict)
    → conflict_from last place i touched ≡ Some x → x.place ≡ place
conflict-place last place i [] x is = cc
conflict-place last place i (t ∷ ts) x is = let later = conflict-place last place (i + 1) ts x in grind (arith, common_steps)

module _ (st : StateParts) (s : Session) (client : ℕ) where
  pub commit_due : (t : Transaction) (draft : Commit) (n : ℕ) → IsSession st s → s.transaction ≡ Some t → draft ≡ commit_of client t
      → n ≡ length st.store.journal + 1 → length t.writes ≤ most_writes → conflict_of st.store.journal draft.touched ≡ None
      → IsDuePlan st s client call.Commit [] (body.Commit n) (effect.CommitTransaction draft)
  commit_due t draft n seen inside is same few serial = rw (same, is) (inr (record {
    answers = λ window. unrefused (world (record st.store { journal = st.store.journal ++ commit_of client t ∷ [] }) window) client s
        (session_after (effect.CommitTransaction (commit_of client t)) st.store s) call.Commit (body.Commit (length st.store.journal + 1))
        (ap no_transaction inside) (rw inside (record {
          later = omega (arith, seen.place_within);
          committed = at_end st.store.journal (commit_of client t);
          serial = subst (λ cs. IsCommitted cs (commit_of client t)) before
              (record { few = few; touched_before = kept.0; serial = rw is at serial });
          ended = refl;
        }));
    allowed = record { touched_before = kept.0; issued = kept.1; serial = rw is at serial };
    definitions = refl;
    shards = refl;
    next = refl;
    added = commit_of client t ∷ [];
    journal = refl;
    acknowledges = refl;
    draws = refl;
    accepts = All-nil (λ id. id < st.store.next);
    prints = All-nil (λ next. next ≤ st.store.next);
  }))
    where
      kept : IsTransaction st.store (Some t)
      kept = subst (IsTransaction st.store) inside seen.transaction_within

      before : st.store.journal ≡ take (length st.store.journal + 1 - 1) (st.store.journal ++ commit_of client t ∷ [])
      before =
          let same : length st.store.journal + 1 - 1 ≡ length st.store.journal = omega arith in
          rw (same, take-append-le {A = Commit} (length st.store.journal) st.store.journal (commit_of client t ∷ []) (omega arith))
          (sym (take-length st.store.journal))

  pub conflict_due : (t : Transaction) (conflict : Conflict) (group : KeyParts) → IsSession st s → s.transaction ≡ Some t
      → conflict_of st.store.journal t.touched ≡ Some conflict
      → option_map (λ (x : Touch). x.group) (slice_get t.touched conflict.group) ≡ Some group
      → IsDuePlan st s client call.Commit [] (body.Conflict conflict.commit group conflict.place) (effect.EndAt conflict.place)
  conflict_due t conflict group seen inside is = by (slice_get t.touched conflict.group) refl where
    place : conflict.place ≡ length st.store.journal
    place = conflict-place (last_writer st.store.journal) (length st.store.journal) 0 t.touched conflict is

    whole : take conflict.place st.store.journal ≡ st.store.journal
    whole = ap (λ m. take m st.store.journal) place ∙ take-length st.store.journal

    by : (o : Option Touch) → slice_get t.touched conflict.group ≡ o → option_map (λ (x : Touch). x.group) o ≡ Some group
        → IsDuePlan st s client call.Commit [] (body.Conflict conflict.commit group conflict.place) (effect.EndAt conflict.place)
    by None none named = cc
    by (Some touch) found named = due_unrefused _ _ _ _ _ _ refl
        (keeps-quiet st.store.next call.Commit (body.Conflict conflict.commit group conflict.place) refl) (omega (arith, place))
        (ap no_transaction inside) (λ w x. x) (λ window. rw inside (record {
          place = record { seen = omega (arith, seen.place_within, place); within = omega (arith, place) };
          turn = conflict.group;
          conflict = ap (λ cs. conflict_of cs t.touched) whole ∙ is;
          touched = touch.place;
          named = let same : touch.group ≡ group = cc in found ∙ ap (λ g. Some (record { group = g; place = touch.place })) same;
          ended = refl;
        }))
