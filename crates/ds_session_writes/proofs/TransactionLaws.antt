-- Transactions: their beginning, their commit, and how they end.
use Rattle.std.proofs.Common.{◌≡◌, ℕ, ◌-◌, ◌<◌, ◌≤◌, List, [], ◌∷◌, length, take, refl, ap, sym, ◌∙◌, subst, arith, Bool}
use Rattle.std.proofs.Common.{Option, Some, None}
use Rattle.std.specs.Prelude.{Ok, slice_get}
use Rattle.std.proofs.lemmas.List.{take_all}
use Rattle.std.proofs.lemmas.List.Elements.{All-nil}
use Rattle.std.proofs.Math.Seq.{take-append_seam}
use Rattle.ds_indexdef.specs.declared.IndexDef.{IndexDef}
use Rattle.ds_log.specs.declared.Conflict.{Conflict}
use Rattle.ds_log.specs.declared.Touch.{Touch}
use Rattle.ds_log.specs.Conflicts.{IsCommitted, conflict_of}
use Rattle.ds_request.specs.declared.call.Call.TheVariants as call
use Rattle.ds_reply.specs.declared.reply.Body.TheVariants as body
use Rattle.ds_model.specs.Answers.{TransactionAnswers, begun, commit_of}
use Rattle.ds_model.specs.Groups.{with_transaction}
use Rattle.ds_model.specs.Refusals.{refusal_of}
use Rattle.ds_model.specs.Sessions.{Session, Transaction, saw_place}
use Rattle.ds_store.specs.Answered.{IsAppended, IsConflict}
use Rattle.ds_store.specs.Passes.{PassParts, HasRead}
use Rattle.ds_session_state.specs.Answering.{HasSaid}
use Rattle.ds_session_state.specs.Sessions.{IsWithin, world_seen}
use Rattle.ds_session_state.proofs.GrowthLaws.{grown_by_reading}
use Rattle.ds_session_state.proofs.SayingLaws.{call_answers, said_quietly}
use Rattle.ds_session_state.proofs.SeeingLaws.{within_later, within_place, within_transaction}
use Rattle.ds_session_writes.proofs.WrittenLaws.{appended_at, grown_appended, within_appended}

module _ (definitions : List IndexDef) (shards : ℕ) (window : Option ℕ) (client : ℕ) (s : Session) (p q : PassParts)
    (within : IsWithin s p) where
  later : HasRead p q → IsWithin s q
  later h = within_later s p q (grown_by_reading p q h) within

  pub has_begun : (several_groups : Bool) → refusal_of definitions s (call.Begin several_groups) ≡ None → HasRead p q
      → HasSaid definitions shards window p q s (with_transaction (Some (begun several_groups)) s)
      (Ok (record { client = client; call = call.Begin several_groups })) body.Begin
  has_begun several_groups unrefused h =
      said_quietly definitions shards window p q s (with_transaction (Some (begun several_groups)) s)
      (Ok (record { client = client; call = call.Begin several_groups })) body.Begin refl h
      (within_transaction s q (Some (begun several_groups))
      (All-nil (λ (touch : Touch). (touch.place ≤ length q.journal) × (touch.place ≤ q.place)), All-nil _) (later h))
      (call_answers (world_seen definitions shards window q) s (with_transaction (Some (begun several_groups)) s)
      (record { client = client; call = call.Begin several_groups }) body.Begin refl unrefused refl)

  pub rolled_back : refusal_of definitions s call.Rollback ≡ None → HasRead p q
      → HasSaid definitions shards window p q s (with_transaction None s) (Ok (record { client = client; call = call.Rollback }))
      body.Rollback
  rolled_back unrefused h =
      said_quietly definitions shards window p q s (with_transaction None s)
      (Ok (record { client = client; call = call.Rollback })) body.Rollback refl h (within_transaction s q None tt (later h))
      (call_answers (world_seen definitions shards window q) s (with_transaction None s)
      (record { client = client; call = call.Rollback }) body.Rollback refl unrefused refl)

  pub committed : (t : Transaction) (n : ℕ) → refusal_of definitions s call.Commit ≡ None → s.transaction ≡ Some t
      → IsAppended p q (commit_of client t) n []
      → HasSaid definitions shards window p q s (saw_place n (with_transaction None s))
      (Ok (record { client = client; call = call.Commit })) (body.Commit n)
  committed t n unrefused inside done = record {
    answers =
        (call_answers (world_seen definitions shards window q) s (saw_place n (with_transaction None s))
        (record { client = client; call = call.Commit }) (body.Commit n) refl unrefused
        (subst (λ o. TransactionAnswers (world_seen definitions shards window q) client s o (body.Commit n)
        (saw_place n (with_transaction None s)))
        (sym inside) (record {
          later = omega (arith, within.place, done.later);
          committed = appended_at p q (commit_of client t) n [] done;
          serial = subst (λ cs. IsCommitted cs (commit_of client t)) (sym front) done.committed;
          ended = refl;
        })));
    grown = grown_appended p q (commit_of client t) n [] done;
    commits = done.commits;
    draws = done.draws;
    accepts = All-nil (λ id. id < q.next);
    prints = All-nil (λ next. next ≤ q.next);
    within = within_appended p q (commit_of client t) n [] done (with_transaction None s) (within_transaction s p None tt within);
  } where
    front : take (n - 1) q.journal ≡ done.front
    front =
        let here : n - 1 ≡ length done.front = omega (arith, done.number) in
        ap (λ i. take i q.journal) here ∙ ap (λ cs. take (length done.front) cs) done.journal
        ∙ take-append_seam done.front (commit_of client t ∷ [])

  pub has_conflict : (t : Transaction) (conflict : Conflict) (touch : Touch) → refusal_of definitions s call.Commit ≡ None
      → s.transaction ≡ Some t
      → slice_get t.touched conflict.group ≡ Some touch → IsConflict p q t.touched conflict
      → HasSaid definitions shards window p q s (saw_place conflict.place (with_transaction None s))
      (Ok (record { client = client; call = call.Commit })) (body.Conflict conflict.commit touch.group conflict.place)
  has_conflict t conflict touch unrefused inside named is =
      said_quietly definitions shards window p q s (saw_place conflict.place (with_transaction None s))
      (Ok (record { client = client; call = call.Commit })) (body.Conflict conflict.commit touch.group conflict.place) refl is.looked.read
      (within_place (with_transaction None s) q conflict.place (omega (arith, is.looked.stands))
      (within_transaction s q None tt (later is.looked.read)))
      (call_answers (world_seen definitions shards window q) s (saw_place conflict.place (with_transaction None s))
      (record { client = client; call = call.Commit }) (body.Conflict conflict.commit touch.group conflict.place) refl unrefused
      (subst (λ o. TransactionAnswers (world_seen definitions shards window q) client s o (body.Conflict conflict.commit touch.group
      conflict.place)
      (saw_place conflict.place (with_transaction None s))) (sym inside) (record {
        place = record {
          seen = omega (arith, within.place, is.looked.read.place, is.looked.stands);
          within = omega (arith, is.looked.whole);
        };
        turn = conflict.group;
        conflict = ap (λ cs. conflict_of cs t.touched) (take_all conflict.place q.journal (omega (arith, is.looked.whole))) ∙ is.is;
        touched = touch.place;
        named = named;
        ended = refl;
      })))
