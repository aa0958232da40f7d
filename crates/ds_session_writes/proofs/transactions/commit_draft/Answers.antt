use Rattle.std.proofs.Common.{◌≡◌, ℕ, ◌≤◌, ◌∙◌, ap, sym, subst, refl, [], Option, None, Some}
use Rattle.std.specs.Prelude.{All}
use Rattle.std.proofs.lemmas.List.Elements.{All-weaker}
use Rattle.ds_log.specs.declared.Commit.{Commit}
use Rattle.ds_log.specs.Ids.{AreIssued}
use Rattle.ds_request.specs.declared.call.Call.TheVariants as call
use Rattle.ds_model.specs.Answers.{commit_of}
use Rattle.ds_model.specs.Sessions.{Session, Transaction}
use Rattle.ds_store.specs.Answered.{IsAppended, IsConflict, WhereConflict}
use Rattle.ds_store.specs.Passes.{PassParts}
use Rattle.ds_session_writes.specs.Committing.{IsCommitOf}
use Rattle.ds_session_state.specs.Sessions.{HasTransaction, IsWithin, SessionParts}
use Rattle.ds_session_state.specs.Standing.{Touched}
use Rattle.ds_session_state.proofs.GrowthLaws.{read_itself}
use Rattle.ds_session_state.proofs.StateLaws.{call_from, unrefused_parts, within_parts, within_read}
use Rattle.ds_session_writes.proofs.transactions.commit_draft.Goals as goal

-- the transaction that asks for the commit
asked_for : (before now : SessionParts) (draft : Commit) → now ≡ before → IsCommitOf before.client before.seen.transaction draft
    → (t : Transaction) × (now.seen.transaction ≡ Some t) × (draft ≡ commit_of now.client t)
asked_for before now draft same is =
    by now.seen.transaction (subst (λ (v : SessionParts). IsCommitOf v.client v.seen.transaction draft) (sym same) is) where
      by : (o : Option Transaction) → IsCommitOf now.client o draft
          → (t : Transaction) × (o ≡ Some t) × (draft ≡ commit_of now.client t)
      by None is = absurd is
      by (Some t) is = (t, refl, is)

-- what a client within its pass asks for is a commit that the store takes
may_commit : (s : Session) (p : PassParts) (client : ℕ) (t : Transaction) (draft : Commit) → IsWithin s p → s.transaction ≡ Some t
    → draft ≡ commit_of client t → All (λ touch. touch.place ≤ p.place) draft.touched × AreIssued p.next draft.writes
may_commit s p client t draft within inside is =
    let has : HasTransaction p (Some t) = subst (HasTransaction p) inside within.transaction in
    subst (λ (d : Commit). All (λ touch. touch.place ≤ p.place) d.touched × AreIssued p.next d.writes) (sym is)
    (All-weaker (λ touch. Touched p touch.place) (λ touch. touch.place ≤ p.place) (λ touch both. both.1) t.touched has.0, has.1)

pub commit-requires-clause-touched : goal.commit-requires-clause-touched
commit-requires-clause-touched g c =
    let asked = asked_for _ _ c.args.draft c.state.view_is c.requires.asked in
    (may_commit _ c.state.inside.pass _ asked.0 c.args.draft (within_parts _ _ c.state.view_is c.requires.within) asked.1 asked.2).0

pub commit-requires-clause-issued : goal.commit-requires-clause-issued
commit-requires-clause-issued g c =
    let asked = asked_for _ _ c.args.draft c.state.view_is c.requires.asked in
    (may_commit _ c.state.inside.pass _ asked.0 c.args.draft (within_parts _ _ c.state.view_is c.requires.within) asked.1 asked.2).1

pub refuse_commit-requires-clause-within : goal.refuse_commit-requires-clause-within
refuse_commit-requires-clause-within g c = within_read _ _ _ c.state.view_is c.requires.within c.in-Err.ensures.read

pub returns-in-Ok : goal.returns-in-Ok
returns-in-Ok g c =
    let asked = asked_for _ _ c.args.draft c.state.view_is c.requires.asked in
    call_from _ _ _ _ _ _ _ c.state.view_is _ _ _ refl refl refl (read_itself _)
    (c.tell_commit.ensures c.state.inside.pass asked.0 _ (within_parts _ _ c.state.view_is c.requires.within) asked.1
    (unrefused_parts g.J.Names.definitions _ _ call.Commit c.state.view_is c.requires.unrefused)
    (subst (λ (d : Commit). IsAppended c.state.inside.pass c.commit.new.pass d c.in-Ok.commit []) asked.2 c.in-Ok.ensures.ok))

pub returns-in-Err : goal.returns-in-Err
returns-in-Err g c =
    let asked = asked_for _ _ c.args.draft c.state.view_is c.requires.asked in
    call_from _ _ _ _ _ _ _ c.state.view_is _ _ _ refl refl refl (read_itself _)
    (c.refuse_commit.ensures c.state.inside.pass asked.0 _ (within_parts _ _ c.state.view_is c.requires.within) c.in-Err.ensures.read
    asked.1 (ap (λ (d : Commit). d.touched) (c.in-Err.ensures.back ∙ asked.2))
    (unrefused_parts g.J.Names.definitions _ _ call.Commit c.state.view_is c.requires.unrefused)
    (subst (λ (d : Commit). WhereConflict (IsConflict c.state.inside.pass c.commit.new.pass d.touched) c.in-Err.refused.cause) asked.2
    c.in-Err.ensures.conflict))
