-- An open request has a View for each shard, and the journal has its place.
use Rattle.ds_core.proofs.Words.{◌≡◌, ℕ, ◌≤◌, List, [], ◌∷◌, length, refl, sym, subst, arith, Option, Some, None, IfSome, Session}
use Rattle.ds_core.proofs.Words.{IsOperationOf, call_of, IsGathered, IsSession, StateParts, gathered_there, Open, IsLegal, IsOpen}
use Rattle.ds_core.proofs.Words.{MachineParts, open_in, session_in, IsSteppable}
use Rattle.ds_model.specs.Groups.{IsSeenPlace}
use Rattle.ds_machine.specs.Due.{AreViewed}
use Rattle.ds_machine.specs.Opening.{IsUnrefused}
use Rattle.ds_core.proofs.Lists.{get-below}

-- the journal has the place of a request's Touch
pub open-place : (st : StateParts) (client : ℕ) (s : Session) (o : Option Open) → IsOpen st client s o
    → IfSome o (λ p. IfSome p.gathered.place (λ m. m ≤ length st.store.journal))
open-place st client s None is = tt
open-place st client s (Some o) is = by o.gathered.place is.3.place where
  by : (p : Option ℕ) → IfSome p (IsSeenPlace st.store.journal s) → IfSome p (λ m. m ≤ length st.store.journal)
  by None there = tt
  by (Some m) there = there.within

-- of each client
pub open-within : (m : MachineParts) → IsLegal m → (c : ℕ)
    → IfSome (open_in m c) (λ p. IfSome p.gathered.place (λ k. k ≤ length m.state.store.journal))
open-within m legal c = by (open_in m c) refl where
  by : (o : Option Open) → open_in m c ≡ o → IfSome o (λ p. IfSome p.gathered.place (λ k. k ≤ length m.state.store.journal))
  by None has = tt
  by (Some o) has =
      let below = get-below m.opens c o has in
      open-place m.state c (session_in m c) (Some o)
      (subst (IsOpen m.state c (session_in m c)) has (legal.opens c (omega (arith, legal.places, below))).1)

-- ---- views

viewed-length : (cs : List ℕ) (views : List (Option ℕ)) (counts : List ℕ) → AreViewed cs views counts → length views ≡ length counts
viewed-length [] [] [] are = refl
viewed-length (c ∷ cs) (None ∷ views) (a ∷ counts) are = let rest = viewed-length cs views counts are in omega (arith, rest)
viewed-length (c ∷ cs) (Some n ∷ views) (a ∷ counts) are = let rest = viewed-length cs views counts are.2 in omega (arith, rest)
viewed-length _ _ _ are = absurd are

pub open-viewed : (st : StateParts) (client : ℕ) (s : Session) (o : Open) → IsOpen st client s (Some o)
    → length st.applied.counts ≡ st.store.shards → length o.gathered.views ≡ st.store.shards
open-viewed st client s o is many =
    let same = viewed-length s.counts o.gathered.views st.applied.counts is.3.views in
    omega (arith, same, many)

-- what an open request must have for its step and its reply
pub record IsReady (st : StateParts) (s : Session) (o : Open) : Type 0 where
  pub of : IsOperationOf o.request.call o.work.operation
  pub work : IsUnrefused st s o.work.operation o.work.ready
  pub seen : IsSession st s
  pub gathered : IsGathered st s (call_of o.work.operation) o.gathered
  pub views : length o.gathered.views ≡ st.store.shards

pub open-ready : (st : StateParts) (client : ℕ) (s t : Session) (p : Option Open) (o : Open) → t ≡ s → Some o ≡ p → IsSession st s
    → IsOpen st client s p → length st.applied.counts ≡ st.store.shards → IsReady st t o
open-ready st client s t p o same has seen is many =
    let own = subst (IsOpen st client t) (sym has) (subst (λ x. IsOpen st client x p) (sym same) is) in record {
      of = own.4.0;
      work = own.4.1;
      seen = subst (IsSession st) (sym same) seen;
      gathered = gathered_there st t o.work.operation o.request.call o.gathered own.4.0 own.3;
      views = open-viewed st client t o own many;
    }

-- one View for each shard
pub open-steppable : (st : StateParts) (client : ℕ) (s : Session) (o : Option Open) → IsOpen st client s o
    → length st.applied.counts ≡ st.store.shards → IfSome o (λ p. IsSteppable st p.gathered)
open-steppable st client s None is many = tt
open-steppable st client s (Some o) is many =
    record { views = open-viewed st client s o is many; place = open-place st client s (Some o) is }
