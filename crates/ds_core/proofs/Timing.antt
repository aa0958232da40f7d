-- What is said stands on what happened up to then.
use Rattle.ds_core.proofs.Words.{◌≡◌, ◌⊎◌, inl, inr, ℕ, zero, suc, ◌+◌, ◌≤◌, List, [], ◌∷◌, ◌++◌, length, refl, ap, sym, ◌∙◌, subst, arith}
use Rattle.ds_core.proofs.Words.{Bool, true, false, Option, Some, None, length-append, IfSome, slice_get, range_with_len, append-nil}
use Rattle.ds_core.proofs.Words.{length-range_with_len, Commit, Call, Request, Body, acknowledged_in, drawn_by_call, Session, count_of}
use Rattle.ds_core.proofs.Words.{Step, GatheredParts, IsOperationOf, ids_asked, ids_from, ids_of, Shown, missing, AreNumbersOf, Open}
use Rattle.ds_core.proofs.Words.{Happening, Said, Begun, Comes, Ends, nothing_gathered, Occurs, IsTouch, IsCommit, IsCheck, IsView}
use Rattle.ds_core.proofs.Words.{IsIssue, IsTimely, IsGatheredThen, IsOpenThen, IsTouchedThen, OfShard, StandsOn}
use Rattle.ds_core.proofs.Words.{gathered_of}
use Rattle.ds_entity.specs.declared.results.Seen.{Seen}
use Rattle.ds_reply.specs.declared.reply.WriteAt.{WriteAt}
use Rattle.ds_model.specs.Legal.{written_commit}
use Rattle.ds_machine.specs.Told.{AreViewsOf, IsCommitBy, IsCountBy, IsTouchedPlace, IsSeenBy, IsWriteAt}
use Rattle.ds_core.specs.Timelines.{AreViews, IsAppliedThen, IsDrawnThen, IsPrintedThen, IsSeenThen, IsWrittenThen}
use Rattle.ds_entity.specs.declared.results.Seen.TheVariants as seen
use Rattle.ds_request.specs.declared.call.Call.TheVariants as call
use Rattle.ds_reply.specs.declared.reply.Body.TheVariants as body
use Rattle.ds_reply.specs.declared.reply.WriteAt.TheVariants as at
use Rattle.ds_effects.specs.declared.gathered.Step.TheVariants as steps
use Rattle.ds_core.proofs.Lists.{viewed-got}
use Rattle.ds_core.proofs.Occurring.{nothing-gathered}

-- ---- how many commits are acknowledged

added-one : (n first : ℕ) (old new added : List Commit) → n ∷ [] ≡ range_with_len first (length added) → new ≡ old ++ added
    → length new ≡ length old + 1
added-one n first old new added same is =
    let many : 1 ≡ length added = ap (λ (ns : List ℕ). length ns) same ∙ length-range_with_len first (length added) in
    let all : length new ≡ length old + length added = ap (λ (cs : List Commit). length cs) is ∙ length-append old added in
    omega (arith, many, all)

added-none : (first : ℕ) (old new added : List Commit) → [] ≡ range_with_len first (length added) → new ≡ old ++ added → new ≡ old
added-none first old new [] same is = is ∙ append-nil old
added-none first old new (c ∷ added) same is =
    let many : 0 ≡ length (c ∷ added) = ap (λ (ns : List ℕ). length ns) same ∙ length-range_with_len first (length (c ∷ added)) in
    absurd (omega (arith, many))

few-acknowledged : (b : Body) → length (acknowledged_in b) ≤ 1
few-acknowledged (body.Put key (at.Commit n)) = omega arith
few-acknowledged (body.Delete key (at.Commit n)) = omega arith
few-acknowledged (body.Commit n) = omega arith
few-acknowledged _ = omega arith

pub added-few : (first : ℕ) (b : Body) (old new added : List Commit) → acknowledged_in b ≡ range_with_len first (length added)
    → new ≡ old ++ added → (new ≡ old) ⊎ ((c : Commit) × (new ≡ old ++ c ∷ []))
added-few first b old new [] same is = inl (is ∙ append-nil old)
added-few first b old new (c ∷ []) same is = inr (c, is)
added-few first b old new (c ∷ d ∷ added) same is =
    let few = few-acknowledged b in
    let many : length (acknowledged_in b) ≡ length (c ∷ d ∷ added) = ap (λ (ns : List ℕ). length ns) same
    ∙ length-range_with_len first (length (c ∷ d ∷ added)) in
    absurd (omega (arith, few, many))

-- ---- ids

drawn-from : (hs : List Happening) (client count : ℕ) (o : Option ℕ)
    → ((first : ℕ) → o ≡ Some first → Occurs (IsIssue client count first) hs) → IsDrawnThen hs client count (ids_from count o)
drawn-from hs client count None is = tt
drawn-from hs client zero (Some first) is = tt
drawn-from hs client (suc count) (Some first) is = is first refl

drawn-of : (hs : List Happening) (client : ℕ) (c : Call) (g : GatheredParts) → IsGatheredThen hs client c g
    → IsDrawnThen hs client (ids_asked c) (ids_of c g)
drawn-of hs client (call.Put key true properties) g is = drawn-from hs client 1 g.first is.first
drawn-of hs client (call.AllocateIds count) g is = drawn-from hs client count g.first is.first
drawn-of hs client _ g is = tt

-- ---- numbers

-- what the step itself is witness of, where a reply is given at it
pub record IsOwn (hs : List Happening) (s : Step) (client : ℕ) (st : Shown) (new : List Commit) : Type 0 where
  pub commits : s ≡ steps.Commit → length new ≡ length st.journal + 1 → Occurs (IsCommit client (length st.journal + 1)) hs
  pub checks : s ≡ steps.Commit → new ≡ st.journal → Occurs (IsCheck client (length st.journal)) hs
  pub views : (shard : ℕ) → s ≡ steps.View shard → Occurs (IsView client shard (count_of st.counts shard)) hs

module _ (hs : List Happening) (client : ℕ) (c : Call) (g : GatheredParts) (s : Session) (are : IsGatheredThen hs client c g)
    (touches : IsTouchedThen hs client s) where
  place-then : (place : ℕ) → IsTouchedPlace s g place → Occurs (IsTouch client place) hs
  place-then place (inl is) = are.place place is
  place-then place (inr (group, is)) = touches group place is

  views-then : (counts : List ℕ) → AreViewsOf g counts → AreViews hs client counts
  views-then counts same shard below =
      are.views shard (count_of counts shard) (ap (λ vs. slice_get vs shard) (sym same) ∙ viewed-got counts shard below)

  looked-then : (looked : Seen) → IsSeenBy s g looked → IsSeenThen hs client looked
  looked-then (seen.Place m) is = place-then m is
  looked-then (seen.Counts counts) is = views-then counts is

  module _ (step : Step) (st : Shown) (new : List Commit) (own : IsOwn hs step client st new) (first : ℕ) (added : List Commit)
      (is_added : new ≡ st.journal ++ added) where
    commit-then : (n : ℕ) → n ∷ [] ≡ range_with_len first (length added) → IsCommitBy st step n
        → Occurs (IsCommit client n) hs
    commit-then n told is =
        subst (λ k. Occurs (IsCommit client k) hs) (sym is.1)
        (own.commits is.0 (added-one n first st.journal new added told is_added))

    written-then : (written : WriteAt) → written_commit written ≡ range_with_len first (length added)
        → IsWriteAt st s g step written → IsWrittenThen hs client written
    written-then (at.Commit n) told is = commit-then n told is
    written-then (at.Place m) told is = place-then m is

    count-then : (applied : Bool) (count shard : ℕ) → c ≡ call.Apply shard → IsCountBy st g step applied count shard
        → IsAppliedThen hs client applied shard count
    count-then true count shard asks is = are.applied shard count asks is
    count-then false count shard asks is =
        subst (λ k. Occurs (IsView client shard k) hs) (sym is.1) (own.views shard is.0)

    printed-then : (b : Body) → acknowledged_in b ≡ range_with_len first (length added) → OfShard c b
        → AreNumbersOf st s g step b → IsPrintedThen hs client b
    printed-then (body.Put key written) told asks is = written-then written told is
    printed-then (body.Delete key written) told asks is = written-then written told is
    printed-then (body.Get entity m) told asks is = place-then m is
    printed-then (body.Query select results looked cursor) told asks is = looked-then looked is
    printed-then (body.Gql select results looked cursor) told asks is = looked-then looked is
    printed-then (body.Commit n) told asks is = commit-then n told is
    printed-then (body.Conflict commit group m) told asks is =
        subst (λ k. Occurs (IsCheck client k) hs) (sym is.1)
        (own.checks is.0 (added-none first st.journal new added told is_added))
    printed-then (body.Settle m counts) told asks is = (are.place m is.0, views-then counts is.1)
    printed-then (body.Apply applied count m shard) told asks is = (are.place m is.0, count-then applied count shard asks is.1)
    printed-then _ told asks is = tt

-- ---- what is said

pub stands-then : (hs : List Happening) (client : ℕ) (step : Step) (g : GatheredParts) (x : Said) (s later : Session) (st : Shown)
    (new : List Commit) → StandsOn client step g x s later st.journal new → AreNumbersOf st s g step x.reply.body
    → IsOwn hs step client st new → IsGatheredThen hs client x.request.call g → IsTouchedThen hs client s
    → IsTouchedThen hs client later × IsTimely hs (Some x)
stands-then hs client step g x s later st new stands numbers own are touched = (
  λ group place is. place-then hs client x.request.call g s are touched place (stands.touches group place is),
  subst (λ n. IsPrintedThen hs n x.reply.body × IsDrawnThen hs n (ids_asked x.request.call) (drawn_by_call x.request.call x.reply.body))
      (sym stands.own) (
        printed-then hs client x.request.call g s are touched step st new own (length st.journal + 1) stands.added stands.journal
            x.reply.body stands.acknowledges stands.shard numbers,
        rw stands.draws (drawn-of hs client x.request.call g are),
      ),
)

-- once a request may have opened
pub opened-then : (hs : List Happening) (client : ℕ) (st : Shown) (s later : Session) (new : List Commit) (o : Option Open)
    (begins : Option Request) (said : Option Said) (now : Option Open) → Begun st s o begins said now
    → IfSome said (λ x. StandsOn client steps.Touch (nothing_gathered st.shards) x s later st.journal new) → (said ≡ None → later ≡ s)
    → IsOpenThen hs client o → IsTouchedThen hs client s
    → IsOpenThen hs client now × IsTouchedThen hs client later × IsTimely hs said
opened-then hs client st s later new (Some o) begins None now is stands quiet was touched =
    (subst (IsOpenThen hs client) (sym is.1) was, subst (IsTouchedThen hs client) (sym (quiet refl)) touched, tt)
opened-then hs client st s later new None None None now is stands quiet was touched =
    (subst (IsOpenThen hs client) (sym is.1) tt, subst (IsTouchedThen hs client) (sym (quiet refl)) touched, tt)
opened-then hs client st s later new None (Some r) None None is stands quiet was touched = absurd is
opened-then hs client st s later new None (Some r) None (Some p) is stands quiet was touched = (
  (
    subst (λ (x : Request). IsOperationOf x.call p.work.operation) (sym is.0) is.1,
    subst (IsGatheredThen hs client p.request.call) (sym is.2) (nothing-gathered hs client p.request.call st.shards),
  ),
  subst (IsTouchedThen hs client) (sym (quiet refl)) touched,
  tt,
)
opened-then hs client st s later new None (Some r) (Some x) None is stands quiet was touched =
    let told = stands-then hs client steps.Touch (nothing_gathered st.shards) x s later st new stands is.1 (record {
      commits = λ at one. cc;
      checks = λ at same. cc;
      views = λ shard at. cc;
    }) (nothing-gathered hs client x.request.call st.shards) touched in
    (tt, told.0, told.1)
opened-then hs client st s later new None (Some r) (Some x) (Some p) is stands quiet was touched = absurd is
opened-then hs client st s later new (Some o) begins (Some x) now is stands quiet was touched = let none = is.0 in cc
opened-then hs client st s later new None None (Some x) now is stands quiet was touched = let none = is.0 in cc

-- once a step was taken
pub advanced-then : (hs : List Happening) (client : ℕ) (step : Step) (st : Shown) (s later : Session) (new : List Commit) (o : Option Open)
    (said : Option Said) (now : Option Open) → Ends st s step o said now
    → IfSome said (λ x. StandsOn client step (gathered_of o) x s later st.journal new) → (said ≡ None → later ≡ s)
    → IsOwn hs step client st new → IsOpenThen hs client o → IsTouchedThen hs client s
    → IsOpenThen hs client now × IsTouchedThen hs client later × IsTimely hs said
advanced-then hs client step st s later new None None now is stands quiet own was touched =
    (subst (IsOpenThen hs client) (sym is.1) tt, subst (IsTouchedThen hs client) (sym (quiet refl)) touched, tt)
advanced-then hs client step st s later new None (Some x) now is stands quiet own was touched = let none = is.0 in cc
advanced-then hs client step st s later new (Some o) said now is stands quiet own was touched =
    by (missing st s o.work.operation o.gathered step) said is stands quiet
  where
    by : (next : Option Step) (x : Option Said) → Comes next st s step o x now
        → IfSome x (λ y. StandsOn client step o.gathered y s later st.journal new) → (x ≡ None → later ≡ s)
        → IsOpenThen hs client now × IsTouchedThen hs client later × IsTimely hs x
    by (Some next) None is stands quiet =
        (subst (IsOpenThen hs client) (sym is.1) was, subst (IsTouchedThen hs client) (sym (quiet refl)) touched, tt)
    by (Some next) (Some x) is stands quiet = let none = is.0 in cc
    by None None is stands quiet = absurd is
    by None (Some x) is stands quiet =
        let told = stands-then hs client step o.gathered x s later st new stands is.2 own
        (subst (λ (r : Request). IsGatheredThen hs client r.call o.gathered) (sym is.0) was.1) touched in
        (subst (IsOpenThen hs client) (sym is.1) tt, told.0, told.1)
