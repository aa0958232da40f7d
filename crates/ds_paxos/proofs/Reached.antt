-- What is true of each world that some events led to, and that a step leads on.
use Rattle.std.proofs.Common.{◌≡◌, ℕ, ◌<◌, ◌≤◌, inl, inr, arith, List, [], ◌∷◌, ◌++◌, length, get_or, Option, Some, None, IfSome, option_copied, Bor, Result, Ok, Err, OnOk, OnErr, refl, sym, ap, ◌∙◌, subst, zero, suc}
use Rattle.ds_paxos.specs.declared.event.Event.{Event}
use Rattle.ds_paxos.specs.declared.event.StepRefused.{StepRefused}
use Rattle.ds_paxos.specs.Runs.{Agree, IsReached, IsWorld, after_all, after_step, run}
use Rattle.ds_paxos.specs.Worlds.{AreForMembers, WorldParts, fresh, held_by, step_of}
use Rattle.ds_paxos.proofs.Lists.{Member}
use Rattle.ds_paxos.proofs.Safe.{agree, of_events, safe_fresh, safe_run}
use Rattle.ds_paxos.proofs.Scenes.{Safe}

member_at : {A : Type 0} (xs : List A) (k : ℕ) (d : A) → k < length xs → Member (get_or xs k d) xs
member_at [] k d less = absurd (omega arith)
member_at (x ∷ xs) zero d less = inl refl
member_at (x ∷ xs) (suc k) d less = inr (member_at xs k d (omega arith))

one_more : (w : WorldParts) (events : List Event) (event : Event)
    → after_all w (events ++ event ∷ []) ≡ after_step (after_all w events) (step_of (after_all w events) event)
one_more w [] event = refl
one_more w (e ∷ es) event = one_more (after_step w (step_of w e)) es event

-- what is true after all events is true of a world that some led to
of_run : (P : WorldParts → Type 0) (w : WorldParts) → IsReached w → ((n : ℕ) (events : List Event) → P (run n events)) → P w
of_run P w reached each = subst P reached.1 (each (length w.members) reached.0)

pub reached_agree : (w : WorldParts) → IsWorld w → Agree w
reached_agree w known = of_run Agree w known.1 (λ n events. agree n (of_events events) (run n events) (safe_run n events))

pub reached_addressed : (w : WorldParts) → IsWorld w → AreForMembers w
reached_addressed w known = of_run AreForMembers w known.1 (λ n events. for_members n events (safe_run n events))
  where
    for_members : (n : ℕ) (events : List Event) → Safe n (of_events events) (run n events) → AreForMembers (run n events)
    for_members n events safe = λ k d less.
        let below = safe.addressed (get_or (run n events).sent k d) (member_at (run n events).sent k d less) in
        let size = safe.size in omega arith

pub reached_fresh : (n : ℕ) → n ≤ 9 → IsWorld (fresh n)
reached_fresh n most =
    let size = (safe_fresh n (λ p v. Unit {0})).size in
    (omega arith, ([], ap fresh size))

pub reached_step : (w next : WorldParts) (event : Event) → IsWorld w → step_of w event ≡ Ok next → IsWorld next
reached_step w next event known taken =
    let events = known.1.0 in
    let ran : run (length w.members) (events ++ event ∷ []) ≡ next =
    one_more (fresh (length w.members)) events event
    ∙ ap (λ (v : WorldParts). after_step v (step_of v event)) known.1.1 ∙ ap (after_step w) taken in
    let size : length next.members ≡ length w.members =
    sym (ap (λ (v : WorldParts). length v.members) ran) ∙ (safe_run (length w.members) (events ++ event ∷ [])).size in
    (let most = known.0 in omega arith, (events ++ event ∷ [], subst (λ (k : ℕ). run k (events ++ event ∷ []) ≡ next) (sym size) ran))

-- who else holds an entry there holds the same
pub held_agreed : (w : WorldParts) (member log position : ℕ) (found : Option (Bor (List ℕ))) → IsWorld w
    → option_copied found ≡ held_by w member log position
    → IfSome found (λ entry. (other : ℕ) (second : List ℕ) → held_by w other log position ≡ Some second → second ≡ entry.now)
held_agreed w member log position None known e = tt
held_agreed w member log position (Some entry) known e = λ other second f. reached_agree w known other member log position second entry.now f (sym e)

pub reached_after : (w next : WorldParts) (event : Event) (r : Result (Unit {0}) StepRefused) → IsWorld w → OnOk r (step_of w event ≡ Ok next)
    → OnErr r (next ≡ w) → IsWorld next
reached_after w next event (Ok done) known taken unchanged = reached_step w next event known taken
reached_after w next event (Err refused) known taken unchanged = subst IsWorld (sym unchanged) known
