-- Lamport's theorem: two chosen entries are the same.
use Rattle.std.proofs.Common.{◌≡◌, ◌≢◌, ◌⊎◌, inl, inr, ℕ, zero, suc, ◌+◌, ◌<◌, ◌≤◌, arith, List, [], ◌∷◌, length, true, false}
use Rattle.std.proofs.Common.{Option, Some, None, cond, nat_le, refl, sym, ap, ◌∙◌, subst}
use Rattle.std.proofs.lemmas.Bool.{cases_lt}
use Rattle.std.proofs.lemmas.Bool.Decides.{eqb_tells, nat_tests}
use Rattle.ds_paxos.specs.declared.message.Content.TheVariants.{Accept, Accepted}
use Rattle.ds_paxos.specs.declared.message.Promised.{Promised}
use Rattle.ds_paxos.specs.declared.message.Proposal.{Proposal}
use Rattle.ds_paxos.specs.Rules.{greatest, later}
use Rattle.ds_paxos.proofs.Facts.{Given, IsChosen, Lawful, Scene, Shown, floor, members_of}
use Rattle.ds_paxos.proofs.Lists.{Member, shared}

-- ---- the greatest of some accepted proposals

later_floor : (p q : Option Proposal) → (floor p ≤ floor (later p q)) × (floor q ≤ floor (later p q))
later_floor None q = (omega arith, omega arith)
later_floor (Some p) None = (omega arith, omega arith)
later_floor (Some p) (Some q) = elim (nat_le q.ballot p.ballot) as (λ b. nat_le q.ballot p.ballot ≡ b → (p.ballot ≤ floor (cond b (Some p) (Some q))) × (q.ballot ≤ floor (cond b (Some p) (Some q)))) [
  | true ↦ λ e. (omega arith, grind (arith, nat_tests))
  | false ↦ λ e. (grind (arith, nat_tests), omega arith)
] refl

-- it is at least as great as each of them
pub greatest_floor : (r : Promised) (rs : List Promised) → Member r rs → floor r.accepted ≤ floor (greatest rs)
greatest_floor r [] m = absurd m
greatest_floor r (s ∷ rs) (inl e) =
    let bound = (later_floor s.accepted (greatest rs)).0 in subst (λ (t : Promised). floor t.accepted ≤ floor (later s.accepted (greatest rs))) (sym e) bound
greatest_floor r (s ∷ rs) (inr m) =
    let bound = (later_floor s.accepted (greatest rs)).1 in omega (arith, greatest_floor r rs m, bound)

later_one : (p q : Option Proposal) → (later p q ≡ p) ⊎ (later p q ≡ q)
later_one None q = inr refl
later_one (Some p) None = inl refl
later_one (Some p) (Some q) = elim (nat_le q.ballot p.ballot) as (λ b. (cond b (Some p) (Some q) ≡ Some p) ⊎ (cond b (Some p) (Some q) ≡ Some q)) [
  | true ↦ inl refl
  | false ↦ inr refl
]

-- it is that of one of them
pub greatest_from : (rs : List Promised) (q : Proposal) → greatest rs ≡ Some q → (r : Promised) × (Member r rs × (r.accepted ≡ Some q))
greatest_from [] q e = absurd (cc e)
greatest_from (s ∷ rs) q e = elim (later_one s.accepted (greatest rs)) [
  | inl first ↦ (s, (inl refl, sym first ∙ e))
  | inr rest ↦ let found = greatest_from rs q (sym rest ∙ e) in (found.0, (inr found.1.0, found.1.1))
]

-- the promise of a member that promised
pub promise_of : (k : ℕ) (rs : List Promised) → Member k (members_of rs) → (r : Promised) × (Member r rs × (r.member ≡ k))
promise_of k [] m = absurd m
promise_of k (s ∷ rs) (inl e) = (s, (inl refl, sym e))
promise_of k (s ∷ rs) (inr m) = let found = promise_of k rs m in (found.0, (inr found.1.0, found.1.1))

members_length : (rs : List Promised) → length (members_of rs) ≡ length rs
members_length [] = refl
members_length (s ∷ rs) = ap suc (members_length rs)

-- ---- agreement

module _ (n : ℕ) (V : List ℕ → Type 0) (x : Scene) (law : Lawful n V x) where
  -- the members that promised are some of the n
  promised_below : (b : ℕ) (rs : List Promised) → Given x b rs → (k : ℕ) → Member k (members_of rs) → k < n
  promised_below b rs given k m =
      let found = promise_of k rs m in
      let told = law.votes.told b found.0 (given.each found.0 found.1.0) in
      subst (λ (j : ℕ). j < n) found.1.1 told.known

  -- Who asks for an entry under a later ballot than the one under which another was chosen has a promise of one who voted for that, and asks
  -- for the entry of a proposal that isn't earlier than it: by induction on the ballot, the same.
  asked_after : (v : List ℕ) (chosen : IsChosen n x v) (w : List ℕ) (b : ℕ) → chosen.ballot < b → (shown : Shown n x b w)
      → (q : Proposal) × ((greatest shown.promises ≡ Some q) × (chosen.ballot ≤ q.ballot))
  asked_after v chosen w b lt shown =
      let k = shared n chosen.voters (members_of shown.promises) chosen.apart shown.given.apart
      (λ j m. law.votes.voter chosen.ballot j (chosen.voted j m)) (promised_below b shown.promises shown.given) chosen.majority
      (let same = members_length shown.promises in let most = shown.majority in omega arith) in
      let found = promise_of k.0 shown.promises k.1.1 in
      let told = law.votes.told b found.0 (shown.given.each found.0 found.1.0) in
      let vote = subst (λ (j : ℕ). x.sent chosen.ballot (Accepted j)) (sym found.1.1) (chosen.voted k.0 k.1.0) in
      let bound = greatest_floor found.0 shown.promises found.1.0 in
      let positive = (law.asks.asks chosen.ballot v chosen.asked).positive in
      let reach : chosen.ballot ≤ floor (greatest shown.promises) =
      elim (cases_lt (floor found.0.accepted) chosen.ballot) [ inl less ↦ absurd (told.silent chosen.ballot less lt vote) | inr more ↦ omega arith ] in
      known (greatest shown.promises) chosen.ballot refl positive reach
    where
      known : (g : Option Proposal) (c : ℕ) → greatest shown.promises ≡ g → 0 < c → c ≤ floor g → (q : Proposal) × ((greatest shown.promises ≡ Some q) × (c ≤ q.ballot))
      known None c e p l = absurd (omega arith)
      known (Some q) c e p l = (q, (e, l))

  -- the entry that is asked for under the ballot of a choice, or a later one, is the chosen one
  later_same : (fuel : ℕ) (v : List ℕ) (chosen : IsChosen n x v) (w : List ℕ) (b : ℕ) → b < chosen.ballot + fuel → chosen.ballot ≤ b
      → x.sent b (Accept w) → v ≡ w
  later_same zero v chosen w b less reach asked = absurd (omega arith)
  later_same (suc fuel) v chosen w b less reach asked = elim (eqb_tells chosen.ballot b) [
    | inl same ↦ law.asks.one b v w (subst (λ (c : ℕ). x.sent c (Accept v)) same.1 chosen.asked) asked
    | inr other ↦
        let apart : chosen.ballot ≢ b = other.1 in
        let shown = (law.asks.asks b w asked).shown in
        let q = asked_after v chosen w b (omega arith) shown in
        let found = greatest_from shown.promises q.0 q.1.0 in
        let told = law.votes.told b found.0 (shown.given.each found.0 found.1.0) in
        let below : q.0.ballot < b = subst (λ (g : Option Proposal). floor g < b) q.1.0 shown.below in
        let enough : chosen.ballot ≤ q.0.ballot = q.1.1 in
        later_same fuel v chosen q.0.entry q.0.ballot (omega arith) enough (told.from q.0 found.1.1) ∙ sym (shown.entry q.0 q.1.0)
  ]

  pub chosen_same : (v w : List ℕ) → IsChosen n x v → IsChosen n x w → v ≡ w
  chosen_same v w one other = elim (cases_lt one.ballot other.ballot) [
    | inl less ↦ later_same (other.ballot + 1) v one w other.ballot (omega arith) (omega arith) other.asked
    | inr more ↦ sym (later_same (one.ballot + 1) w other v one.ballot (omega arith) more one.asked)
  ]

  pub chosen_proposed : (v : List ℕ) → IsChosen n x v → V v
  chosen_proposed v chosen = (law.asks.asks chosen.ballot v chosen.asked).proposed
