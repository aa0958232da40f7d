-- The next ballot of a member is its own, above the given one, and the least such.
use Rattle.std.proofs.Common.{◌≡◌, ℕ, ◌+◌, ◌-◌, ◌*◌, ◌/◌, ◌%◌, ◌<◌, ◌≤◌, inl, inr, arith, sym, ap, ◌∙◌, mod-lt, mod-eq_of_lt, mul-le-mul_left, mul-add, add-one-le}
use Rattle.std.proofs.lemmas.Bool.{cases_lt}
use Rattle.std.proofs.lemmas.Nat.{mod-mul-add}
use Rattle.std.proofs.Math.Nat.{div-add-mod, add-mod_right}
use Rattle.ds_paxos.specs.Ballots.{IsNextBallot, next_ballot}

-- how far the next number of a member is from c, in the round of n
distance : (n m c : ℕ) → m < n → (d : ℕ) × ((((m + n) - c % n) % n ≡ d) × (d < n) × ((c + d) % n ≡ m))
distance n m c less = elim (cases_lt m (c % n)) [
  | inl below ↦
      let r = mod-lt c {m = n} (omega arith) in
      let whole = div-add-mod c n in
      let e : ((m + n) - c % n) % n ≡ (m + n) - c % n = mod-eq_of_lt (omega arith) in (
        (m + n) - c % n,
        (
          e,
          omega arith,
          (let split : c + ((m + n) - c % n) ≡ (c / n + 1) * n + m = grind (arith, whole) in
              ap (λ (k : ℕ). k % n) split ∙ mod-mul-add (c / n + 1) n m less),
        ),
      )
  | inr above ↦
      let r = mod-lt c {m = n} (omega arith) in
      let whole = div-add-mod c n in
      let turn : (m + n) - c % n ≡ (m - c % n) + n = omega arith in
      let e : ((m + n) - c % n) % n ≡ m - c % n = ap (λ (k : ℕ). k % n) turn ∙ add-mod_right (m - c % n) n ∙ mod-eq_of_lt (omega arith) in (
        m - c % n,
        (
          e,
          omega arith,
          (let split : c + (m - c % n) ≡ (c / n) * n + m = grind (arith, whole) in
              ap (λ (k : ℕ). k % n) split ∙ mod-mul-add (c / n) n m less),
        ),
      )
]

pub next_own : (n m above : ℕ) → m < n → (next_ballot n m above % n ≡ m) × (above < next_ballot n m above)
next_own n m above less =
    let d = distance n m (above + 1) less in
    let same : next_ballot n m above ≡ (above + 1) + d.0 = ap (λ (k : ℕ). (above + 1) + k) d.1.0 in
    (ap (λ (k : ℕ). k % n) same ∙ d.1.2, omega arith)

-- two numbers of one member, less than a round behind the same, are one
one_turn : (n c d e : ℕ) → d < n → e ≤ d → (c + e) % n ≡ (c + d) % n → d ≤ e
one_turn n c d e less below same = elim (cases_lt ((c + e) / n) ((c + d) / n)) [
  | inl turns ↦
      let one = div-add-mod (c + e) n in let other = div-add-mod (c + d) n in
      let grown = mul-le-mul_left n (add-one-le turns) in let spread = mul-add n ((c + e) / n) 1 in
      absurd (omega arith)
  | inr stays ↦
      let one = div-add-mod (c + e) n in let other = div-add-mod (c + d) n in let bound = mul-le-mul_left n stays in omega arith
]

pub next_least : (n m above : ℕ) → m < n → IsNextBallot n m above (next_ballot n m above)
next_least n m above less = (own.1, own.0, least)
  where
    own : (next_ballot n m above % n ≡ m) × (above < next_ballot n m above)
    own = next_own n m above less

    least : (other : ℕ) → above < other → other % n ≡ m → next_ballot n m above ≤ other
    least other more its = elim (cases_lt other (next_ballot n m above)) [
      | inl before ↦
          let d = distance n m (above + 1) less in
          let turn : (above + 1) + (other - (above + 1)) ≡ other = omega arith in
          let at : next_ballot n m above ≡ (above + 1) + d.0 = ap (λ (k : ℕ). (above + 1) + k) d.1.0 in
          let within = one_turn n (above + 1) d.0 (other - (above + 1)) d.1.1 (omega arith)
          (ap (λ (k : ℕ). k % n) turn ∙ its ∙ sym d.1.2) in
          omega arith
      | inr after ↦ after
    ]
