-- The exchange that announces an operation keeps the rule of the history.
use Rattle.std.proofs.Common.{◌≡◌, ℕ, ◌+◌, ◌<◌, ◌==◌, Bool, true, false, List, [], ◌∷◌, ◌++◌, length, refl, ap, sym, subst, arith, inl}
use Rattle.std.proofs.Common.{length-append, None}
use Rattle.std.proofs.lemmas.List.{append-nil}
use Rattle.std.proofs.lemmas.Bool.Decides.{nat_tests}
use mathlib.Core.List.{IsPrefix}
use prog.Atomic.{either}
use Rattle.logbook.specs.Pages.{Cell, cell, keeps, no_nib, step, Moves, Goes}
use Rattle.ds_hub.specs.Line.{IsCounted, Announced}
use Rattle.ds_hub.proofs.Beginnings.{begins_whole}

module _ {E : Type 0} where
  abbrev pub shown : List E → List E
  shown log = []

  abbrev pub moved : List E → List E → ℕ → Type 0
  moved before after answer = Unit {0}

  pub announcing : (log v : List E) (op : E) (old : ℕ) → length v ≡ old → IsPrefix v log
      → (b : Bool) → (length log == old) ≡ b
      → Goes IsCounted shown moved 0 (v, (no_nib, None)) (λ n. either (n == old) (old + 1) n) (Announced (step 0 old (old + 1) op) (v, (no_nib, None))) ((length log, true) ∷ (0, true) ∷ []) log
  announcing log v op old len pre true is =
      let here : length log ≡ old = grind (arith, nat_tests) in
      let same : v ≡ log = begins_whole v log pre (omega arith) in
      let n : either (length log == old) (old + 1) (length log) ≡ length (log ++ op ∷ []) = rw is (omega (arith, length-append log (op ∷ []))) in (
        keeps,
        op ∷ [],
        None,
        tt,
        ap (λ (k : ℕ). (k, true) ∷ (0, true) ∷ []) n,
        inl (refl, refl),
        rw is (ap (λ w. w ++ op ∷ []) (sym same)),
      )
  announcing log v op old len pre false is =
      let n : either (length log == old) (old + 1) (length log) ≡ length (log ++ []) = rw is (ap length (sym (append-nil log))) in (
        keeps,
        [],
        None,
        tt,
        ap (λ (k : ℕ). (k, true) ∷ (0, true) ∷ []) n,
        inl (refl, refl),
        rw is tt,
      )

  -- whatever the history is, the exchange puts the operation behind all that was known, or finds more operations
  pub announces : (v : List E) (op : E) (old : ℕ) → length v ≡ old
      → Moves IsCounted shown moved 0 (v, (no_nib, None)) (λ n. either (n == old) (old + 1) n) (Announced (step 0 old (old + 1) op) (v, (no_nib, None)))
  announces v op old len cs log kept pre away =
      let P : List Cell → Type 0 = λ c. (0 < length c) × ((cell c 0).1 ≡ true) × Goes IsCounted shown moved 0 (v, (no_nib, None)) (λ n. either (n == old) (old + 1) n) (Announced (step 0 old (old + 1) op) (v, (no_nib, None))) c log in
      subst P (sym kept) (omega arith, refl, announcing log v op old len pre (length log == old) refl)
