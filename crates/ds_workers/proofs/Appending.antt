-- The step that puts an entry behind a history keeps the rule of the history.
use Rattle.std.proofs.Common.{◌≡◌, ℕ, ◌+◌, ◌<◌, ◌==◌, Bool, true, false, List, [], ◌∷◌, ◌++◌, length, refl, ap, sym, subst, arith, inl}
use Rattle.std.proofs.Common.{length-append, None}
use Rattle.std.proofs.lemmas.List.{append-nil}
use Rattle.std.proofs.lemmas.Bool.Decides.{nat_tests}
use mathlib.Core.List.{IsPrefix}
use prog.Atomic.{either}
use Rattle.logbook.specs.Pages.{Cell, cell, keeps, no_nib, step, Moves, Goes}
use Rattle.ds_workers.specs.Marks.{IsCounted, Appended}
use Rattle.ds_workers.proofs.Beginnings.{whole_beginning}

module _ {E : Type 0} where
  abbrev shown : List E → List E
  shown log = []

  abbrev moved : List E → List E → ℕ → Type 0
  moved before after answer = Unit {0}

  appending : (log v : List E) (e : E) (old : ℕ) → length v ≡ old → IsPrefix v log → (b : Bool) → (length log == old) ≡ b
      → Goes IsCounted shown moved 0 (v, (no_nib, None)) (λ n. either (n == old) (old + 1) n)
      (Appended (step 0 old (old + 1) e) (v, (no_nib, None))) ((length log, true) ∷ (0, true) ∷ []) log
  appending log v e old len pre true is =
      let here : length log ≡ old = grind (arith, nat_tests) in
      let same : v ≡ log = whole_beginning v log pre (omega (arith, here, len)) in
      let n : either (length log == old) (old + 1) (length log) ≡ length (log ++ e ∷ []) =
      rw is (omega (arith, here, length-append log (e ∷ []))) in (
        keeps,
        e ∷ [],
        None,
        tt,
        ap (λ (k : ℕ). (k, true) ∷ (0, true) ∷ []) n,
        inl (refl, refl),
        rw is (ap (λ w. w ++ e ∷ []) (sym same)),
      )
  appending log v e old len pre false is =
      let n : either (length log == old) (old + 1) (length log) ≡ length (log ++ []) = rw is (ap length (sym (append-nil log))) in (
        keeps,
        [],
        None,
        tt,
        ap (λ (k : ℕ). (k, true) ∷ (0, true) ∷ []) n,
        inl (refl, refl),
        rw is tt,
      )

  -- whatever the history is, the exchange puts the entry behind all that was known, or finds more entries
  pub appends : (v : List E) (e : E) (old : ℕ) → length v ≡ old
      → Moves IsCounted shown moved 0 (v, (no_nib, None)) (λ n. either (n == old) (old + 1) n)
      (Appended (step 0 old (old + 1) e) (v, (no_nib, None)))
  appends v e old len cs log kept pre away =
      let P : List Cell → Type 0 = λ c. (0 < length c) × ((cell c 0).1 ≡ true)
      × Goes IsCounted shown moved 0 (v, (no_nib, None)) (λ n. either (n == old) (old + 1) n)
      (Appended (step 0 old (old + 1) e) (v, (no_nib, None))) c log in
      subst P (sym kept) (omega arith, refl, appending log v e old len pre (length log == old) refl)
