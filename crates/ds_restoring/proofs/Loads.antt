-- Commits of a serial history, taken one after another.
use Rattle.std.proofs.Common.{◌≡◌, List, [], ◌∷◌, ◌++◌, length, take, refl, ap, sym, ◌∙◌, subst}
use Rattle.std.specs.Prelude.{Some, slice_get}
use Rattle.std.proofs.Math.Seq.{take-append_seam}
use Rattle.ds_log.specs.declared.Commit.{Commit}
use Rattle.ds_log.specs.Conflicts.{IsCommitted, IsSerial}

stands-there : (front : List Commit) (c : Commit) (more : List Commit) → slice_get (front ++ c ∷ more) (length front) ≡ Some c
stands-there [] c more = refl
stands-there (b ∷ front) c more = stands-there front c more

module _ (front : List Commit) (c : Commit) (more all : List Commit) (whole : front ++ c ∷ more ≡ all) where
  pub next_committed : IsSerial all → IsCommitted front c
  next_committed serial =
      subst (λ before. IsCommitted before c) (ap (take (length front)) (sym whole) ∙ take-append_seam front (c ∷ more))
      (serial (length front) c (subst (λ js. slice_get js (length front) ≡ Some c) whole (stands-there front c more)))
