-- What follows for whoever keeps something on a disk: how a run of calls goes on, and what unsynced writes and cuts leave.
use Rattle.std.specs.Prelude.{ℕ, List}
use Rattle.std.proofs.Common.{inl, inr, ⊎_elim, arith, subst}
use Rattle.ds_disk.specs.Crashes.{Follows, Only, Elapses, LeavesOnly}

module _ {D : Type 0} (moment : D → ℕ) (left_since : D → ℕ → List ℕ → Type 0) where
  -- before the first call
  pub started : (old : D) (P : List ℕ → Type 0) → ((image : List ℕ) → left_since old (moment old) image → P image)
      → LeavesOnly moment left_since old old P
  started old P here = record { later = omega arith; each = here; before = λ t image le left. inl left }

  -- one call more, after which a crash leaves what has P
  pub goes_on : (old mid new : D) (P images : List ℕ → Type 0) → LeavesOnly moment left_since old mid P
      → Elapses (moment mid) (moment new) (left_since mid) (left_since new) images
      → ((image : List ℕ) → images image → P image) → LeavesOnly moment left_since old new P
  goes_on old mid new P images so_far time here = record {
    later = omega (arith, so_far.later, time.later);
    each = λ image left. ⊎_elim (so_far.each image) (here image) (time.nothing_else (moment old) image so_far.later left);
    before = λ t image le left.
        ⊎_elim (so_far.before t image le) (λ now. inr (here image now)) (time.nothing_else t image (omega (arith, le, so_far.later)) left);
  }

  -- a run of calls behind another
  pub joined : (old mid new : D) (P Q : List ℕ → Type 0) → LeavesOnly moment left_since old mid P → LeavesOnly moment left_since mid new Q
      → ((image : List ℕ) → Q image → P image) → LeavesOnly moment left_since old new P
  joined old mid new P Q first second weaker = record {
    later = omega (arith, first.later, second.later);
    each = λ image left. ⊎_elim (first.each image) (weaker image) (second.before (moment old) image first.later left);
    before = λ t image le left.
        ⊎_elim (first.before t image le) (λ here. inr (weaker image here)) (second.before t image (omega (arith, le, first.later)) left);
  }

  -- what has P has Q
  pub weakened : (old new : D) (P Q : List ℕ → Type 0) → LeavesOnly moment left_since old new P → ((image : List ℕ) → P image → Q image)
      → LeavesOnly moment left_since old new Q
  weakened old new P Q run weaker = record {
    later = run.later;
    each = λ image left. weaker image (run.each image left);
    before = λ t image le left. ⊎_elim (λ was. inl was) (λ here. inr (weaker image here)) (run.before t image le left);
  }

-- a step behind a sync is a step from the contents
pub from_only : (contents : List ℕ) (step : List ℕ → List ℕ → Type 0) (old new : List ℕ → Type 0) → Only contents old → Follows step old new
    → (image : List ℕ) → new image → step contents image
from_only contents step old new only follows image now =
    let from = follows image now in
    subst (λ before. step before image) (only from.0 from.1) from.2
