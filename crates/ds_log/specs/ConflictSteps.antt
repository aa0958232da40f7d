-- What a walk over touched groups knows: the conflict of those from a place on.
use Rattle.std.specs.Prelude.{◌≡◌, ℕ, ◌+◌, List, [], ◌∷◌, drop, slice_get, Option, Some, None, refl}
use Rattle.std.proofs.Common.{zero, suc, ap, ◌∙◌, arith}
use Rattle.std.specs.Option.{option_or, option_map}
use Rattle.ds_base.specs.Keys.{KeyParts}
use Rattle.ds_log.specs.declared.Touch.{Touch}
use Rattle.ds_log.specs.declared.Conflict.{Conflict}
use Rattle.ds_log.specs.Conflicts.{after_place, conflict_from}

drop_at : (ts : List Touch) (i : ℕ) (t : Touch) → slice_get ts i ≡ Some t → drop i ts ≡ t ∷ drop (suc i) ts
drop_at [] i t at = absurd (nowhere i t at) where
  nowhere : (i : ℕ) (t : Touch) → slice_get [] i ≡ Some t → ⊥
  nowhere i t at = cc
drop_at (u ∷ us) zero t at = let same : u ≡ t = cc in ap (λ v. v ∷ us) same
drop_at (u ∷ us) (suc i) t at = drop_at us i t at

module _ (last : KeyParts → Option ℕ) (place : ℕ) where
  abbrev told : ℕ → ℕ → Conflict
  told i n = record { group = i; commit = n; place = place }

  next : (i : ℕ) (ts : List Touch) (t : Touch) (a : Option ℕ) → slice_get ts i ≡ Some t → after_place t.place (last t.group) ≡ a
      → conflict_from last place i (drop i ts) ≡ option_or (option_map (told i) a) (conflict_from last place (i + 1) (drop (suc i) ts))
  next i ts t a at after =
      ap (conflict_from last place i) (drop_at ts i t at)
      ∙ ap (λ b. option_or (option_map (told i) b) (conflict_from last place (i + 1) (drop (suc i) ts))) after

  -- the group at this place conflicts
  pub conflict_here : (i : ℕ) (ts : List Touch) (t : Touch) (n : ℕ) → slice_get ts i ≡ Some t → after_place t.place (last t.group) ≡ Some n
      → conflict_from last place i (drop i ts) ≡ Some (record { group = i; commit = n; place = place })
  conflict_here i ts t n at after = next i ts t (Some n) at after

  -- it doesn't, so the others decide
  pub conflict_later : (i : ℕ) (ts : List Touch) (t : Touch) → slice_get ts i ≡ Some t → after_place t.place (last t.group) ≡ None
      → conflict_from last place i (drop i ts) ≡ conflict_from last place (i + 1) (drop (i + 1) ts)
  conflict_later i ts t at after = next i ts t None at after
      ∙ ap (λ m. conflict_from last place (i + 1) (drop m ts)) (let e : suc i ≡ i + 1 = omega arith in e)

  -- there is none left
  pub conflict_past : (i : ℕ) (ts : List Touch) → slice_get ts i ≡ None → conflict_from last place i (drop i ts) ≡ None
  conflict_past i ts none = ap (conflict_from last place i) (dropped ts i none) where
    dropped : (ts : List Touch) (i : ℕ) → slice_get ts i ≡ None → drop i ts ≡ []
    dropped [] zero none = refl
    dropped [] (suc i) none = refl
    dropped (u ∷ us) zero none = cc
    dropped (u ∷ us) (suc i) none = dropped us i none
