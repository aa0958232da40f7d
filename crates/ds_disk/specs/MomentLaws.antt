-- That a disk in memory tells its moments truly, call by call, and that each of its calls is one of an honest disk.
use Rattle.std.specs.Prelude.{◌≡◌, ℕ, ◌+◌, ◌≤◌, Bool, true, false, not, ◌||◌, List, [], ◌∷◌, ◌++◌, length, take}
use Rattle.std.proofs.Common.{arith, inl, inr, ⊎_elim, refl, sym, ap, ◌∙◌, subst, length-append}
use Rattle.std.proofs.lemmas.Bool.{cases_lt}
use Rattle.std.proofs.lemmas.List.{take_all, take-append-le}
use Rattle.ds_disk.specs.Crashes.{written, length_written, NoOthers, Only, Follows, Torn, Cut, Elapses}
use Rattle.ds_disk.specs.Memory.{StateParts, IsImage, at_rest, after_change, state_after, DiskParts, state_of, LeftSince, is_due}
use Rattle.ds_disk.specs.Memory.{after_call}
use Rattle.ds_disk.specs.HonestLaws.{rest_is_image, rest_only, calls_keep, write_follows, cut_follows, sync_follows}
use Rattle.ds_disk.specs.declared.call.Change.{Change}
use Rattle.ds_disk.specs.declared.call.Change.TheVariants as change
use Rattle.ds_disk.specs.declared.call.Call.{Call}

-- the state after one call more
pub state_after-push : (s : StateParts) (calls : List Call) (call : Call)
    → state_after s (calls ++ call ∷ []) ≡ after_change (state_after s calls) call.change call.failed
state_after-push s [] call = refl
state_after-push s (first ∷ calls) call = state_after-push (after_change s first.change first.failed) calls call

module _ (first : List ℕ) where
  abbrev images_at : List Call → List ℕ → Type 0
  images_at calls = IsImage (state_after (at_rest first) calls)

  pub counts_now : (calls : List Call) (t : ℕ) (image : List ℕ) → t ≤ length calls → images_at calls image → LeftSince first calls t image
  counts_now calls t image le now =
      (length calls, le, omega arith, subst (λ l. images_at l image) (sym (take_all (length calls) calls (omega arith))) now)

  pub only_now : (calls : List Call) (image : List ℕ) → LeftSince first calls (length calls) image → images_at calls image
  only_now calls image left = subst (λ l. images_at l image) (take_all left.0 calls left.1) left.3

  -- time goes on by a call that is kept
  pub elapses_kept : (calls : List Call) (call : Call)
      → Elapses (length calls) (length (calls ++ call ∷ [])) (LeftSince first calls) (LeftSince first (calls ++ call ∷ []))
      (images_at (calls ++ call ∷ []))
  elapses_kept calls call =
      let long : length (calls ++ call ∷ []) ≡ length calls + 1 = length-append calls (call ∷ []) in
      record {
        later = omega (arith, long);
        nothing_else = λ t image le left.
            ⊎_elim
            (λ new. inr (subst (λ l. images_at l image) (take_all left.0 (calls ++ call ∷ []) (omega (arith, long, new))) left.3))
            (λ was. inl (left.0, left.1, was, subst (λ l. images_at l image) (take-append-le left.0 calls (call ∷ []) was) left.3))
            (cases_lt (length calls) left.0);
        keeps = λ t image le past. (
          past.0,
          past.1,
          omega (arith, long, past.2),
          subst (λ l. images_at l image)
              (sym (take-append-le past.0 calls (call ∷ []) past.2)) past.3,
        );
      }

  elapses_refused : (calls : List Call)
      → Elapses (length calls) (length calls) (LeftSince first calls) (LeftSince first calls) (images_at calls)
  elapses_refused calls = record { later = omega arith; nothing_else = λ t image le left. inl left; keeps = λ t image le past. past }

-- the contents of a disk in memory are one of its images
pub contents_may_stay : (d : DiskParts) → IsImage (state_of d) (state_of d).contents
contents_may_stay d = calls_keep (at_rest d.first) d.calls (rest_is_image d.first)

-- time goes on by each call
pub call_elapses : (d : DiskParts) (c : Change) (refused lacks : Bool)
    → Elapses (length d.calls) (length (after_call d c refused lacks).calls) (LeftSince d.first d.calls)
    (LeftSince d.first (after_call d c refused lacks).calls) (IsImage (state_of (after_call d c refused lacks)))
call_elapses d c true lacks = elapses_refused d.first d.calls
call_elapses d c false lacks = elapses_kept d.first d.calls (record { change = c; failed = is_due d })

-- the state after a call that is kept
state_of_kept : (d : DiskParts) (c : Change) (lacks : Bool) → state_of (after_call d c false lacks) ≡ after_change (state_of d) c (is_due d)
state_of_kept d c lacks = state_after-push (at_rest d.first) d.calls (record { change = c; failed = is_due d })

-- one that looks leaves it
look_stays : (d : DiskParts) (refused lacks : Bool) → state_of (after_call d change.Look refused lacks) ≡ state_of d
look_stays d true lacks = refl
look_stays d false lacks = state_of_kept d change.Look lacks

-- a sync leaves no image that wasn't there
sync_leaves : (d : DiskParts) (refused lacks : Bool)
    → NoOthers (IsImage (state_of d)) (IsImage (state_of (after_call d change.Sync refused lacks)))
sync_leaves d true lacks image now = now
sync_leaves d false lacks image now =
    sync_follows (state_of d) (is_due d) (contents_may_stay d) image (subst (λ s. IsImage s image) (state_of_kept d change.Sync lacks) now)

-- a write or a cut leaves what it may
Torn_same : (place n most : ℕ) (image : List ℕ) → Torn place n most image image
Torn_same place n most image = record {
  no_shorter = omega arith;
  no_longer = omega arith;
  before = λ i lt before. refl;
  behind =
      λ i lt past. refl;
}

Cut_same : (n : ℕ) (image : List ℕ) → Cut n image image
Cut_same n image = record { no_shorter = omega arith; no_longer = omega arith; front = λ i lt below. refl }

write_leaves : (d : DiskParts) (place : ℕ) (piece : List ℕ) (refused lacks : Bool)
    → Follows (Torn place (length piece) (length_written (state_of d).contents place piece)) (IsImage (state_of d))
    (IsImage (state_of (after_call d (change.Write place piece) refused lacks)))
write_leaves d place piece true lacks image now =
    (image, now, Torn_same place (length piece) (length_written (state_of d).contents place piece) image)
write_leaves d place piece false lacks image now =
    write_follows (state_of d) place piece (is_due d) (contents_may_stay d) image
    (subst (λ s. IsImage s image) (state_of_kept d (change.Write place piece) lacks) now)

cut_leaves : (d : DiskParts) (n : ℕ) (refused lacks : Bool)
    → Follows (Cut n) (IsImage (state_of d)) (IsImage (state_of (after_call d (change.Cut n) refused lacks)))
cut_leaves d n true lacks image now = (image, now, Cut_same n image)
cut_leaves d n false lacks image now =
    cut_follows (state_of d) n (is_due d) (contents_may_stay d) image (subst (λ s. IsImage s image) (state_of_kept d (change.Cut n) lacks)
    now)

both_false : (a b : Bool) → not (a || b) ≡ true → (a ≡ false) × (b ≡ false)
both_false true b is = cc
both_false false true is = cc
both_false false false is = (refl, refl)

-- What a call makes of a disk: the state before, the one after, and what was asked for.
module _ (d new : DiskParts) (refused lacks : Bool) where
  -- a call that is done
  state_of_done : (c : Change) → new ≡ after_call d c refused lacks → not (refused || is_due d) ≡ true
      → state_of new ≡ after_change (state_of d) c false
  state_of_done c is done =
      let parts = both_false refused (is_due d) done in
      ap state_of is ∙ ap (λ b. state_of (after_call d c b lacks)) parts.0 ∙ state_of_kept d c lacks
      ∙ ap (after_change (state_of d) c) parts.1

  -- time goes on
  pub time_steps : (c : Change) → new ≡ after_call d c refused lacks
      → Elapses (length d.calls) (length new.calls) (LeftSince d.first d.calls) (LeftSince new.first new.calls) (IsImage (state_of new))
  time_steps c is =
      subst
      (λ (after : DiskParts). Elapses (length d.calls) (length after.calls) (LeftSince d.first d.calls) (LeftSince after.first after.calls)
      (IsImage (state_of after)))
      (sym is) (call_elapses d c refused lacks)

  pub look_steps : new ≡ after_call d change.Look refused lacks
      → ((state_of new).contents ≡ (state_of d).contents) × NoOthers (IsImage (state_of d)) (IsImage (state_of new))
  look_steps is =
      let same : state_of new ≡ state_of d = ap state_of is ∙ look_stays d refused lacks in
      (ap (λ (s : StateParts). s.contents) same, λ image now. subst (λ s. IsImage s image) same now)

  pub write_steps : (place : ℕ) (piece : List ℕ) → new ≡ after_call d (change.Write place piece) refused lacks
      → Follows (Torn place (length piece) (length_written (state_of d).contents place piece)) (IsImage (state_of d))
      (IsImage (state_of new))
  write_steps place piece is =
      subst
      (λ (after : DiskParts). Follows (Torn place (length piece) (length_written (state_of d).contents place piece)) (IsImage (state_of d))
      (IsImage (state_of after)))
      (sym is) (write_leaves d place piece refused lacks)

  pub write_done : (place : ℕ) (piece : List ℕ) → new ≡ after_call d (change.Write place piece) refused lacks
      → not (refused || is_due d) ≡ true
      → (state_of new).contents ≡ written (state_of d).contents place piece
  write_done place piece is done = ap (λ (s : StateParts). s.contents) (state_of_done (change.Write place piece) is done)

  pub cut_steps : (n : ℕ) → new ≡ after_call d (change.Cut n) refused lacks
      → Follows (Cut n) (IsImage (state_of d)) (IsImage (state_of new))
  cut_steps n is = subst (λ (after : DiskParts). Follows (Cut n) (IsImage (state_of d)) (IsImage (state_of after))) (sym is)
      (cut_leaves d n refused lacks)

  pub cut_done : (n : ℕ) → new ≡ after_call d (change.Cut n) refused lacks → not (refused || is_due d) ≡ true
      → (state_of new).contents ≡ take n (state_of d).contents
  cut_done n is done = ap (λ (s : StateParts). s.contents) (state_of_done (change.Cut n) is done)

  pub sync_steps : new ≡ after_call d change.Sync refused lacks → NoOthers (IsImage (state_of d)) (IsImage (state_of new))
  sync_steps is = subst (λ (after : DiskParts). NoOthers (IsImage (state_of d)) (IsImage (state_of after))) (sym is)
      (sync_leaves d refused lacks)

  pub sync_done : new ≡ after_call d change.Sync refused lacks → not (refused || is_due d) ≡ true
      → Only (state_of new).contents (IsImage (state_of new)) × ((state_of new).contents ≡ (state_of d).contents)
  sync_done is done =
      let rests = state_of_done change.Sync is done in (
        subst (λ (s : StateParts). Only s.contents (IsImage s)) (sym rests) (rest_only (state_of d).contents),
        ap (λ (s : StateParts). s.contents) rests,
      )
