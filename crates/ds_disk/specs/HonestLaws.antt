-- That a disk in memory is honest: what each call makes of the images that a crash may leave.
use Rattle.std.specs.Prelude.{◌≡◌, ℕ, zero, suc, ◌<◌, ◌≤◌, min, max, Bool, true, false, List, [], ◌∷◌, length, take, Option, Some, None}
use Rattle.std.specs.Prelude.{unwrap_or}
use Rattle.std.proofs.Common.{arith, ⊎_elim, get_or, refl, sym, ap, ◌∙◌, subst}
use Rattle.std.proofs.lemmas.List.{ext_get_or, get_or-take, get_or-map, length-map, length-take}
use Rattle.ds_disk.specs.Crashes.{length_written, NoOthers, Only, Follows, Torn, Cut}
use Rattle.ds_disk.specs.TornLaws.{length_written_is, written_before, written_past}
use Rattle.ds_disk.specs.Memory.{StateParts, IsImage, at_rest, image_by, after_change, state_after}
use Rattle.ds_disk.specs.MemoryLaws.{length-wiped, wiped_before, wiped_past, wiped_outside, length-filled, filled_at}
use Rattle.ds_disk.specs.declared.call.Change.{Change}
use Rattle.ds_disk.specs.declared.call.Change.TheVariants as change
use Rattle.ds_disk.specs.declared.call.Call.{Call}

-- a place that stays is one of those that are counted
stays_within : (stays : List (Option ℕ)) (i byte : ℕ) → get_or stays i None ≡ Some byte → i < length stays
stays_within [] i byte is = cc
stays_within (slot ∷ stays) zero byte is = omega arith
stays_within (slot ∷ stays) (suc i) byte is = omega (arith, stays_within stays i byte is)

-- a place that stays after a cut stayed before it
stays_cut : (stays : List (Option ℕ)) (n i byte : ℕ) → get_or (take n stays) i None ≡ Some byte → (get_or stays i None ≡ Some byte)
    × (i < n)
stays_cut stays n i byte is =
    let below : i < n = omega (arith, stays_within (take n stays) i byte is, length-take n stays) in
    (sym (get_or-take n stays i None below) ∙ is, below)

-- after a sync each byte stays
rests : (contents : List ℕ) (i : ℕ) → i < length contents → get_or (at_rest contents).stays i None ≡ Some (get_or contents i 0)
rests contents i within = get_or-map (λ byte. Some byte) contents i 0 None within

rest_long : (contents : List ℕ) → length (at_rest contents).stays ≡ length contents
rest_long contents = length-map contents (λ byte. Some byte)

Some_same : {x y : ℕ} → Some x ≡ Some y → x ≡ y
Some_same is = cc

-- the contents after a sync are an image, and there is no other
pub rest_is_image : (contents : List ℕ) → IsImage (at_rest contents) contents
rest_is_image contents = record {
  no_shorter = omega (arith, rest_long contents);
  no_longer = omega arith;
  same = λ i byte is.
      let within : i < length contents = omega (arith, stays_within (at_rest contents).stays i byte is, rest_long contents) in
      Some_same (sym (rests contents i within) ∙ is);
}

pub rest_only : (contents : List ℕ) → Only contents (IsImage (at_rest contents))
rest_only contents image is =
    let long = rest_long contents in
    ext_get_or 0 image contents (omega (arith, is.no_shorter, is.no_longer, long))
    (λ i lt. let within : i < length contents = omega (arith, is.no_longer) in is.same i (get_or contents i 0) (rests contents i within))

written_longer : (contents : List ℕ) (place : ℕ) (piece : List ℕ) → length contents ≤ length_written contents place piece
written_longer contents place [] = omega arith
written_longer contents place (byte ∷ bytes) = omega arith

-- a write keeps the contents an image, whether it is done or not
pub write_keeps : (s : StateParts) (place : ℕ) (piece : List ℕ) (failed : Bool) → IsImage s s.contents
    → IsImage (after_change s (change.Write place piece) failed) (after_change s (change.Write place piece) failed).contents
write_keeps s place piece true was = record {
  no_shorter = omega (arith, was.no_shorter, length-wiped s.stays place (length piece));
  no_longer = omega (arith, was.no_longer);
  same = λ i byte is. was.same i byte (wiped_outside s.stays place (length piece) i byte is).0;
}
write_keeps s place piece false was = record {
  no_shorter = omega (
    arith,
    was.no_shorter,
    length-wiped s.stays place (length piece),
    length_written_is s.contents piece place,
    written_longer s.contents place piece,
  );
  no_longer = omega (arith, length_written_is s.contents piece place);
  same = λ i byte is.
      let outside = wiped_outside s.stays place (length piece) i byte is in
      let within : i < length s.contents = omega (arith, stays_within s.stays i byte outside.0, was.no_shorter) in
      ⊎_elim (λ before. written_before s.contents piece place i within before) (λ past. written_past s.contents piece place i within past)
      outside.1
      ∙ was.same i byte outside.0;
}

pub cut_keeps : (s : StateParts) (n : ℕ) (failed : Bool) → IsImage s s.contents
    → IsImage (after_change s (change.Cut n) failed) (after_change s (change.Cut n) failed).contents
cut_keeps s n true was = record {
  no_shorter = omega (arith, was.no_shorter, length-take n s.stays);
  no_longer = was.no_longer;
  same = λ i byte is. was.same i byte (stays_cut s.stays n i byte is).0;
}
cut_keeps s n false was = record {
  no_shorter = omega (arith, was.no_shorter, length-take n s.stays, length-take n s.contents);
  no_longer = omega (arith, was.no_longer, length-take n s.contents);
  same = λ i byte is.
      let stayed = stays_cut s.stays n i byte is in
      get_or-take n s.contents i 0 stayed.1 ∙ was.same i byte stayed.0;
}

-- so do all calls
pub call_keeps : (s : StateParts) (c : Change) (failed : Bool) → IsImage s s.contents
    → IsImage (after_change s c failed) (after_change s c failed).contents
call_keeps s change.Look failed was = was
call_keeps s (change.Write place piece) failed was = write_keeps s place piece failed was
call_keeps s (change.Cut n) failed was = cut_keeps s n failed was
call_keeps s change.Sync true was = was
call_keeps s change.Sync false was = rest_is_image s.contents

pub calls_keep : (s : StateParts) (calls : List Call) → IsImage s s.contents → IsImage (state_after s calls) (state_after s calls).contents
calls_keep s [] was = was
calls_keep s (call ∷ calls) was = calls_keep (after_change s call.change call.failed) calls (call_keeps s call.change call.failed was)

-- the image nearest to a list of bytes is one
pub image_by_is : (s : StateParts) (wish : List ℕ) → IsImage s s.contents → IsImage s (image_by s wish)
image_by_is s wish sound =
    let long = length-filled s.stays (take s.greatest wish) in
    record {
      no_shorter = omega (arith, long);
      no_longer = omega (arith, long, sound.no_shorter, sound.no_longer, length-take s.greatest wish);
      same = λ i byte is. filled_at s.stays (take s.greatest wish) i ∙ ap (λ slot. unwrap_or slot (get_or (take s.greatest wish) i 0)) is;
    }

-- where a place of the list may hold its byte, the nearest image has that byte there
chosen : (slot : Option ℕ) (other byte : ℕ) → ((stayed : ℕ) → slot ≡ Some stayed → byte ≡ stayed) → other ≡ byte
    → unwrap_or slot other ≡ byte
chosen None other byte stays is = is
chosen (Some stayed) other byte stays is = sym (stays stayed refl)

near : (s : StateParts) (wish : List ℕ) (i : ℕ) → i < s.greatest → ((byte : ℕ) → get_or s.stays i None ≡ Some byte → get_or wish i 0 ≡ byte)
    → get_or (image_by s wish) i 0 ≡ get_or wish i 0
near s wish i within stays =
    filled_at s.stays (take s.greatest wish) i
    ∙ chosen (get_or s.stays i None) (get_or (take s.greatest wish) i 0) (get_or wish i 0) stays (get_or-take s.greatest wish i 0 within)

length-image_by : (s : StateParts) (wish : List ℕ) → length (image_by s wish) ≡ max (length s.stays) (min s.greatest (length wish))
length-image_by s wish = length-filled s.stays (take s.greatest wish) ∙ ap (λ n. max (length s.stays) n) (length-take s.greatest wish)

-- where the list is an image, it is that
pub image_by_same : (s : StateParts) (wish : List ℕ) → IsImage s wish → image_by s wish ≡ wish
image_by_same s wish is =
    let long = length-image_by s wish in
    ext_get_or 0 (image_by s wish) wish (omega (arith, long, is.no_shorter, is.no_longer))
    (λ i lt. near s wish i (omega (arith, lt, long, is.no_shorter, is.no_longer)) (is.same i))

-- an image after a write is one before it, torn by the write
pub write_follows : (s : StateParts) (place : ℕ) (piece : List ℕ) (failed : Bool) → IsImage s s.contents
    → Follows (Torn place (length piece) (length_written s.contents place piece)) (IsImage s)
    (IsImage (after_change s (change.Write place piece) failed))
write_follows s place piece failed sound image now =
    let long = length-image_by s image in
    let same_length = length-wiped s.stays place (length piece) in
    let bounded : length (image_by s image) ≤ s.greatest = omega (arith, long, sound.no_shorter, sound.no_longer) in (
      image_by s image,
      image_by_is s image sound,
      record {
        no_shorter = omega (arith, long, now.no_shorter, same_length);
        no_longer = omega (arith, long, now.no_longer);
        before = λ i lt before.
            sym (near s image i (omega (arith, lt, bounded)) (λ byte stays. now.same i byte (wiped_before s.stays place (length piece) i
            before ∙ stays)));
        behind = λ i lt past.
            sym (near s image i (omega (arith, lt, bounded)) (λ byte stays. now.same i byte (wiped_past s.stays place (length piece) i past
            ∙ stays)));
      },
    )

-- an image after a cut is one before it, cut
pub cut_follows : (s : StateParts) (n : ℕ) (failed : Bool) → IsImage s s.contents
    → Follows (Cut n) (IsImage s) (IsImage (after_change s (change.Cut n) failed))
cut_follows s n failed sound image now =
    let long = length-image_by s image in
    let short = length-take n s.stays in
    let bounded : length (image_by s image) ≤ s.greatest = omega (arith, long, sound.no_shorter, sound.no_longer) in (
      image_by s image,
      image_by_is s image sound,
      record {
        no_shorter = omega (arith, long, now.no_shorter, now.no_longer, short);
        no_longer = omega (arith, long, now.no_longer);
        front = λ i lt below. sym (near s image i (omega (arith, lt, now.no_longer))
            (λ byte stays. now.same i byte (get_or-take n s.stays i None below ∙ stays)));
      },
    )

-- a sync leaves only images that were there before
pub sync_follows : (s : StateParts) (failed : Bool) → IsImage s s.contents
    → NoOthers (IsImage s) (IsImage (after_change s change.Sync failed))
sync_follows s true sound image now = now
sync_follows s false sound image now = subst (IsImage s) (sym (rest_only s.contents image now)) sound
