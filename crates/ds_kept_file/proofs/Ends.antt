-- What was read of a file, at the gate where the walk over its batches ends.
use Rattle.std.proofs.Common.{◌≡◌, ℕ, ◌-◌, ◌<◌, ◌≤◌, ◌^◌, List, [], ◌∷◌, ◌++◌, length, length-drop, drop, Bool, true, false, refl, sym, ap, ap₂, ◌∙◌, subst, length-append, arith}
use Rattle.std.proofs.lemmas.List.{drop_at}
use Rattle.ds_log.specs.declared.Commit.{Commit}
use Rattle.ds_kept_file.specs.Files.{Kept, nothing, next_number, body_of, opened, batches_bytes, is_open, BeginsWith, HasNoBatch}
use Rattle.ds_kept_file.specs.Readings.{found, IsReadingOf, HasNoBody}
use Rattle.ds_kept_file.specs.declared.reading.FileRead.{FileRead}
use Rattle.ds_kept_file.proofs.Batches.{LeadsTo, at_end, closed_none}
use Rattle.ds_kept_file.proofs.Splits.{opened_alone}

pub rest_within : (file : List ℕ) (kept : Kept) (rest : List ℕ) → BeginsWith file kept rest → length rest ≤ length file
rest_within file kept rest front =
    let long : length file ≡ length (batches_bytes nothing front.batches ++ rest) = ap (λ (l : List ℕ). length l) front.split in
    omega (arith, long, length-append (batches_bytes nothing front.batches) rest)

rest_is : (file : List ℕ) (kept : Kept) (rest : List ℕ) → BeginsWith file kept rest → drop (length file - length rest) file ≡ rest
rest_is file kept rest front =
    let bytes = batches_bytes nothing front.batches in
    let long : length file ≡ length (bytes ++ rest) = ap (λ (l : List ℕ). length l) front.split in
    ap (drop (length file - length rest)) front.split ∙ drop_at bytes rest (length file - length rest) (omega (arith, long, length-append bytes rest))

-- the body behind the gate is that of no batch that may follow
pub no_batch : (kept : Kept) (rest body behind : List ℕ) → length rest < 2 ^ 64 → rest ≡ opened body ++ behind → HasNoBody kept body → HasNoBatch kept rest
no_batch kept rest body behind small split none batch gates is some continues =
    none batch (opened_alone rest body behind (body_of (next_number kept) batch) gates small split is).0 continues

-- behind a gate that isn't open no batch stands, and none behind this one where it is
none-here : (kept : Kept) (rest : List ℕ) → (is_open rest ≡ true → HasNoBatch kept rest) → HasNoBatch kept rest
none-here kept rest none = by (is_open rest) refl where
  by : (b : Bool) → is_open rest ≡ b → HasNoBatch kept rest
  by true opens = none opens
  by false shut = closed_none kept rest shut

pub reading_of : (file rest : List ℕ) (kept : Kept) (read : FileRead) → BeginsWith file kept rest
    → ((other : Kept) (end : List ℕ) → LeadsTo nothing file other end → LeadsTo kept rest other end) → read.journal ≡ kept.journal
    → read.next ≡ kept.next → read.gate ≡ length file - length rest → read.damaged ≡ is_open rest
    → (is_open rest ≡ true → HasNoBatch kept rest) → IsReadingOf file read
reading_of file rest kept read front leads journal next gate damaged none =
    let same : found read ≡ kept = ap₂ (λ (js : List Commit) n. let k : Kept = record { journal = js; next = n } in k) journal next in
    let behind : drop read.gate file ≡ rest = ap (λ n. drop n file) gate ∙ rest_is file kept rest front in
    let here = none-here kept rest none in
    record {
      front = subst (λ (k : Kept). BeginsWith file k (drop read.gate file)) (sym same)
          (subst (λ (l : List ℕ). BeginsWith file kept l) (sym behind) front);
      within = omega (arith, gate);
      gate = ap is_open behind ∙ sym damaged;
      none = λ opens. subst (λ (k : Kept). HasNoBatch k (drop read.gate file)) (sym same)
          (subst (λ (l : List ℕ). HasNoBatch kept l) (sym behind) here);
      alone = λ other stands.
          let ends = at_end kept rest other stands.0 here (leads other stands.0 (stands.1, closed_none other stands.0 stands.2)) in
          (damaged ∙ ap is_open (sym ends.1) ∙ stands.2, ends.0 ∙ sym same);
      there = λ place other broken.
          let ends = at_end kept rest other (drop place file) here (leads other (drop place file) (broken.front, broken.none)) in
          let opens : is_open rest ≡ true = ap is_open (sym ends.1) ∙ broken.opens in
          (damaged ∙ opens, at_place place ends.1 opens ∙ sym gate);
    }
  where
    some : (l : List ℕ) → is_open l ≡ true → 1 ≤ length l
    some [] e = absurd (let both : false ≡ true = e in cc both)
    some (b ∷ l) e = omega arith

    at_place : (place : ℕ) → drop place file ≡ rest → is_open rest ≡ true → place ≡ length file - length rest
    at_place place is opens =
        let long : length file - place ≡ length rest = sym (length-drop place file) ∙ ap (λ (l : List ℕ). length l) is in
        omega (arith, long, some rest opens)
