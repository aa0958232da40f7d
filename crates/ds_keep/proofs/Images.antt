-- What files stand for while a batch is put behind them, and while they are closed.
use Rattle.std.proofs.Common.{◌≡◌, inl, inr, ℕ, zero, suc, ◌+◌, ◌<◌, ◌≤◌, ◌==◌, List, [], ◌∷◌, ◌++◌, length, take, drop, Bool, true, false, refl, sym, ap, ◌∙◌, subst}
use Rattle.std.proofs.Common.{append_assoc, append-nil, length-append, length-drop, take-append-drop, arith}
use Rattle.std.proofs.lemmas.Bool.{cases_lt}
use Rattle.std.proofs.lemmas.Bool.Decides.{nat_tests}
use Rattle.std.proofs.lemmas.List.{drop_all, take_at, drop_at, length-take, length-take-le}
use Rattle.ds_disk.specs.Crashes.{written, length_written, Torn, Cut}
use Rattle.ds_disk.specs.TornLaws.{torn_front, torn_behind, torn_inside, cut_front, cut_none, written_behind, written_inside}
use Rattle.ds_kept_file.specs.Files.{Kept, Batch, nothing, with_batch, next_number, body_of, sized, opened, batches_bytes, is_open, Continues, BeginsWith, StandsFor}
use Rattle.ds_kept_file.proofs.Batches.{batch_more}
use Rattle.ds_keep.specs.Keepers.{IsClosedAt, IsWholeTo, StandsForEither}

-- ---- gates

closed_alone : (bytes : List ℕ) → length bytes ≤ 1 → is_open bytes ≡ false
closed_alone [] h = refl
closed_alone (b ∷ []) h = refl
closed_alone (b ∷ c ∷ bytes) h = absurd (omega arith)

closed_by : (gate : ℕ) (bytes : List ℕ) → (gate == 1) ≡ false → is_open (gate ∷ bytes) ≡ false
closed_by gate [] h = refl
closed_by gate (b ∷ bytes) h = h

one_byte : (bytes : List ℕ) → length bytes ≡ 1 → (b : ℕ) × (bytes ≡ b ∷ [])
one_byte [] h = absurd (omega arith)
one_byte (b ∷ []) h = (b, refl)
one_byte (b ∷ c ∷ bytes) h = absurd (omega arith)

is_gate : (b : ℕ) → (b == 1) ≡ true → b ≡ 1
is_gate b h = grind (arith, nat_tests)

-- ---- a file's whole batches, with anything behind them

record HasFront (file : List ℕ) (gate : ℕ) (kept : Kept) (behind : List ℕ) : Type 0 where
  front : List ℕ
  split : file ≡ front ++ behind
  long : length front ≡ gate
  others : (other : List ℕ) → 0 < length other → BeginsWith (front ++ other) kept other

front_of : (file : List ℕ) (gate : ℕ) (kept : Kept) (behind : List ℕ) → BeginsWith file kept behind → gate + length behind ≡ length file → HasFront file gate kept behind
front_of file gate kept behind begins long = record {
  front = batches_bytes nothing begins.batches;
  split = begins.split;
  long = omega (arith, length-append (batches_bytes nothing begins.batches) behind, ap (λ (l : List ℕ). length l) begins.split, long);
  others = λ other some. record { batches = begins.batches; split = refl; continuing = begins.continuing; after = begins.after; gate = λ all. some };
}

stands : (image front other : List ℕ) (kept : Kept) → image ≡ front ++ other → BeginsWith (front ++ other) kept other → is_open other ≡ false → StandsFor kept image
stands image front other kept is begins closed = subst (StandsFor kept) (sym is) (other, begins, closed)

-- ---- a batch is put behind the closed gate

module _ (gate : ℕ) (kept : Kept) (file : List ℕ) (whole : IsWholeTo gate kept file) where
  parts : HasFront file gate kept (0 ∷ [])
  parts = front_of file gate kept (0 ∷ []) whole.whole whole.last

  -- behind it anything may stand
  pub still_closed : (n most : ℕ) (image : List ℕ) → Torn (gate + 1) n most file image → StandsFor kept image
  still_closed n most image torn =
      let front = parts.front in
      let behind = drop (length file) image in
      let is : image ≡ front ++ 0 ∷ behind = torn_behind (gate + 1) n most file image torn (omega (arith, whole.last))
      ∙ ap (λ (l : List ℕ). l ++ behind) parts.split ∙ append_assoc front (0 ∷ []) behind in
      stands image front (0 ∷ behind) kept is (parts.others (0 ∷ behind) (omega arith)) (closed_by 0 behind refl)

  module _ (batch : Batch) (continues : Continues kept batch) (piece : List ℕ) (is : piece ≡ sized (body_of (next_number kept) batch) ++ 0 ∷ []) where
    abbrev body : List ℕ
    body = body_of (next_number kept) batch

    -- the file with the batch behind its gate
    staged_is : written file (gate + 1) piece ≡ file ++ piece
    staged_is = written_behind file piece (gate + 1) whole.last

    length_staged : length (written file (gate + 1) piece) ≡ gate + 1 + length piece
    length_staged = omega (arith, ap (λ (l : List ℕ). length l) staged_is, length-append file piece, whole.last)

    staged_front : take gate (written file (gate + 1) piece) ≡ parts.front
    staged_front = ap (take gate) (staged_is ∙ ap (λ (l : List ℕ). l ++ piece) parts.split ∙ append_assoc parts.front (0 ∷ []) piece)
        ∙ take_at parts.front (0 ∷ piece) gate parts.long

    staged_back : drop (gate + 1) (written file (gate + 1) piece) ≡ piece
    staged_back = ap (drop (gate + 1)) staged_is ∙ drop_at file piece (gate + 1) (sym whole.last)

    -- with an open gate the batch counts
    counts : (image : List ℕ) → image ≡ parts.front ++ 1 ∷ piece → BeginsWith image (with_batch kept batch) (0 ∷ [])
    counts image image_is =
        let rest_is : 1 ∷ piece ≡ opened body ++ 0 ∷ [] = ap (λ (l : List ℕ). 1 ∷ l) is in
        subst (λ (l : List ℕ). BeginsWith l (with_batch kept batch) (0 ∷ [])) (sym image_is)
        (batch_more (parts.front ++ 1 ∷ piece) (1 ∷ piece) (0 ∷ []) kept batch (parts.others (1 ∷ piece) (omega arith)) rest_is (omega arith) continues)

    by_gate : (image : List ℕ) (b : ℕ) (test : Bool) → (b == 1) ≡ test → image ≡ parts.front ++ b ∷ piece → StandsForEither kept batch image
    by_gate image b true opens image_is =
        inr (0 ∷ [], counts image (image_is ∙ ap (λ g. parts.front ++ g ∷ piece) (is_gate b opens)), refl)
    by_gate image b false shut image_is =
        inl (stands image parts.front (b ∷ piece) kept image_is (parts.others (b ∷ piece) (omega arith)) (closed_by b piece shut))

    -- while the gate is written, the batch counts or it doesn't
    pub either : (image : List ℕ) → Torn gate 1 (length_written (written file (gate + 1) piece) gate (1 ∷ [])) (written file (gate + 1) piece) image
        → StandsForEither kept batch image
    either image torn =
        let within : gate + 1 ≤ length (written file (gate + 1) piece) = omega (arith, length_staged) in
        let one = one_byte (take 1 (drop gate image))
        (length-take-le 1 (drop gate image) (omega (arith, length-drop gate image, torn.no_shorter, within))) in
        let image_is : image ≡ parts.front ++ one.0 ∷ piece =
        torn_inside gate 1 (length_written (written file (gate + 1) piece) gate (1 ∷ [])) (written file (gate + 1) piece) image torn within (omega (arith, within))
        ∙ ap (λ (l : List ℕ). l ++ take 1 (drop gate image) ++ drop (gate + 1) (written file (gate + 1) piece)) staged_front
        ∙ ap (λ (l : List ℕ). parts.front ++ l ++ drop (gate + 1) (written file (gate + 1) piece)) one.1
        ∙ ap (λ (l : List ℕ). parts.front ++ (one.0 ∷ []) ++ l) staged_back
        ∙ append_assoc parts.front (one.0 ∷ []) piece in
        by_gate image one.0 (one.0 == 1) refl image_is

    -- once it is written, the batch counts, and a closed gate is last
    pub put_whole : IsWholeTo (gate + length piece) (with_batch kept batch) (written (written file (gate + 1) piece) gate (1 ∷ []))
    put_whole =
        let within : gate ≤ length (written file (gate + 1) piece) = omega (arith, length_staged) in
        let now = written (written file (gate + 1) piece) gate (1 ∷ []) in
        let now_is : now ≡ parts.front ++ 1 ∷ piece =
        written_inside (written file (gate + 1) piece) (1 ∷ []) gate within
        ∙ ap (λ (l : List ℕ). l ++ (1 ∷ []) ++ drop (gate + 1) (written file (gate + 1) piece)) staged_front
        ∙ ap (λ (l : List ℕ). parts.front ++ (1 ∷ []) ++ l) staged_back
        ∙ append_assoc parts.front (1 ∷ []) piece in
        record {
          whole = counts now now_is;
          last = omega (arith, ap (λ (l : List ℕ). length l) now_is, length-append parts.front (1 ∷ piece), parts.long);
        }

-- ---- a file is closed behind its batches

module _ (gate : ℕ) (kept : Kept) (file : List ℕ) (closed : IsClosedAt gate kept file) where
  behind : List ℕ
  behind = drop gate file

  closed_parts : HasFront file gate kept (drop gate file)
  closed_parts = front_of file gate kept (drop gate file) closed.whole (omega (arith, length-drop gate file, closed.within))

  as_it_is : StandsFor kept file
  as_it_is = (drop gate file, closed.whole, closed.closed)

  -- the file up to its gate
  cut_is : take (gate + 1) file ≡ closed_parts.front ++ take 1 (drop gate file)
  cut_is =
      let front = closed_parts.front in
      ap (take (gate + 1)) closed_parts.split ∙ by front gate closed_parts.long (drop gate file) where
        by : (front : List ℕ) (gate : ℕ) → length front ≡ gate → (rest : List ℕ) → take (gate + 1) (front ++ rest) ≡ front ++ take 1 rest
        by [] gate long rest = ap (λ n. take n rest) (let e : gate + 1 ≡ 1 = omega (arith, long) in e)
        by (b ∷ front) gate long rest =
            ap (λ n. take n (b ∷ (front ++ rest))) (let e : gate + 1 ≡ suc (length front + 1) = omega (arith, long) in e)
            ∙ ap (λ (l : List ℕ). b ∷ l) (by front (length front) refl rest)

  -- behind a gate that is closed anything may stand
  still_shut : (more rest : List ℕ) → drop gate file ≡ rest → 1 < length rest → (image : List ℕ) → image ≡ closed_parts.front ++ take 1 rest ++ more → StandsFor kept image
  still_shut more [] is long image image_is = absurd (omega arith)
  still_shut more (g ∷ []) is long image image_is = absurd (omega arith)
  still_shut more (g ∷ b ∷ rest) is long image image_is =
      let front = closed_parts.front in
      let shut : (g == 1) ≡ false = ap is_open (sym is) ∙ closed.closed in
      stands image front (g ∷ more) kept (image_is ∙ append_assoc front (g ∷ []) more) (closed_parts.others (g ∷ more) (omega arith)) (closed_by g more shut)

  pub cut_stands : (image : List ℕ) → Cut (gate + 1) file image → StandsFor kept image
  cut_stands image cut = elim (cases_lt (gate + 1) (length file)) [
    | inl more ↦
        let is : image ≡ closed_parts.front ++ take 1 (drop gate file) ++ drop (gate + 1) image =
        cut_front (gate + 1) file image cut (omega arith) ∙ ap (λ (l : List ℕ). l ++ drop (gate + 1) image) cut_is in
        still_shut (drop (gate + 1) image) (drop gate file) refl (omega (arith, length-drop gate file)) image is
    | inr none ↦ subst (StandsFor kept) (sym (cut_none (gate + 1) file image cut (omega arith))) as_it_is
  ]

  length_cut : length (take (gate + 1) file) ≤ gate + 1
  length_cut = omega (arith, length-take (gate + 1) file)

  cut_within : gate ≤ length (take (gate + 1) file)
  cut_within = omega (arith, length-take (gate + 1) file, closed.within)

  cut_front_is : take gate (take (gate + 1) file) ≡ closed_parts.front
  cut_front_is = ap (take gate) cut_is ∙ take_at closed_parts.front (take 1 (drop gate file)) gate closed_parts.long

  -- where the gate is written, no more than a byte stands behind the batches
  pub gate_stands : (image : List ℕ) → Torn gate 1 (length_written (take (gate + 1) file) gate (0 ∷ [])) (take (gate + 1) file) image → StandsFor kept image
  gate_stands image torn =
      let front = closed_parts.front in
      let most = length_written (take (gate + 1) file) gate (0 ∷ []) in
      let is : image ≡ front ++ drop gate image = sym (take-append-drop gate image)
      ∙ ap (λ (l : List ℕ). l ++ drop gate image) (torn_front gate 1 most gate (take (gate + 1) file) image torn (omega arith) cut_within ∙ cut_front_is) in
      let short : length (drop gate image) ≤ 1 = omega (arith, length-drop gate image, torn.no_longer, length_cut) in
      by (drop gate image) is short refl where
        none_behind : length image ≤ gate → file ≡ image
        none_behind few =
            let whole_long : length (take (gate + 1) file) ≤ gate = omega (arith, torn.no_shorter, few) in
            let nothing_behind : length (drop gate file) ≡ 0 = omega (arith, length-drop gate file, length-take (gate + 1) file, whole_long) in
            let empty : length file ≡ 0 = by_length (length file) refl nothing_behind in
            both_empty file image empty (omega (arith, few, closed.within, empty)) where
              by_length : (n : ℕ) → length file ≡ n → length (drop gate file) ≡ 0 → length file ≡ 0
              by_length zero is none = is
              by_length (suc n) is none = let some = closed.whole.gate (omega (arith, is)) in absurd (omega (arith, some, none))

              both_empty : (xs ys : List ℕ) → length xs ≡ 0 → length ys ≡ 0 → xs ≡ ys
              both_empty [] [] hx hy = refl
              both_empty (x ∷ xs) ys hx hy = absurd (omega arith)
              both_empty [] (y ∷ ys) hx hy = absurd (omega arith)

        by : (rest : List ℕ) → image ≡ closed_parts.front ++ rest → length rest ≤ 1 → drop gate image ≡ rest → StandsFor kept image
        by [] image_is short same =
            let few : length image ≤ gate = omega (arith, length-drop gate image, ap (λ (l : List ℕ). length l) same) in
            subst (StandsFor kept) (none_behind few) as_it_is
        by (b ∷ rest) image_is short same =
            stands image closed_parts.front (b ∷ rest) kept image_is (closed_parts.others (b ∷ rest) (omega arith)) (closed_alone (b ∷ rest) short)

  -- once it is written, it is last
  pub closed_whole : IsWholeTo gate kept (written (take (gate + 1) file) gate (0 ∷ []))
  closed_whole =
      let now = written (take (gate + 1) file) gate (0 ∷ []) in
      let now_is : now ≡ closed_parts.front ++ 0 ∷ [] =
      written_inside (take (gate + 1) file) (0 ∷ []) gate cut_within
      ∙ ap (λ (l : List ℕ). l ++ (0 ∷ []) ++ drop (gate + 1) (take (gate + 1) file)) cut_front_is
      ∙ ap (λ (l : List ℕ). closed_parts.front ++ (0 ∷ []) ++ l) (drop_all (gate + 1) (take (gate + 1) file) length_cut)
      ∙ append-nil (closed_parts.front ++ 0 ∷ []) in
      record {
        whole = subst (λ (l : List ℕ). BeginsWith l kept (0 ∷ [])) (sym now_is) (closed_parts.others (0 ∷ []) (omega arith));
        last = omega (arith, ap (λ (l : List ℕ). length l) now_is, length-append closed_parts.front (0 ∷ []), closed_parts.long);
      }
