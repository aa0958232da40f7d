-- What unsynced writes and cuts leave of contents that are known, and what is written to them.
use Rattle.std.specs.Prelude.{◌≡◌, ℕ, ◌+◌, ◌-◌, ◌<◌, ◌≤◌, min, List, [], ◌∷◌, ◌++◌, length, take, drop, replicate}
use Rattle.std.proofs.Common.{arith, get_or, refl, sym, ap, ◌∙◌, length-append, length-drop, take-append-drop, append_assoc}
use Rattle.std.proofs.lemmas.List.{append-nil, take_all, drop_all, ext_get_or, get_or-take, get_or-drop, length-take, length-replicate}
use Rattle.std.proofs.lemmas.List.{get_or_append_left, get_or-append_right, drop-drop}
use Rattle.ds_disk.specs.Crashes.{padded, written, length_written, Torn, Cut}

-- lists with the same first n bytes
pub front_same : (n : ℕ) (xs ys : List ℕ) → n ≤ length xs → n ≤ length ys → ((i : ℕ) → i < n → get_or xs i 0 ≡ get_or ys i 0)
    → take n xs ≡ take n ys
front_same n xs ys in_xs in_ys same =
    ext_get_or 0 (take n xs) (take n ys) (omega (arith, length-take n xs, length-take n ys))
    (λ i lt. let below : i < n = omega (arith, length-take n xs) in get_or-take n xs i 0 below ∙ same i below
    ∙ sym (get_or-take n ys i 0 below))

-- lists of one length with the same bytes from n on
pub back_same : (n : ℕ) (xs ys : List ℕ) → length xs ≡ length ys → ((i : ℕ) → i < length xs → n ≤ i → get_or xs i 0 ≡ get_or ys i 0)
    → drop n xs ≡ drop n ys
back_same n xs ys long same =
    ext_get_or 0 (drop n xs) (drop n ys) (omega (arith, length-drop n xs, length-drop n ys))
    (λ i lt. get_or-drop n xs i 0 ∙ same (n + i) (omega (arith, length-drop n xs)) (omega arith) ∙ sym (get_or-drop n ys i 0))

-- a write leaves what stands before it
pub torn_front : (place n most m : ℕ) (old new : List ℕ) → Torn place n most old new → m ≤ place → m ≤ length old → take m new ≡ take m old
torn_front place n most m old new torn before within =
    front_same m new old (omega (arith, torn.no_shorter)) within (λ i lt. torn.before i (omega arith) (omega arith))

-- one at the end, or past it, leaves all that was there
pub torn_behind : (place n most : ℕ) (old new : List ℕ) → Torn place n most old new → length old ≤ place
    → new ≡ old ++ drop (length old) new
torn_behind place n most old new torn past =
    sym (take-append-drop (length old) new)
    ∙ ap (λ xs. xs ++ drop (length old) new)
    (torn_front place n most (length old) old new torn past (omega arith) ∙ take_all (length old) old (omega arith))

-- one within what was there leaves all but its own places
pub torn_inside : (place n most : ℕ) (old new : List ℕ) → Torn place n most old new → place + n ≤ length old → most ≤ length old
    → new ≡ take place old ++ take n (drop place new) ++ drop (place + n) old
torn_inside place n most old new torn within short =
    let long : length new ≡ length old = omega (arith, torn.no_shorter, torn.no_longer) in
    let front : take place new ≡ take place old = torn_front place n most place old new torn (omega arith) (omega arith) in
    let back : drop n (drop place new) ≡ drop (place + n) old =
    drop-drop n place new ∙ back_same (place + n) new old long (λ i lt past. torn.behind i (omega arith) past) in
    sym (take-append-drop place new)
    ∙ (λ j. front j ++ drop place new)
    ∙ ap (λ xs. take place old ++ xs) (sym (take-append-drop n (drop place new)) ∙ ap (λ xs. take n (drop place new) ++ xs) back)
    ∙ sym (append_assoc (take place old) (take n (drop place new)) (drop (place + n) old))

-- a cut leaves the first n bytes
pub cut_front : (n : ℕ) (old new : List ℕ) → Cut n old new → n ≤ length old → new ≡ take n old ++ drop n new
cut_front n old new cut within =
    sym (take-append-drop n new)
    ∙ ap (λ xs. xs ++ drop n new)
    (front_same n new old (omega (arith, cut.no_shorter)) within (λ i lt. cut.front i (omega (arith, cut.no_shorter)) lt))

-- one to a length that isn't reached leaves all
pub cut_none : (n : ℕ) (old new : List ℕ) → Cut n old new → length old ≤ n → new ≡ old
cut_none n old new cut past =
    ext_get_or 0 new old (omega (arith, cut.no_shorter, cut.no_longer)) (λ i lt. cut.front i lt (omega (arith, cut.no_longer)))

-- what is written at the end stands behind
pub written_behind : (contents piece : List ℕ) (place : ℕ) → place ≡ length contents → written contents place piece ≡ contents ++ piece
written_behind contents [] place is = sym (append-nil contents)
written_behind contents (byte ∷ bytes) place is =
    let piece = byte ∷ bytes in
    let none : place - length contents ≡ 0 = omega arith in
    let front : padded contents place ≡ contents =
    ap (λ k. take place contents ++ replicate k 0) none ∙ append-nil (take place contents) ∙ take_all place contents (omega arith) in
    ap (λ xs. xs ++ piece ++ drop (place + length piece) contents) front
    ∙ ap (λ xs. contents ++ piece ++ xs) (drop_all (place + length piece) contents (omega arith))
    ∙ append-nil (contents ++ piece)

-- what is written before the end stands between what was before and behind it
pub written_inside : (contents piece : List ℕ) (place : ℕ) → place ≤ length contents
    → written contents place piece ≡ take place contents ++ piece ++ drop (place + length piece) contents
written_inside contents [] place within =
    sym (take-append-drop place contents)
    ∙ ap (λ xs. xs ++ drop place contents) (sym (append-nil (take place contents)))
    ∙ ap (λ k. take place contents ++ [] ++ drop k contents) (omega arith)
written_inside contents (byte ∷ bytes) place within =
    let piece = byte ∷ bytes in
    let none : place - length contents ≡ 0 = omega arith in
    ap (λ xs. xs ++ piece ++ drop (place + length piece) contents)
    (ap (λ k. take place contents ++ replicate k 0) none ∙ append-nil (take place contents))

-- how many bytes there are then
pub length_written_is : (contents piece : List ℕ) (place : ℕ) → length (written contents place piece) ≡ length_written contents place piece
length_written_is contents [] place = refl
length_written_is contents (byte ∷ bytes) place =
    let piece = byte ∷ bytes in
    omega (
      arith,
      length-append (padded contents place ++ piece) (drop (place + length piece) contents),
      length-append (padded contents place) piece,
      length-append (take place contents) (replicate (place - length contents) 0),
      length-take place contents,
      length-replicate {A = ℕ} (place - length contents) 0,
      length-drop (place + length piece) contents,
    )

-- outside the piece the bytes stay
pub written_before : (contents piece : List ℕ) (place i : ℕ) → i < length contents → i < place
    → get_or (written contents place piece) i 0 ≡ get_or contents i 0
written_before contents [] place i within before = refl
written_before contents (byte ∷ bytes) place i within before =
    let piece = byte ∷ bytes in
    let rest = drop (place + length piece) contents in
    let long : length (take place contents) ≡ min place (length contents) = length-take place contents in
    let padded_long = length-append (take place contents) (replicate (place - length contents) 0) in
    let piece_long = length-append (padded contents place) piece in
    get_or_append_left (padded contents place ++ piece) rest 0 i (omega arith)
    ∙ get_or_append_left (padded contents place) piece 0 i (omega arith)
    ∙ get_or_append_left (take place contents) (replicate (place - length contents) 0) 0 i (omega arith)
    ∙ get_or-take place contents i 0 before

pub written_past : (contents piece : List ℕ) (place i : ℕ) → i < length contents → place + length piece ≤ i
    → get_or (written contents place piece) i 0 ≡ get_or contents i 0
written_past contents [] place i within past = refl
written_past contents (byte ∷ bytes) place i within past =
    let piece = byte ∷ bytes in
    let rest = drop (place + length piece) contents in
    let front_long : length (padded contents place ++ piece) ≡ place + length piece = omega (
      arith,
      length-append (padded contents place) piece,
      length-append (take place contents) (replicate (place - length contents) 0),
      length-take place contents,
      length-replicate {A = ℕ} (place - length contents) 0,
    ) in
    get_or-append_right (padded contents place ++ piece) rest (place + length piece) i 0 front_long past
    ∙ get_or-drop (place + length piece) contents (i - (place + length piece)) 0
    ∙ ap (λ k. get_or contents k 0) (omega arith)
