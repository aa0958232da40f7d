-- What the loops over a disk's bytes make, step by step.
use Rattle.std.proofs.Common.{◌≡◌, ℕ, zero, suc, ◌+◌, ◌-◌, ◌<◌, ◌≤◌, List, [], ◌∷◌, ◌++◌, length, take, drop, set, arith, refl, sym, ap}
use Rattle.std.proofs.Common.{◌∙◌, ⊎_elim}
use Rattle.std.specs.Prelude.{Option, None, replicate}
use Rattle.std.proofs.lemmas.Bool.{cases_lt}
use Rattle.std.proofs.lemmas.List.{append-nil, take_all, drop_all, take-append-le, take-replicate, length-replicate, length-append}
use Rattle.std.proofs.Math.Seq.{take-append-add}
use Rattle.ds_disk.specs.Crashes.{padded, written}
use Rattle.ds_disk.specs.Memory.{wiped}

-- nothing is wiped in no places
pub wiped_none : (stays : List (Option ℕ)) (place : ℕ) → wiped stays place zero ≡ stays
wiped_none [] place = refl
wiped_none (slot ∷ stays) zero = refl
wiped_none (slot ∷ stays) (suc place) = ap (λ rest. slot ∷ rest) (wiped_none stays place)

-- one place more
pub wiped_more : (stays : List (Option ℕ)) (place k j : ℕ) → j ≡ place + k → j < length stays
    → set (wiped stays place k) j None ≡ wiped stays place (suc k)
wiped_more [] place k j is within = absurd (omega arith)
wiped_more (slot ∷ stays) (suc place) k zero is within = absurd (omega arith)
wiped_more (slot ∷ stays) (suc place) k (suc j) is within =
    ap (λ rest. slot ∷ rest) (wiped_more stays place k j (omega arith) (omega arith))
wiped_more (slot ∷ stays) zero (suc k) zero is within = absurd (omega arith)
wiped_more (slot ∷ stays) zero (suc k) (suc j) is within = ap (λ rest. None ∷ rest) (wiped_more stays zero k j (omega arith) (omega arith))
wiped_more (slot ∷ stays) zero zero (suc j) is within = absurd (omega arith)
wiped_more (slot ∷ stays) zero zero zero is within = ap (λ rest. None ∷ rest) (sym (wiped_none stays zero))

-- places past the end are none
pub wiped_rest : (stays : List (Option ℕ)) (place k n : ℕ) → length stays ≤ place + k → k ≤ n → wiped stays place k ≡ wiped stays place n
wiped_rest [] place k n past le = refl
wiped_rest (slot ∷ stays) (suc place) k n past le = ap (λ rest. slot ∷ rest) (wiped_rest stays place k n (omega arith) le)
wiped_rest (slot ∷ stays) zero zero n past le = absurd (omega arith)
wiped_rest (slot ∷ stays) zero (suc k) zero past le = absurd (omega arith)
wiped_rest (slot ∷ stays) zero (suc k) (suc n) past le = ap (λ rest. None ∷ rest) (wiped_rest stays zero k n (omega arith) (omega arith))

-- the front and the back of contents that were filled up with zeros
grown_front : (contents : List ℕ) (place k : ℕ) → place - length contents ≤ k
    → take place (contents ++ replicate k 0) ≡ padded contents place
grown_front contents place k enough = ⊎_elim within past (cases_lt place (length contents))
  where
    within : place < length contents → take place (contents ++ replicate k 0) ≡ padded contents place
    within lt =
        let none : 0 ≡ place - length contents = omega arith in
        take-append-le place contents (replicate k 0) (omega arith)
        ∙ sym (append-nil (take place contents))
        ∙ ap (λ n. take place contents ++ replicate n 0) none

    past : length contents ≤ place → take place (contents ++ replicate k 0) ≡ padded contents place
    past le =
        let split : place ≡ length contents + (place - length contents) = omega arith in
        ap (λ n. take n (contents ++ replicate k 0)) split
        ∙ take-append-add contents (replicate k 0) (place - length contents)
        ∙ ap (λ xs. contents ++ xs) (take-replicate (place - length contents) k 0 enough)
        ∙ ap (λ xs. xs ++ replicate (place - length contents) 0) (sym (take_all place contents le))

grown_back : (contents : List ℕ) (end : ℕ) → drop end (contents ++ replicate (end - length contents) 0) ≡ drop end contents
grown_back contents end = ⊎_elim within past (cases_lt end (length contents))
  where
    within : end < length contents → drop end (contents ++ replicate (end - length contents) 0) ≡ drop end contents
    within lt = let none : end - length contents ≡ 0 = omega arith in ap (λ n. drop end (contents ++ replicate n 0)) none
        ∙ ap (drop end) (append-nil contents)

    past : length contents ≤ end → drop end (contents ++ replicate (end - length contents) 0) ≡ drop end contents
    past le =
        drop_all end (contents ++ replicate (end - length contents) 0)
        (omega (
          arith,
          length-append contents (replicate (end - length contents) 0),
          length-replicate {A = ℕ} (end - length contents)
              0,
        ))
        ∙ sym (drop_all end contents le)

-- a piece that is put over contents that were filled up is written to them
pub put_grown : (contents piece grown : List ℕ) (place : ℕ) → 0 < length piece
    → grown ≡ contents ++ replicate (place + length piece - length contents) 0
    → take place grown ++ piece ++ drop (place + length piece) grown ≡ written contents place piece
put_grown contents [] grown place some is = absurd (omega arith)
put_grown contents (byte ∷ bytes) grown place some is =
    let piece = byte ∷ bytes in
    let k = place + length piece - length contents in
    let front : take place grown ≡ padded contents place = ap (take place) is ∙ grown_front contents place k (omega arith) in
    let back : drop (place + length piece) grown ≡ drop (place + length piece) contents = ap (drop (place + length piece)) is
    ∙ grown_back contents (place + length piece) in
    λ i. front i ++ piece ++ back i
