-- The texts of sessions, one behind the other.
use Rattle.std.proofs.Common.{◌≡◌, ℕ, zero, suc, ◌+◌, ◌-◌, ◌<◌, ◌≤◌, List, [], ◌∷◌, ◌++◌, length, map, take, drop, refl, ap, sym, ◌∙◌}
use Rattle.std.proofs.Common.{subst, arith}
use Rattle.std.proofs.Common.{append_assoc, get_or, set, length-set, get_or-set_same, get_or-set_other}
use Rattle.std.proofs.Common.{below_more, Option, Some, None}
use Rattle.std.specs.Prelude.{flat_map, slice_get}
use Rattle.std.specs.Io.KnownBytes.{Appends, Keeps}
use Rattle.std.proofs.lemmas.List.{append-nil, take_all, take-append-le}
use Rattle.ds_base.specs.Buffers.{BufferParts}
use Rattle.ds_clients.specs.declared.output.Cut.{Cut}
use Rattle.ds_clients.specs.Clients.{IsCut, IsCutAt, WrotePart}
use Rattle.ds_clients.specs.Runs.{texts_of}
use Rattle.ds_client.specs.Sessions.{SessionParts}
use Rattle.ds_output.specs.Unsent.{AreEmpty, IsPartTaken}
use Rattle.ds_output.proofs.TextLaws.{all_bytes}

take_drop : {A : Type 0} (n : ℕ) (l : List A) → take n l ++ drop n l ≡ l
take_drop zero l = refl
take_drop (suc n) [] = refl
take_drop (suc n) (x ∷ l) = ap (λ xs. x ∷ xs) (take_drop n l)

-- ---- the texts of sessions

texts-first : (sessions : List SessionParts) (k : ℕ) → texts_of sessions ≡ texts_of (take k sessions) ++ texts_of (drop k sessions)
texts-first sessions zero = refl
texts-first [] (suc k) = refl
texts-first (s ∷ sessions) (suc k) = ap (λ bs. s.text ++ bs) (texts-first sessions k)
    ∙ sym (append_assoc s.text (texts_of (take k sessions)) (texts_of (drop k sessions)))

texts-there : (sessions : List SessionParts) (k : ℕ) (s : SessionParts) → slice_get sessions k ≡ Some s
    → texts_of (drop k sessions) ≡ s.text ++ texts_of (drop (suc k) sessions)
texts-there [] k s is = cc
texts-there (t ∷ sessions) zero s is =
    let same : t ≡ s = cc in ap (λ (u : SessionParts). u.text ++ texts_of sessions) same
texts-there (t ∷ sessions) (suc k) s is = texts-there sessions k s is

-- one text more
pub texts-more : (sessions : List SessionParts) (k : ℕ) (s : SessionParts) → slice_get sessions k ≡ Some s
    → texts_of (take (k + 1) sessions) ≡ texts_of (take k sessions) ++ s.text
texts-more sessions k s is = ap (λ n. texts_of (take n sessions)) (let e : k + 1 ≡ suc k = omega arith in e) ∙ by sessions k is where
  by : (all : List SessionParts) (j : ℕ) → slice_get all j ≡ Some s → texts_of (take (suc j) all) ≡ texts_of (take j all) ++ s.text
  by [] j there = cc
  by (t ∷ all) zero there =
      let same : t ≡ s = cc in append-nil t.text ∙ ap (λ (u : SessionParts). u.text) same
  by (t ∷ all) (suc j) there =
      ap (λ bs. t.text ++ bs) (by all j there) ∙ sym (append_assoc t.text (texts_of (take j all)) s.text)

pub texts-all : (sessions : List SessionParts) (k : ℕ) → length sessions ≤ k → texts_of (take k sessions) ≡ texts_of sessions
texts-all sessions k whole = ap texts_of (take_all k sessions whole)

pub cut_part : (h0 h1 : Option (List ℕ)) (sessions : List SessionParts) (cut : Cut) → IsCutAt h0 h1 sessions cut
    → WrotePart h0 h1 (texts_of sessions) (drop cut.taken (texts_of (drop cut.client sessions)))
cut_part h0 h1 sessions cut at = record {
  taken = texts_of (take cut.client sessions) ++ take cut.taken at.cut_is.session.text;
  wrote = at.wrote;
  whole = texts-first sessions cut.client
      ∙ ap (λ bs. texts_of (take cut.client sessions) ++ bs)
      (sym (take_drop cut.taken (texts_of (drop cut.client sessions)))
      ∙ ap (λ bs. bs ++ drop cut.taken (texts_of (drop cut.client sessions))) first)
      ∙ sym (append_assoc (texts_of (take cut.client sessions)) (take cut.taken at.cut_is.session.text)
      (drop cut.taken (texts_of (drop cut.client sessions))));
} where
  first : take cut.taken (texts_of (drop cut.client sessions)) ≡ take cut.taken at.cut_is.session.text
  first = ap (take cut.taken) (texts-there sessions cut.client at.cut_is.session at.cut_is.there)
      ∙ take-append-le cut.taken at.cut_is.session.text (texts_of (drop (suc cut.client) sessions)) at.cut_is.within

-- ---- the same in buffers

pub bytes-same : {A : Type 0} (text_of : A → List ℕ) (texts : List BufferParts) (xs : List A) (k : ℕ)
    → map (λ (text : BufferParts). text.bytes) texts ≡ map text_of xs → all_bytes (drop k texts) ≡ flat_map text_of (drop k xs)
bytes-same text_of [] [] zero is = refl
bytes-same text_of [] [] (suc k) is = refl
bytes-same text_of [] (x ∷ xs) k is = cc
bytes-same text_of (t ∷ texts) [] k is = cc
bytes-same text_of (t ∷ texts) (x ∷ xs) zero is =
    let first : t.bytes ≡ text_of x = cc in
    let others : map (λ (text : BufferParts). text.bytes) texts ≡ map text_of xs = cc in
    λ i. first i ++ bytes-same text_of texts xs 0 others i
bytes-same text_of (t ∷ texts) (x ∷ xs) (suc k) is =
    let others : map (λ (text : BufferParts). text.bytes) texts ≡ map text_of xs = cc in bytes-same text_of texts xs k others

-- ---- texts that are moved, one after another

-- the first ones were moved into these, and the others are empty
pub record MovedBelow {A : Type 0} (text_of : A → List ℕ) (i : ℕ) (xs : List A) (texts : List BufferParts) : Type 0 where
  pub moved : (k : ℕ) (d : BufferParts) (e : A) → k < i → k < length texts → (get_or texts k d).bytes ≡ text_of (get_or xs k e)
  pub empty : (k : ℕ) (d : BufferParts) → i ≤ k → k < length texts → (get_or texts k d).bytes ≡ []

module _ {A : Type 0} (text_of : A → List ℕ) where
  pub none_moved : (xs : List A) (texts : List BufferParts) → AreEmpty texts → MovedBelow text_of 0 xs texts
  none_moved xs texts h = record {
    moved = λ k d e below there. absurd (omega (arith, below));
    empty = λ k d from there. h k d there;
  }

  pub one_moved : (xs : List A) (texts : List BufferParts) (i : ℕ) (y : BufferParts) (x : A) → i < length texts → i < length xs
      → y.bytes ≡ text_of (get_or xs i x) → MovedBelow text_of i xs texts → MovedBelow text_of (i + 1) xs (set texts i y)
  one_moved xs texts i y x there within is so_far = record {
    moved = λ k d e below known. below_more
        (λ j. j < length texts → (get_or (set texts i y) j d).bytes ≡ text_of (get_or xs j e)) i
        (λ j under lies.
        let other : j ≡ i → ⊥ = λ same. omega (arith, under, same) in
        ap (λ (b : BufferParts). b.bytes) (get_or-set_other texts i j y d other) ∙ so_far.moved j d e under lies)
        (λ lies. ap (λ (b : BufferParts). b.bytes) (get_or-set_same texts i y d there) ∙ is ∙ ap text_of (same_default xs i x e within))
        k below (omega (arith, known, length-set texts i y));
    empty = λ k d from known.
        let other : k ≡ i → ⊥ = λ same. omega (arith, from, same) in
        ap (λ (b : BufferParts). b.bytes) (get_or-set_other texts i k y d other)
        ∙ so_far.empty k d (omega (arith, from)) (omega (arith, known, length-set texts i y));
  } where
    same_default : (zs : List A) (j : ℕ) (d e : A) → j < length zs → get_or zs j d ≡ get_or zs j e
    same_default [] j d e low = absurd (omega (arith, low))
    same_default (z ∷ zs) zero d e low = refl
    same_default (z ∷ zs) (suc j) d e low = same_default zs j d e (omega (arith, low))

  pub all_moved : (xs : List A) (texts : List BufferParts) (i : ℕ) → length texts ≡ length xs → length xs ≤ i
      → MovedBelow text_of i xs texts
      → map (λ (text : BufferParts). text.bytes) texts ≡ map text_of xs
  all_moved xs texts i long whole so_far =
      by xs texts long (λ k d e below. so_far.moved k d e (omega (arith, below, long, whole)) below) where
        by : (zs : List A) (bs : List BufferParts) → length bs ≡ length zs
            → ((k : ℕ) (d : BufferParts) (e : A) → k < length bs → (get_or bs k d).bytes ≡ text_of (get_or zs k e))
            → map (λ (text : BufferParts). text.bytes) bs ≡ map text_of zs
        by [] [] same each = refl
        by [] (b ∷ bs) same each = absurd (omega (arith, same))
        by (z ∷ zs) [] same each = absurd (omega (arith, same))
        by (z ∷ zs) (b ∷ bs) same each =
            let first : b.bytes ≡ text_of z = each 0 b z (omega arith) in
            let others = by zs bs (omega (arith, same)) (λ k d e below. each (suc k) d e (omega (arith, below))) in
            λ i. first i ∷ others i

-- ---- elements

pub get-mapped : {A : Type 0} (session : A → SessionParts) (xs : List A) (i : ℕ) (x : A) → i < length xs → x ≡ get_or xs i x
    → slice_get (map session xs) i ≡ Some (session x)
get-mapped session [] i x below is = absurd (omega (arith, below))
get-mapped session (y ∷ xs) zero x below is = ap (λ z. Some (session z)) (sym is)
get-mapped session (y ∷ xs) (suc i) x below is = get-mapped session xs i x (omega (arith, below)) is

-- ---- the texts of clients, moved

module _ {A : Type 0} (session : A → SessionParts) where
  texts-mapped : (xs : List A) (k : ℕ) → flat_map (λ x. (session x).text) (drop k xs) ≡ texts_of (drop k (map session xs))
  texts-mapped [] zero = refl
  texts-mapped [] (suc k) = refl
  texts-mapped (x ∷ xs) zero = ap (λ bs. (session x).text ++ bs) (texts-mapped xs 0)
  texts-mapped (x ∷ xs) (suc k) = texts-mapped xs k

  pub moved_texts : (items given : List A) (texts : List BufferParts) (sessions : List SessionParts) (k : ℕ) → given ≡ items
      → map session items ≡ sessions → map (λ (text : BufferParts). text.bytes) texts ≡ map (λ x. (session x).text) given
      → all_bytes (drop k texts) ≡ texts_of (drop k sessions)
  moved_texts items given texts sessions k same view is =
      bytes-same (λ x. (session x).text) texts given k is ∙ texts-mapped given k
      ∙ ap (λ xs. texts_of (drop k (map session xs))) same ∙ ap (λ ss. texts_of (drop k ss)) view

  part-of : (xs : List A) (texts : List BufferParts) (k : ℕ) (s : SessionParts) → map (λ (text : BufferParts). text.bytes) texts
      ≡ map (λ x. (session x).text) xs → slice_get (map session xs) k ≡ Some s
      → (k < length texts) × ((d : BufferParts) → (get_or texts k d).bytes ≡ s.text)
  part-of [] texts k s is there = cc
  part-of (x ∷ xs) [] k s is there = cc
  part-of (x ∷ xs) (t ∷ texts) zero s is there =
      let first : t.bytes ≡ (session x).text = cc in
      let same : session x ≡ s = cc in
      (omega arith, λ d. first ∙ ap (λ (u : SessionParts). u.text) same)
  part-of (x ∷ xs) (t ∷ texts) (suc k) s is there =
      let others : map (λ (text : BufferParts). text.bytes) texts ≡ map (λ y. (session y).text) xs = cc in
      let rest = part-of xs texts k s others there in
      (omega (arith, rest.0), rest.1)

  -- a place in a client's text is one in the text that was moved
  pub part_taken : (items given : List A) (texts : List BufferParts) (sessions : List SessionParts) (cut : Cut) → given ≡ items
      → map session items ≡ sessions → map (λ (text : BufferParts). text.bytes) texts ≡ map (λ x. (session x).text) given
      → IsCut sessions cut → IsPartTaken texts cut.client cut.taken
  part_taken items given texts sessions cut same view is at =
      let there : slice_get (map session given) cut.client ≡ Some at.session =
      ap (λ ss. slice_get ss cut.client) (ap (map session) same ∙ view) ∙ at.there in
      let part = part-of given texts cut.client at.session is there in
      record { there = part.0; within = λ d. omega (arith, at.within, ap (λ (bs : List ℕ). length bs) (part.1 d)) }

-- ---- what was written of a round

pub wrote_all : (h0 h1 : Option (List ℕ)) (text rest : List ℕ) → rest ≡ [] → Appends h0 h1 text → WrotePart h0 h1 text rest
wrote_all h0 h1 text rest none wrote = record {
  taken = text;
  wrote = wrote;
  whole = sym (append-nil text) ∙ ap (λ bs. text ++ bs) (sym none);
}

pub wrote_part : (h0 h1 : Option (List ℕ)) (given sessions : List SessionParts) (cut : Cut) (rest : List ℕ) → given ≡ sessions
    → IsCutAt h0 h1 given cut → rest ≡ drop cut.taken (texts_of (drop cut.client sessions)) → WrotePart h0 h1 (texts_of sessions) rest
wrote_part h0 h1 given sessions cut rest same at is =
    subst (WrotePart h0 h1 (texts_of sessions)) (sym is)
    (cut_part h0 h1 sessions cut (subst (λ ss. IsCutAt h0 h1 ss cut) same at))

pub appends_kept : (a b c : Option (List ℕ)) (bs : List ℕ) → Appends a b bs → Keeps b c → Appends a c bs
appends_kept None b c bs wrote kept = tt
appends_kept (Some x) None c bs wrote kept = absurd wrote
appends_kept (Some x) (Some y) None bs wrote kept = absurd kept
appends_kept (Some x) (Some y) (Some z) bs wrote kept = kept ∙ wrote
