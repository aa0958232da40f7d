-- What is written as a cursor is read as the place that it was written for, and under no branch with other query bytes.
use Rattle.std.specs.Prelude.{◌≡◌, ℕ, zero, suc, ◌+◌, ◌*◌, ◌/◌, ◌%◌, ◌^◌, ◌<◌, ◌≤◌, Bool, true, false, ◌&&◌, nat_le, nat_eq, bytes_eq, cond}
use Rattle.std.specs.Prelude.{refl}
use Rattle.std.specs.Prelude.{List, [], ◌∷◌, ◌++◌, length, take, drop, Option, Some, None, Result, Ok, Err, IfOk}
use Rattle.std.specs.declared.alloc.AllocError.{AllocError}
use Rattle.std.specs.Result.{result_ok}
use Rattle.std.proofs.Common.{ap, sym, ◌∙◌, subst, arith, length-append}
use Rattle.std.proofs.Math.Dec.{eqb-zero-suc}
use Rattle.std.proofs.Math.Nat.{mod-eq_of_lt}
use Rattle.std.proofs.Math.Seq.{take-append_seam, drop-append_seam}
use Rattle.std.proofs.lemmas.Bool.{eq-eqb, le-leb, and_right}
use Rattle.std.proofs.lemmas.Nat.{mod-pow-add}
use Rattle.std.proofs.lemmas.Slice.Eq.{bytes_eq-Decides}
use Rattle.base64.specs.Engines.{standard}
use Rattle.base64.specs.GeneralPurpose.{decode_of}
use Rattle.ds_query.specs.declared.branch.Branch.{Branch}
use Rattle.ds_query.specs.declared.row.Place.{Place}
use Rattle.ds_cursor.specs.declared.cursor.CursorRefused.TheVariants as refused
use Rattle.ds_cursor.specs.QueryBytes.{namespace_front, namespace_version, branch_bytes, query_bytes, version_of}
use Rattle.ds_cursor.specs.Cursors.{place_bytes, cursor_bytes, CursorParts, is_version, parts_with, parts_of, parts_of_decoded}
use Rattle.ds_cursor.specs.Cursors.{is_of_branch}
use Rattle.ds_cursor.specs.Cursors.{IsPlaceIn, EncodesPlace, OfBranch, PartsAre, CursorIs, IsReadBack, IsOfOneQuery}

-- ---- the parts

-- a number below 2^32 is made of its four bytes
four_bytes-joined : (n : ℕ) → n < 2 ^ 32 → n / 2 ^ 24 % 256 * 2 ^ 24 + n / 2 ^ 16 % 256 * 2 ^ 16 + n / 2 ^ 8 % 256 * 2 ^ 8 + n % 256 ≡ n
four_bytes-joined n small = omega (arith, mod-pow-add n 8 24, mod-pow-add n 8 16, mod-pow-add n 8 8, mod-eq_of_lt small)

-- query bytes and a place are taken apart where the query bytes end
parted : (version : ℕ) (query place : List ℕ) (n : ℕ) → n ≡ length query → is_version version query ≡ true
    → parts_with version n (query ++ place) ≡ Some (record { version = version; query = query; place = place })
parted version query place n long is =
    let front : take n (query ++ place) ≡ query = ap (λ (k : ℕ). take k (query ++ place)) long ∙ take-append_seam query place in
    let back : drop n (query ++ place) ≡ place = ap (λ (k : ℕ). drop k (query ++ place)) long ∙ drop-append_seam query place in
    let within : n ≤ length (query ++ place) = omega (arith, length-append query place) in
    let fits : nat_le n (length (query ++ place)) ≡ true = le-leb n (length (query ++ place)) within in
    let whole : List ℕ → List ℕ → Option CursorParts = λ s t. Some (record { version = version; query = s; place = t }) in
    (λ i. cond (fits i && is_version version (front i)) (whole (front i) (back i)) None)
    ∙ ap (λ (b : Bool). cond (true && b) (whole query place) None) is

-- the query bytes of a namespace other than the default don't begin with the empty text
version-is : (namespace rest : List ℕ) → is_version (namespace_version namespace) (namespace_front namespace ++ rest) ≡ true
version-is [] rest = refl
version-is (zero ∷ bs) rest = refl
version-is (suc b ∷ bs) rest = rw (eqb-zero-suc b) refl

pub parts_of_written : (q : Branch) (place : Option Place) (text : List ℕ) → decode_of standard text ≡ Ok (cursor_bytes q place)
    → length (query_bytes q) < 2 ^ 32
    → parts_of text ≡ Some (record { version = version_of q; query = query_bytes q; place = place_bytes place })
parts_of_written q place text decoded short =
    ap (λ r. parts_of_decoded (result_ok r)) decoded
    ∙ ap (λ (n : ℕ). parts_with (version_of q) n (query_bytes q ++ place_bytes place)) (four_bytes-joined (length (query_bytes q)) short)
    ∙ parted (version_of q) (query_bytes q) (place_bytes place) (length (query_bytes q)) refl (version-is q.namespace (branch_bytes q))

-- ---- what they are to a branch

own : (q : Branch) (place : List ℕ) → is_of_branch q (record { version = version_of q; query = query_bytes q; place = place }) ≡ true
own q place =
    let version : nat_eq (version_of q) (version_of q) ≡ true = eq-eqb (version_of q) (version_of q) refl in
    let query : bytes_eq (query_bytes q) (query_bytes q) ≡ true = (bytes_eq-Decides (query_bytes q) (query_bytes q)).1 refl in
    λ i. version i && query i

falsity : (b : Bool) → (b ≡ true → ⊥) → b ≡ false
falsity true no_truth = absurd (no_truth refl)
falsity false no_truth = refl

another : (q other : Branch) (place : List ℕ) → (query_bytes q ≡ query_bytes other → ⊥)
    → is_of_branch other (record { version = version_of q; query = query_bytes q; place = place }) ≡ false
another q other place differ = and_right (nat_eq (version_of q) (version_of other)) (bytes_eq (query_bytes q) (query_bytes other))
    (falsity (bytes_eq (query_bytes q) (query_bytes other))
    (λ same. differ ((bytes_eq-Decides (query_bytes q) (query_bytes other)).0 same)))

-- What is written is a cursor of its own branch, at the place that it was written for.
pub written_is_own : (q : Branch) (place : Option Place) (text : List ℕ) → decode_of standard text ≡ Ok (cursor_bytes q place)
    → length (query_bytes q) < 2 ^ 32 → IsPlaceIn q.columns place → CursorIs q text (Ok place)
written_is_own q place text decoded short lawful =
    let stands : EncodesPlace q.columns (place_bytes place) place = record { written = refl; lawful = lawful } in
    subst (λ (parts : Option CursorParts). PartsAre q parts (Ok place)) (sym (parts_of_written q place text decoded short))
    (subst (λ (b : Bool). OfBranch b q.columns (place_bytes place) (Ok place)) (sym (own q (place_bytes place))) stands)

-- It is a cursor of another query under each branch with other query bytes.
pub written_is_others : (q other : Branch) (place : Option Place) (text : List ℕ) → decode_of standard text ≡ Ok (cursor_bytes q place)
    → length (query_bytes q) < 2 ^ 32 → (query_bytes q ≡ query_bytes other → ⊥) → CursorIs other text (Err refused.CursorMismatch)
written_is_others q other place text decoded short differ =
    subst (λ (parts : Option CursorParts). PartsAre other parts (Err refused.CursorMismatch))
    (sym (parts_of_written q place text decoded short))
    (subst (λ (b : Bool). OfBranch b other.columns (place_bytes place) (Err refused.CursorMismatch))
    (sym (another q other (place_bytes place) differ)) refl)

-- ---- what a writer gives

pub read_back : (q : Branch) (place : Option Place) (bytes : List ℕ) (r : Result (List ℕ) AllocError) → bytes ≡ cursor_bytes q place
    → length (query_bytes q) < 2 ^ 32 → IfOk r (λ text. decode_of standard text ≡ Ok bytes) → IfOk r (IsReadBack q place)
read_back q place bytes (Ok text) is short decoded =
    written_is_own q place text (subst (λ (b : List ℕ). decode_of standard text ≡ Ok b) is decoded) short
read_back q place bytes (Err e) is short decoded = tt

pub of_one_query : (q : Branch) (place : Option Place) (bytes : List ℕ) (r : Result (List ℕ) AllocError) → bytes ≡ cursor_bytes q place
    → length (query_bytes q) < 2 ^ 32 → IfOk r (λ text. decode_of standard text ≡ Ok bytes) → IfOk r (IsOfOneQuery q)
of_one_query q place bytes (Ok text) is short decoded = λ other differ.
    written_is_others q other place text (subst (λ (b : List ℕ). decode_of standard text ≡ Ok b) is decoded) short differ
of_one_query q place bytes (Err e) is short decoded = tt
