-- What a token is by what it is read as.
use Rattle.std.proofs.Common.{◌≡◌, ℕ, Bool, true, false, cond, List, Some, None, refl, ap, subst}
use Rattle.std.specs.Prelude.{option_map, pos, nat_le}
use denote.Enum.Bare.{same_true}
use Rattle.ds_base.specs.Limits.{most_results}
use Rattle.ds_base.specs.Keys.{is_name, is_ident}
use Rattle.ds_base.specs.declared.key.Ident.{Ident}
use Rattle.ds_base.specs.declared.key.Ident.TheVariants as ident
use Rattle.ds_query.specs.declared.query.Op.{Op}
use Rattle.ds_tokens.specs.contracts.token.Mark.{the_type}
use Rattle.ds_tokens.specs.declared.token.Mark.{Mark}
use Rattle.ds_tokens.specs.Pieces.{Piece, fixed, name, integer, string, is, name_in}
use Rattle.ds_gql.specs.Steps.{compare_in, compare_of, key_text, ident_in, count_in, count_of}
use Rattle.ds_gql.specs.Sentences.{ident_piece}
use Rattle.ds_gql.proofs.SentenceSteps.{only_if}

pub is_mark : (m : Mark) (p : Piece) → is m p ≡ true → p ≡ fixed m
is_mark m (fixed found) e = ap fixed (same_true the_type tt found m e)
is_mark m _ e = absurd (cc)

pub is_name_piece : (p : Piece) (text : List ℕ) → name_in p ≡ Some text → p ≡ name text
is_name_piece (name found) text e = ap name (let same : found ≡ text = cc in same)
is_name_piece _ text e = absurd (cc)

pub compares : (p : Piece) (found : Op) → compare_in p ≡ Some found → (m : Mark) × (p ≡ fixed m) × (compare_of m ≡ Some found)
compares (fixed m) found e = (m, refl, e)
compares _ found e = absurd (cc)

pub counts : (p : Piece) (n : ℕ) → count_in p ≡ Some n → (p ≡ integer (pos n)) × (count_of (pos n) ≡ Some n)
counts (integer (pos k)) n e =
    let parts = only_if (nat_le k most_results) (Some k) n e in
    let same : k ≡ n = let e : Some k ≡ Some n = parts.1 in cc in
    (ap (λ (m : ℕ). integer (pos m)) same, subst (λ (m : ℕ). count_of (pos m) ≡ Some n) same e)
counts _ n e = absurd (cc)

pub kind_text : (p : Piece) (text : List ℕ) → key_text p ≡ Some text → p ≡ string text
kind_text (string found) text e = let parts = only_if (is_name found) (Some found) text e in ap string (let same : Some found ≡ Some text = parts.1 in let e : found ≡ text = cc in e)
kind_text _ text e = absurd (cc)

pub ident_text : (p : Piece) (found : Ident) → ident_in p ≡ Some found → p ≡ ident_piece found
ident_text (integer (pos n)) found e =
    let parts = only_if (is_ident (ident.Id n)) (Some (ident.Id n)) found e in
    let same : ident.Id n ≡ found = let e : Some (ident.Id n) ≡ Some found = parts.1 in cc in ap ident_piece same
ident_text (string text) found e = by (is_name text) e where
  by : (lawful : Bool) → option_map ident.Name (cond lawful (Some text) None) ≡ Some found → string text ≡ ident_piece found
  by true e = let same : ident.Name text ≡ found = cc in ap ident_piece same
  by false e = absurd (cc)
ident_text _ found e = absurd (cc)
