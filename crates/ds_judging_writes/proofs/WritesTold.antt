-- What the lines of replies to writes tell, and of those that draw ids and end a transaction.
use Rattle.std.proofs.Common.{◌≡◌, ℕ, suc, ◌^◌, ◌<◌, ◌≤◌, List, [], ◌∷◌, refl, ap, ◌∙◌, arith}
use Rattle.std.proofs.Common.{Bool, true, false, cond, Option, Some, None}
use Rattle.std.specs.Prelude.{All, codes, nat_le, ◌&&◌, option_and_then, IsUtf8}
use Rattle.std.specs.Option.{option_or}
use Rattle.std.proofs.lemmas.Bool.{leb-true}
use Rattle.std.proofs.lemmas.List.Elements.{All-head, All-tail}
use Rattle.json.proofs.Printed.Utf8.{IsUtf8-are_ascii}
use Rattle.serde_json.specs.Data.{Data}
use Rattle.serde_json.specs.Find.{as_array, as_number, as_u64, at}
use Rattle.serde_json.specs.Read.{max_depth}
use Rattle.ds_base.specs.declared.key.Elem.{Elem}
use Rattle.ds_base.specs.declared.key.Ident.{Ident}
use Rattle.ds_base.specs.declared.key.Ident.TheVariants.{Id, Name}
use Rattle.ds_base.specs.Keys.{KeyParts, ends_in_id, renumbered, with_last_id}
use Rattle.ds_base.specs.Limits.{first_drawn_id}
use Rattle.ds_bytes.specs.Lawful.{IsLawfulElem, IsLawfulIdent, IsLawfulKey}
use Rattle.ds_log.specs.Ids.{first_unissued, unissued}
use Rattle.ds_reply.specs.declared.reply.WriteAt.{WriteAt}
use Rattle.ds_reply.specs.declared.reply.WriteAt.TheVariants as at
use Rattle.ds_reply.specs.declared.reply.Body.{Body}
use Rattle.ds_reply.specs.declared.reply.Body.TheVariants as body
use Rattle.ds_json_printing.specs.Printing.{elem_items, ident_data, key_data, keyed_items}
use Rattle.ds_reply.specs.Replies.{reply_data}
use Rattle.ds_journal_text.proofs.PlainData.{ArePlain, IsPlain}
use Rattle.ds_reply_lines.specs.ReplyLines.{IsSaid, last_id_at, last_item, number_at, told_by}
use Rattle.ds_reply_lines.proofs.PlainReplies.{allocated, commit_told, conflicted, delete_alone, delete_inside, exhausted, not_issued}
use Rattle.ds_judging_lines.specs.Deciding.{IsTurn}
use Rattle.ds_judging_lines.specs.declared.turn.Turn.{Turn}
use Rattle.ds_judging_lines.proofs.Decisions.{told_is}

-- ---- ids

at_ident : (next id : ℕ) (i : Ident) (rest : Option ℕ) → IsLawfulIdent i → option_or (unissued next i) rest ≡ Some id
    → (rest ≡ Some id → (next ≤ id) × (id < 2 ^ 64)) → (next ≤ id) × (id < 2 ^ 64)
at_ident next id (Name s) rest lawful is later = later is
at_ident next id (Id n) rest lawful is later = by (nat_le first_drawn_id n) (nat_le next n) refl is where
  by : (a b : Bool) → nat_le next n ≡ b → option_or (cond (a && b) (Some n) None) rest ≡ Some id → (next ≤ id) × (id < 2 ^ 64)
  by true true low is =
      let same : n ≡ id = cc in
      let l : next ≤ n = leb-true next n low in
      let fits : n < 2 ^ 64 = lawful in
      (omega arith, omega arith)
  by true false low is = later is
  by false b low is = later is

-- an id that wasn't issued isn't below the counter
pub unissued_small : (next : ℕ) (es : List Elem) (id : ℕ) → All IsLawfulElem es → first_unissued next es ≡ Some id
    → (next ≤ id) × (id < 2 ^ 64)
unissued_small next [] id lawful is = cc
unissued_small next (e ∷ es) id lawful is =
    at_ident next id e.ident (first_unissued next es) (All-head IsLawfulElem e es lawful).ident is
    (unissued_small next es id (All-tail IsLawfulElem e es lawful))

-- ---- a key with a drawn id

ident_plain : (i : Ident) (j : ℕ) → IsLawfulIdent i → IsPlain (ident_data i) j
ident_plain (Id n) j h = h
ident_plain (Name s) j h = h.utf8

completed_plain : (es : List Elem) (id j : ℕ) → All IsLawfulElem es → id < 2 ^ 64 → ArePlain (elem_items (with_last_id es id)) (suc j)
completed_plain [] id j all fits = tt
completed_plain (e ∷ []) id j all fits = (((All-head IsLawfulElem e [] all).kind.utf8, (fits, tt)), tt)
completed_plain (e ∷ f ∷ es) id j all fits =
    let first = All-head IsLawfulElem e (f ∷ es) all in
    ((first.kind.utf8, (ident_plain e.ident j first.ident, tt)), completed_plain (f ∷ es) id j (All-tail IsLawfulElem e (f ∷ es) all) fits)

within_plain : (namespace : List ℕ) (es : List Elem) (id j : ℕ) → IsUtf8 namespace → All IsLawfulElem es → id < 2 ^ 64
    → ArePlain (keyed_items namespace (with_last_id es id)) (suc j)
within_plain [] es id j utf8 all fits = completed_plain es id j all fits
within_plain (b ∷ bs) es id j utf8 all fits = (utf8, completed_plain es id j all fits)

renumbered_plain : (key : KeyParts) (id : ℕ) → IsLawfulKey key → id < 2 ^ 64 → IsPlain (key_data (renumbered key id)) 126
renumbered_plain key id lawful fits = within_plain key.namespace key.elems id 124 lawful.namespace.utf8 lawful.elems fits

abbrev id_of_last : Option Data → Option ℕ
id_of_last o = option_and_then as_u64 (option_and_then as_number (option_and_then (at 1) o))

last_of_elems : (es : List Elem) (id : ℕ) → ends_in_id es ≡ true → id_of_last (last_item (elem_items (with_last_id es id))) ≡ Some id
last_of_elems [] id ends = cc
last_of_elems (e ∷ []) id ends = refl
last_of_elems (e ∷ f ∷ []) id ends = refl
last_of_elems (e ∷ f ∷ g ∷ es) id ends = last_of_elems (f ∷ g ∷ es) id ends

last_of_key : (namespace : List ℕ) (es : List Elem) (id : ℕ) → ends_in_id es ≡ true
    → id_of_last (last_item (keyed_items namespace (with_last_id es id))) ≡ Some id
last_of_key [] es id ends = last_of_elems es id ends
last_of_key (b ∷ bs) [] id ends = cc
last_of_key (b ∷ bs) (e ∷ []) id ends = refl
last_of_key (b ∷ bs) (e ∷ f ∷ es) id ends = last_of_elems (e ∷ f ∷ es) id ends

pub put_new_alone : (client number : ℕ) → client < 2 ^ 64 → number < 2 ^ 64 → (key : KeyParts) (n : ℕ) → IsPlain (key_data key) 126
    → n < 2 ^ 64
    → IsPlain (reply_data (record { client = client; line = number; body = body.Put key (at.Commit n) })) max_depth
put_new_alone client number fits numbered key n plain small = (
  (
    IsUtf8-are_ascii (codes "client") refl,
    fits,
    (
      IsUtf8-are_ascii (codes "commit") refl,
      small,
      (
        IsUtf8-are_ascii (codes "key") refl,
        plain,
        (
          IsUtf8-are_ascii (codes "line") refl,
          numbered,
          (
            IsUtf8-are_ascii (codes "ok") refl,
            IsUtf8-are_ascii (codes "put") refl,
            tt,
          ),
        ),
      ),
    ),
  ),
  ((refl, (refl, (refl, (refl, tt)))), ((refl, (refl, (refl, tt))), ((refl, (refl, tt)), ((refl, tt), (tt, tt))))),
)

pub put_new_inside : (client number : ℕ) → client < 2 ^ 64 → number < 2 ^ 64 → (key : KeyParts) (m : ℕ) → IsPlain (key_data key) 126
    → m < 2 ^ 64
    → IsPlain (reply_data (record { client = client; line = number; body = body.Put key (at.Place m) })) max_depth
put_new_inside client number fits numbered key m plain small = (
  (
    IsUtf8-are_ascii (codes "client") refl,
    fits,
    (
      IsUtf8-are_ascii (codes "key") refl,
      plain,
      (
        IsUtf8-are_ascii (codes "line") refl,
        numbered,
        (
          IsUtf8-are_ascii (codes "ok") refl,
          IsUtf8-are_ascii (codes "put") refl,
          (
            IsUtf8-are_ascii (codes "place") refl,
            small,
            tt,
          ),
        ),
      ),
    ),
  ),
  ((refl, (refl, (refl, (refl, tt)))), ((refl, (refl, (refl, tt))), ((refl, (refl, tt)), ((refl, tt), (tt, tt))))),
)

-- ---- what is told

-- a number of 64 bits
abbrev pub IsSmallAt : WriteAt → Type 0
IsSmallAt (at.Commit n) = n < 2 ^ 64
IsSmallAt (at.Place m) = m < 2 ^ 64

abbrev pub Says : Turn → Body → Type 0
Says turn b = IsSaid turn.client turn.number turn.line.now b

abbrev pub Error : Turn → Option ℕ
Error turn = number_at (codes "error") (told_by turn.told)

module _ (turn : Turn) (read : IsTurn turn) where
  pub not_issued_tells : (id next : ℕ) → id < 2 ^ 64 → next < 2 ^ 64 → Says turn (body.IdNotIssued id next)
      → (Error turn ≡ Some 21) × (number_at (codes "next") (told_by turn.told) ≡ Some next)
  not_issued_tells id next few small said =
      let is = told_is turn (body.IdNotIssued id next) read (not_issued turn.client turn.number read.client read.number id next few small)
      said in
      (ap (number_at (codes "error")) is, ap (number_at (codes "next")) is)

  pub exhausted_tells : (next : ℕ) → next < 2 ^ 64 → Says turn (body.IdsExhausted next)
      → (Error turn ≡ Some 22) × (number_at (codes "next") (told_by turn.told) ≡ Some next)
  exhausted_tells next small said =
      let is = told_is turn (body.IdsExhausted next) read (exhausted turn.client turn.number read.client read.number next small) said in
      (ap (number_at (codes "error")) is, ap (number_at (codes "next")) is)

  pub allocated_tells : (first count : ℕ) → first < 2 ^ 64 → count < 2 ^ 64 → Says turn (body.AllocateIds first count)
      → (Error turn ≡ None) × (number_at (codes "first") (told_by turn.told) ≡ Some first)
  allocated_tells first count small few said =
      let is = told_is turn (body.AllocateIds first count) read
      (allocated turn.client turn.number read.client read.number first count small few) said in
      (ap (number_at (codes "error")) is, ap (number_at (codes "first")) is)

  pub put_alone_tells : (key : KeyParts) (n : ℕ) → IsPlain (key_data key) 126 → n < 2 ^ 64 → Says turn (body.Put key (at.Commit n))
      → (Error turn ≡ None) × (number_at (codes "commit") (told_by turn.told) ≡ Some n)
      × (last_id_at (codes "key") (told_by turn.told) ≡ id_of_last (option_and_then last_item (as_array (key_data key))))
  put_alone_tells key n plain small said =
      let is = told_is turn (body.Put key (at.Commit n)) read
      (put_new_alone turn.client turn.number read.client read.number key n plain small) said in
      (ap (number_at (codes "error")) is, ap (number_at (codes "commit")) is, ap (last_id_at (codes "key")) is)

  pub put_inside_tells : (key : KeyParts) (m : ℕ) → IsPlain (key_data key) 126 → m < 2 ^ 64 → Says turn (body.Put key (at.Place m))
      → (Error turn ≡ None) × (number_at (codes "place") (told_by turn.told) ≡ Some m)
      × (last_id_at (codes "key") (told_by turn.told) ≡ id_of_last (option_and_then last_item (as_array (key_data key))))
  put_inside_tells key m plain small said =
      let is = told_is turn (body.Put key (at.Place m)) read
      (put_new_inside turn.client turn.number read.client read.number key m plain small) said in
      (ap (number_at (codes "error")) is, ap (number_at (codes "place")) is, ap (last_id_at (codes "key")) is)

  pub delete_alone_tells : (key : KeyParts) (n : ℕ) → IsLawfulKey key → n < 2 ^ 64 → Says turn (body.Delete key (at.Commit n))
      → (Error turn ≡ None) × (number_at (codes "commit") (told_by turn.told) ≡ Some n)
  delete_alone_tells key n lawful small said =
      let is = told_is turn (body.Delete key (at.Commit n)) read
      (delete_alone turn.client turn.number read.client read.number key n lawful small) said in
      (ap (number_at (codes "error")) is, ap (number_at (codes "commit")) is)

  pub delete_inside_tells : (key : KeyParts) (m : ℕ) → IsLawfulKey key → m < 2 ^ 64 → Says turn (body.Delete key (at.Place m))
      → (Error turn ≡ None) × (number_at (codes "place") (told_by turn.told) ≡ Some m)
  delete_inside_tells key m lawful small said =
      let is = told_is turn (body.Delete key (at.Place m)) read
      (delete_inside turn.client turn.number read.client read.number key m lawful small) said in
      (ap (number_at (codes "error")) is, ap (number_at (codes "place")) is)

  pub commit_tells : (n : ℕ) → n < 2 ^ 64 → Says turn (body.Commit n)
      → (Error turn ≡ None) × (number_at (codes "commit") (told_by turn.told) ≡ Some n)
  commit_tells n small said =
      let is = told_is turn (body.Commit n) read (commit_told turn.client turn.number read.client read.number n small) said in
      (ap (number_at (codes "error")) is, ap (number_at (codes "commit")) is)

  pub conflict_tells : (n : ℕ) (group : KeyParts) (m : ℕ) → n < 2 ^ 64 → IsLawfulKey group → m < 2 ^ 64
      → Says turn (body.Conflict n group m) → (Error turn ≡ Some 13) × (number_at (codes "place") (told_by turn.told) ≡ Some m)
  conflict_tells n group m few lawful small said =
      let is = told_is turn (body.Conflict n group m) read
      (conflicted turn.client turn.number read.client read.number n group m few lawful small) said in
      (ap (number_at (codes "error")) is, ap (number_at (codes "place")) is)

  -- a put whose last id is drawn tells it
  pub new_put_tells : (key : KeyParts) (id : ℕ) (place : WriteAt) → IsLawfulKey key → ends_in_id key.elems ≡ true → id < 2 ^ 64
      → IsSmallAt place → Says turn (body.Put (renumbered key id) place) → (Error turn ≡ None)
      × (last_id_at (codes "key") (told_by turn.told) ≡ Some id)
  new_put_tells key id (at.Commit n) lawful ends fits small said =
      let told = put_alone_tells (renumbered key id) n (renumbered_plain key id lawful fits) small said in
      (told.0, told.2 ∙ last_of_key key.namespace key.elems id ends)
  new_put_tells key id (at.Place m) lawful ends fits small said =
      let told = put_inside_tells (renumbered key id) m (renumbered_plain key id lawful fits) small said in
      (told.0, told.2 ∙ last_of_key key.namespace key.elems id ends)
