-- How long replies to writes, commits and draws of ids are at most.
use Rattle.std.proofs.Common.{ℕ, ◌+◌, ◌*◌, ◌/◌, ◌%◌, ◌^◌, ◌<◌, ◌≤◌, List, [], ◌∷◌, ◌++◌, Bool, true, false, length}
use Rattle.std.proofs.Common.{ap, sym, subst, arith, cond, length-append}
use Rattle.std.specs.Prelude.{nat_lt, nat_le, ◌&&◌, IsTrue, ⊤}
use Rattle.std.specs.Char.{digit_char}
use Rattle.std.specs.Fmt.{decimal}
use Rattle.std.specs.List.{list_all, sum_by}
use Rattle.std.proofs.lemmas.Bool.{and_parts, leb-true}
use Rattle.std.proofs.lemmas.Fmt.{length-decimal-le}
use Rattle.std.proofs.lemmas.List.Sums.{sum_by-cons}
use Rattle.json.specs.Print.{escape, escape_byte, escape_letter, quoted}
use Rattle.serde_json.specs.Data.{item, no_items}
use Rattle.serde_json.specs.Written.{comma_if, compact_text, items_text}
use Rattle.ds_base.specs.Keys.{KeyParts, is_elem, is_ident, is_key, is_name, is_namespace, renumbered, with_last_id}
use Rattle.ds_base.specs.Limits.{greatest_id, most_elements}
use Rattle.ds_base.specs.declared.key.Elem.{Elem}
use Rattle.ds_base.specs.declared.key.Ident.{Ident}
use Rattle.ds_base.specs.declared.key.Ident.TheVariants.{Id, Name}
use Rattle.ds_json_printing.specs.Printing.{elem_data, elem_items, ident_data, key_data, keyed_items}
use Rattle.ds_log.specs.declared.Write.TheVariants as write
use Rattle.ds_output.specs.Room.{HasRoomForCommit, HasRoomForIds, HasRoomForNew, HasRoomForWrite}
use Rattle.ds_output.specs.Room.{most_of_elem, most_of_ident, most_of_numbers, most_of_reply, number_at}
use Rattle.ds_output.specs.Writes.{body_with}
use Rattle.ds_reply.specs.Replies.{reply_text}
use Rattle.ds_reply.specs.declared.reply.WriteAt.{WriteAt}
use Rattle.ds_reply.specs.declared.reply.WriteAt.TheVariants as at

-- ---- texts and numbers

escaped-byte : (x : ℕ) → length (escape_byte x) ≤ 6
unfolding escape_byte
escaped-byte x = by (nat_lt 0 (escape_letter x)) (nat_lt x 32) (escape_letter x) (digit_char (x / 16)) (digit_char (x % 16)) where
  by : (a b : Bool) (l p q : ℕ) → length (cond a (92 ∷ l ∷ []) (cond b (92 ∷ 117 ∷ 48 ∷ 48 ∷ p ∷ q ∷ []) (x ∷ []))) ≤ 6
  by true b l p q = omega arith
  by false true l p q = omega arith
  by false false l p q = omega arith

escaped : (text : List ℕ) → length (escape text) ≤ length text * 6
escaped [] = omega arith
escaped (x ∷ xs) = omega (arith, length-append (escape_byte x) (escape xs), escaped-byte x, escaped xs)

quoted-long : (text : List ℕ) → length (quoted text) ≤ length text * 6 + 2
quoted-long text = omega (arith, length-append (escape text) (34 ∷ []), escaped text)

decimal-long : (n : ℕ) → n < 2 ^ 64 → length (decimal n) ≤ 20
decimal-long n low = length-decimal-le 20 n (omega arith) (omega (arith, low)) low

-- ---- a key

-- an element's last part takes no more than its bound and a number
abbrev IsShort : Elem → Type 0
IsShort e = length (compact_text (ident_data e.ident)) ≤ most_of_ident e.ident + 20

abbrev AreShort : List Elem → Type 0
AreShort [] = ⊤
AreShort (e ∷ es) = IsShort e × AreShort es

short-ident : (i : Ident) → IsTrue (is_ident i) → length (compact_text (ident_data i)) ≤ most_of_ident i + 20
short-ident (Id n) valid = decimal-long n (omega (arith, leb-true n greatest_id (and_parts (nat_le 1 n) (nat_le n greatest_id) valid).1))
short-ident (Name name) valid = omega (arith, quoted-long name)

short-elems : (es : List Elem) → IsTrue (list_all is_elem es) → AreShort es
short-elems [] valid = tt
short-elems (e ∷ es) valid =
    let parts = and_parts (is_elem e) (list_all is_elem es) valid in
    (short-ident e.ident (and_parts (is_name e.kind) (is_ident e.ident) parts.0).1, short-elems es parts.1)

short-renumbered : (es : List Elem) (id : ℕ) → id < 2 ^ 64 → AreShort es → AreShort (with_last_id es id)
short-renumbered [] id low short = tt
short-renumbered (e ∷ []) id low short = (decimal-long id low, tt)
short-renumbered (e ∷ f ∷ es) id low short = (short.0, short-renumbered (f ∷ es) id low short.1)

-- a number takes no more than its part of any element's bound
no-more : (es : List Elem) (id : ℕ) → sum_by most_of_elem (with_last_id es id) ≤ sum_by most_of_elem es
no-more [] id = omega arith
no-more (e ∷ []) id = omega arith
no-more (e ∷ f ∷ es) id =
    omega (
      arith,
      sum_by-cons most_of_elem e (with_last_id (f ∷ es) id),
      sum_by-cons most_of_elem e (f ∷ es),
      no-more (f ∷ es) id,
    )

elem-long : (e : Elem) → IsShort e → length (compact_text (elem_data e)) + 1 ≤ most_of_elem e
elem-long e short =
    omega (
      arith,
      length-append (quoted e.kind) (items_text true (item (ident_data e.ident) no_items)),
      length-append (compact_text (ident_data e.ident)) (93 ∷ []),
      quoted-long e.kind,
      short,
    )

elems-long : (later : Bool) (es : List Elem) → AreShort es → length (items_text later (elem_items es)) ≤ sum_by most_of_elem es + 1
elems-long later [] short = omega arith
elems-long later (e ∷ es) short =
    let text = compact_text (elem_data e) in
    let rest = items_text true (elem_items es) in
    let fits : length (comma_if later ++ (text ++ rest)) ≤ sum_by most_of_elem (e ∷ es) + 1 =
    omega (
      arith,
      comma later,
      length-append (comma_if later) (text ++ rest),
      length-append text rest,
      sum_by-cons most_of_elem e es,
      elem-long e short.0,
      elems-long true es short.1,
    ) in
    fits where
      comma : (b : Bool) → length (comma_if b) ≤ 1
      comma true = omega arith
      comma false = omega arith

key-long : (k : KeyParts) → AreShort k.elems
    → length (compact_text (key_data k)) ≤ (length k.namespace * 6 + 5) + sum_by most_of_elem k.elems
key-long k short = omega (arith, by k.namespace k.elems short) where
  by : (namespace : List ℕ) (es : List Elem) → AreShort es
      → length (items_text false (keyed_items namespace es)) ≤ (length namespace * 6 + 4) + sum_by most_of_elem es
  by [] es short = omega (arith, elems-long false es short)
  by (b ∷ bs) es short =
      omega (arith, length-append (quoted (b ∷ bs)) (items_text true (elem_items es)), quoted-long (b ∷ bs), elems-long true es short)

short-key : (k : KeyParts) → IsTrue (is_key k) → AreShort k.elems
short-key k valid =
    let path = (and_parts (is_namespace k.namespace) _ valid).1 in
    short-elems k.elems (and_parts (nat_le 1 (length k.elems) && nat_le (length k.elems) most_elements) (list_all is_elem k.elems) path).1

-- ---- replies

module _ (client line : ℕ) (low : client < 2 ^ 64) (high : line < 2 ^ 64) where
  -- beside its key a reply to a write has only names, signs and numbers
  reply-long : (deletes : Bool) (k : KeyParts) (p : WriteAt) → number_at p < 2 ^ 64
      → length (reply_text (record { client = client; line = line; body = body_with deletes k p }))
      ≤ 248 + length (compact_text (key_data k))
  unfolding escape_byte
  reply-long true k (at.Commit n) number =
      simp length-append (omega (arith, decimal-long client low, decimal-long line high, decimal-long n number))
  reply-long true k (at.Place n) number =
      simp length-append (omega (arith, decimal-long client low, decimal-long line high, decimal-long n number))
  reply-long false k (at.Commit n) number =
      simp length-append (omega (arith, decimal-long client low, decimal-long line high, decimal-long n number))
  reply-long false k (at.Place n) number =
      simp length-append (omega (arith, decimal-long client low, decimal-long line high, decimal-long n number))

-- ---- so there is room

pub room_for_write : (key : KeyParts) (keep spare : ℕ) → IsTrue (is_key key) → keep + most_of_reply key ≤ spare
    → HasRoomForWrite key keep spare
room_for_write key keep spare valid fits = λ w p own number client line low high. by w p own number client line low high where
  by : HasRoomForWrite key keep spare
  by (write.Put e) p own number client line low high =
      omega (
        arith,
        reply-long client line low high false e.key p number,
        key-long e.key (short-key e.key (subst (λ k. IsTrue (is_key k)) (sym own) valid)),
        ap most_of_reply own,
        fits,
      )
  by (write.Delete k) p own number client line low high =
      omega (
        arith,
        reply-long client line low high true k p number,
        key-long k (short-key k (subst (λ k. IsTrue (is_key k)) (sym own) valid)),
        ap most_of_reply own,
        fits,
      )

pub room_for_new : (key : KeyParts) (keep spare : ℕ) → IsTrue (is_key key) → keep + most_of_reply key ≤ spare
    → HasRoomForNew key keep spare
room_for_new key keep spare valid fits = λ id p below number client line low high.
    omega (
      arith,
      reply-long client line low high false (renumbered key id) p number,
      key-long (renumbered key id) (short-renumbered key.elems id below (short-key key valid)),
      no-more key.elems id,
      fits,
    )

pub room_for_commit : (keep spare : ℕ) → keep + most_of_numbers ≤ spare → HasRoomForCommit keep spare
unfolding escape_byte
room_for_commit keep spare fits = λ commit below client line low high.
    simp length-append (omega (arith, decimal-long client low, decimal-long line high, decimal-long commit below, fits))

pub room_for_ids : (keep spare : ℕ) → keep + most_of_numbers ≤ spare → HasRoomForIds keep spare
unfolding escape_byte
room_for_ids keep spare fits = λ first count below few client line low high.
    simp length-append (omega (
      arith,
      decimal-long client low,
      decimal-long line high,
      decimal-long first below,
      decimal-long count few,
      fits,
    ))
