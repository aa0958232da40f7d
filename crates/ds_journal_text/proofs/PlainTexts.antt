-- The compact text of plain data is UTF-8, and no newline stands in that of any data.
use Rattle.std.proofs.Common.{◌≡◌, ℕ, zero, suc, ◌+◌, ◌/◌, ◌%◌, ◌^◌, ◌<◌, ◌==◌, ◌&&◌, not, pos, negsuc, List, [], ◌∷◌, ◌++◌, Bool, true}
use Rattle.std.proofs.Common.{false, cond}
use Rattle.std.proofs.Common.{refl, sym, subst, arith, inl, inr, ne_eqb}
use Rattle.std.specs.Prelude.{IsUtf8, decimal}
use Rattle.core.specs.Fmt.{digits, digits_onto, digit_glyph}
use Rattle.std.proofs.lemmas.Bool.{and_parts, cases_lt, cases_eq}
use Rattle.std.proofs.lemmas.Fmt.{IsAscii-decimal}
use Rattle.std.proofs.lemmas.Str.{IsUtf8-append, IsUtf8-nil, IsUtf8-from_ascii, is_utf8-from_IsUtf8}
use Rattle.std.specs.Str.{is_utf8}
use Rattle.json.specs.Print.{escape_byte, escape, quoted}
use Rattle.json.proofs.Printed.Strings.{escape_byte_plain}
use Rattle.json.proofs.Printed.Utf8.{IsUtf8-are_ascii, IsUtf8-quoted, IsUtf8-boolean}
use Rattle.serde_json.specs.Data.{Num, unsigned, negative, float, Data, null, boolean, number, string, array, object, Items, no_items, item}
use Rattle.serde_json.specs.Data.{Members, no_members, member}
use Rattle.serde_json.specs.Written.{compact_text, items_text, members_text, comma_if, number_text}
use Rattle.ds_rounds.specs.Drafts.{IsUnbroken}
use Rattle.ds_rounds.proofs.LineLaws.{IsUnbroken-append}
use Rattle.ds_journal_text.proofs.PlainData.{IsPlain, ArePlain, MembersArePlain, IsPlainNumber}

-- ---- UTF-8

ascii_utf8 : (n : ℕ) → n < 2 ^ 64 → IsUtf8 (decimal n)
ascii_utf8 n h = IsUtf8-from_ascii (decimal n) (IsAscii-decimal n h)

number_utf8 : (n : Num) → IsPlainNumber n → IsUtf8 (number_text n)
number_utf8 (unsigned n) h = ascii_utf8 n h
number_utf8 (negative (pos n)) h = absurd h
number_utf8 (negative (negsuc n)) h = IsUtf8-append (45 ∷ []) (decimal (suc n)) (IsUtf8-are_ascii (45 ∷ []) refl) (ascii_utf8 (suc n) (omega arith))
number_utf8 (float x) h = absurd h

comma_utf8 : (later : Bool) → IsUtf8 (comma_if later)
comma_utf8 true = IsUtf8-are_ascii (44 ∷ []) refl
comma_utf8 false = IsUtf8-nil

mutual
  utf8 : (d : Data) (k : ℕ) → IsPlain d k → IsUtf8 (compact_text d)
  utf8 null k h = IsUtf8-are_ascii _ refl
  utf8 (boolean b) k h = IsUtf8-boolean b
  utf8 (number n) k h = number_utf8 n h
  utf8 (string s) k h = IsUtf8-quoted s h
  utf8 (array ds) zero h = absurd h
  utf8 (array ds) (suc k) h = IsUtf8-append (91 ∷ []) _ (IsUtf8-are_ascii (91 ∷ []) refl) (items_utf8 false ds k h)
  utf8 (object ms) zero h = absurd h
  utf8 (object ms) (suc k) h = IsUtf8-append (123 ∷ []) _ (IsUtf8-are_ascii (123 ∷ []) refl) (members_utf8 false ms k h.0)

  items_utf8 : (later : Bool) (ds : Items) (k : ℕ) → ArePlain ds k → IsUtf8 (items_text later ds)
  items_utf8 later no_items k h = IsUtf8-are_ascii _ refl
  items_utf8 later (item d ds) k h = IsUtf8-append _ _ (comma_utf8 later) (IsUtf8-append _ _ (utf8 d k h.0) (items_utf8 true ds k h.1))

  members_utf8 : (later : Bool) (ms : Members) (k : ℕ) → MembersArePlain ms k → IsUtf8 (members_text later ms)
  members_utf8 later no_members k h = IsUtf8-are_ascii _ refl
  members_utf8 later (member name d ms) k h =
      IsUtf8-append _ _ (comma_utf8 later) (IsUtf8-append _ _ (IsUtf8-quoted name h.0)
      (IsUtf8-append (58 ∷ []) _ (IsUtf8-are_ascii (58 ∷ []) refl) (IsUtf8-append _ _ (utf8 d k h.1) (members_utf8 true ms k h.2))))

pub compact-is_utf8 : (d : Data) (k : ℕ) → IsPlain d k → is_utf8 (compact_text d) ≡ true
compact-is_utf8 d k h = is_utf8-from_IsUtf8 (compact_text d) (utf8 d k h)

-- ---- no newline

abbrev is_whole : List ℕ → Bool
is_whole [] = true
is_whole (x ∷ xs) = not (x == 10) && is_whole xs

not_true : (b : Bool) → not b ≡ true → b ≡ false
not_true true h = cc
not_true false h = refl

from_test : (xs : List ℕ) → is_whole xs ≡ true → IsUnbroken xs
from_test [] e = tt
from_test (x ∷ xs) e = let p = and_parts _ _ e in (not_true (x == 10) p.0, from_test xs p.1)

-- the escapes of the bytes below n have none
abbrev escapes_below : ℕ → Bool
escapes_below zero = true
escapes_below (suc n) = is_whole (escape_byte n) && escapes_below n

escape_below : (n : ℕ) → escapes_below n ≡ true → (x : ℕ) → x < n → is_whole (escape_byte x) ≡ true
escape_below zero e x h = absurd (omega arith)
escape_below (suc n) e x h =
    let p = and_parts _ _ e in
    elim (cases_eq x n) [ inl same ↦ rw same p.0 | inr other ↦ escape_below n p.1 x (omega arith) ]

all_whole : escapes_below 128 ≡ true
unfolding escape_byte
all_whole = refl

byte_whole : (x : ℕ) → IsUnbroken (escape_byte x)
byte_whole x = elim (cases_lt x 128) [
  | inl small ↦ from_test (escape_byte x) (escape_below 128 all_whole x small)
  | inr big ↦ subst IsUnbroken (sym (escape_byte_plain x (λ e. omega arith) (λ e. omega arith) (omega arith))) (ne_eqb x 10 (λ e. omega arith), tt)
]

escape_whole : (s : List ℕ) → IsUnbroken (escape s)
escape_whole [] = tt
escape_whole (x ∷ xs) = IsUnbroken-append (escape_byte x) (escape xs) (byte_whole x) (escape_whole xs)

quoted_whole : (s : List ℕ) → IsUnbroken (quoted s)
quoted_whole s = (refl, IsUnbroken-append (escape s) (34 ∷ []) (escape_whole s) (refl, tt))

glyph_whole : (small : Bool) (d : ℕ) → (cond small (48 + d) (87 + d) == 10) ≡ false
glyph_whole true d = ne_eqb (48 + d) 10 (λ e. omega arith)
glyph_whole false d = ne_eqb (87 + d) 10 (λ e. omega arith)

digits_whole : (k n : ℕ) (behind : List ℕ) → IsUnbroken behind → IsUnbroken (digits_onto k 10 false n behind)
digits_whole zero n behind h = h
digits_whole (suc k) n behind h =
    let one : IsUnbroken (digit_glyph false (n % 10) ∷ behind) = (glyph_whole _ (n % 10), h) in
    by (n / 10 == 0) one (digits_whole k (n / 10) (digit_glyph false (n % 10) ∷ behind) one) where
      by : (b : Bool) → IsUnbroken (digit_glyph false (n % 10) ∷ behind) → IsUnbroken (digits_onto k 10 false (n / 10) (digit_glyph false (n % 10) ∷ behind))
          → IsUnbroken (cond b (digit_glyph false (n % 10) ∷ behind) (digits_onto k 10 false (n / 10) (digit_glyph false (n % 10) ∷ behind)))
      by true one more = one
      by false one more = more

decimal_whole : (n : ℕ) → IsUnbroken (decimal n)
unfolding digits
decimal_whole n = digits_whole 64 n [] tt

-- a float has no text
number_whole : (n : Num) → IsUnbroken (number_text n)
number_whole (unsigned n) = decimal_whole n
number_whole (negative (pos n)) = decimal_whole n
number_whole (negative (negsuc n)) = (refl, decimal_whole (suc n))
number_whole (float x) = tt

comma_whole : (later : Bool) → IsUnbroken (comma_if later)
comma_whole true = (refl, tt)
comma_whole false = tt

truth_whole : (b : Bool) → IsUnbroken (compact_text (boolean b))
truth_whole true = from_test (compact_text (boolean true)) refl
truth_whole false = from_test (compact_text (boolean false)) refl

mutual
  -- so the compact text of whatever data is one line
  pub whole : (d : Data) → IsUnbroken (compact_text d)
  whole null = from_test (compact_text null) refl
  whole (boolean b) = truth_whole b
  whole (number n) = number_whole n
  whole (string s) = quoted_whole s
  whole (array ds) = (refl, items_whole false ds)
  whole (object ms) = (refl, members_whole false ms)

  items_whole : (later : Bool) (ds : Items) → IsUnbroken (items_text later ds)
  items_whole later no_items = (refl, tt)
  items_whole later (item d ds) = IsUnbroken-append _ _ (comma_whole later) (IsUnbroken-append _ _ (whole d) (items_whole true ds))

  members_whole : (later : Bool) (ms : Members) → IsUnbroken (members_text later ms)
  members_whole later no_members = (refl, tt)
  members_whole later (member name d ms) =
      IsUnbroken-append _ _ (comma_whole later) (IsUnbroken-append (quoted name) (58 ∷ (compact_text d ++ members_text true ms)) (quoted_whole name)
      (refl, IsUnbroken-append (compact_text d) (members_text true ms) (whole d) (members_whole true ms)))
