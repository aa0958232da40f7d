-- The tokens of a GQL text. Blanks stand between them, and the longest token is taken.
use Rattle.std.specs.Prelude.{ℕ, zero, suc, ◌+◌, ◌-◌, ◌^◌, ℤ, pos, neg_ℤ, Bool, not, ◌&&◌, ◌||◌, ◌==◌, nat_lt, nat_le, if◌then◌else◌, List}
use Rattle.std.specs.Prelude.{[], ◌∷◌, length, take, drop, slice_index, codes}
use Rattle.std.specs.Prelude.{Option, Some, None, option_map, unwrap_or}
use Rattle.std.specs.List.{prefix_len, position_or_len}
use Rattle.std.specs.Char.{is_ascii_digit, is_ascii_alphabetic}
use Rattle.std.specs.Str.{str_eq_ignore_ascii_case, all_ascii_digits}
use Rattle.std.specs.Str.Parse.{digits_value}
use Rattle.ds_tokens.specs.declared.token.Mark.{Mark}
use Rattle.ds_tokens.specs.declared.token.Mark.TheVariants as mark
use Rattle.ds_tokens.specs.Pieces.{Piece, fixed, name, integer, string, numbered, named, strange, undoubled}

-- a token at the front of a text, and how many bytes it takes behind its first one
pub record Front : Type 0 where
  pub piece : Piece
  pub more : ℕ

-- ---- the bytes that tokens are made of

-- space, tab, line feed and carriage return
abbrev pub is_blank : ℕ → Bool
is_blank b = (b == 32) || (b == 9) || (b == 10) || (b == 13)

-- an ASCII letter, `_` or `$`
abbrev pub begins_word : ℕ → Bool
begins_word b = is_ascii_alphabetic b || (b == 95) || (b == 36)

-- these, digits and `.`
abbrev pub is_word_byte : ℕ → Bool
is_word_byte b = begins_word b || is_ascii_digit b || (b == 46)

abbrev pub is_quote : ℕ → Bool
is_quote b = b == 39

abbrev pub is_double_quote : ℕ → Bool
is_double_quote b = b == 34

-- ---- words

abbrev pub lookup : List (List ℕ × Mark) → List ℕ → Option Mark
lookup [] word = None
lookup (keyword ∷ keywords) word = if str_eq_ignore_ascii_case keyword.0 word then Some keyword.1 else lookup keywords word

abbrev pub keywords : List (List ℕ × Mark)
keywords =
    (codes "SELECT", mark.Select) ∷ (codes "FROM", mark.From) ∷ (codes "WHERE", mark.Where) ∷ (codes "AND", mark.And)
    ∷ (codes "ORDER", mark.Order) ∷ (codes "BY", mark.By) ∷ (codes "ASC", mark.Asc) ∷ (codes "DESC", mark.Desc)
    ∷ (codes "LIMIT", mark.Limit) ∷ (codes "OFFSET", mark.Offset) ∷ (codes "IN", mark.In) ∷ (codes "IS", mark.Is)
    ∷ (codes "ANCESTOR", mark.Ancestor) ∷ (codes "TRUE", mark.True) ∷ (codes "FALSE", mark.False) ∷ (codes "NULL", mark.Null)
    ∷ (codes "KEY", mark.Key) ∷ []

abbrev pub word_by : Option Mark → List ℕ → Piece
word_by None word = name word
word_by (Some keyword) word = fixed keyword

-- a keyword, in any case of letters, or else a name
unfoldable pub word_of : List ℕ → Piece
word_of word = word_by (lookup keywords word) word

unfoldable pub word : List ℕ → Option Front
word text = let n = prefix_len is_word_byte (drop 1 text) in Some (record { piece = word_of (take (n + 1) text); more = n })

-- a name in double quotes: at least one byte, none of them a double quote. The text begins behind the first of the two.
unfoldable pub quoted_name : List ℕ → Option Front
quoted_name text =
    let n = position_or_len is_double_quote text in
    if nat_lt 0 n && nat_lt n (length text) then Some (record { piece = name (take n text); more = n + 1 }) else None

-- ---- strings

-- How many bytes the longest string takes behind its opening quote, the closing one among them. A doubled quote stands for one
-- quote of the longest string that closes; where no quote closes there is no string.
unfoldable pub closing : List ℕ → Option ℕ
closing [] = None
closing (b ∷ []) = if is_quote b then Some 1 else None
closing (b ∷ c ∷ text) =
    if is_quote b then (if is_quote c then Some (unwrap_or (option_map (λ n. n + 2) (closing text)) 1) else Some 1)
    else option_map (λ n. n + 1) (closing (c ∷ text))

abbrev pub string_by : Option ℕ → List ℕ → Option Front
string_by None text = None
string_by (Some n) text = Some (record { piece = string (undoubled (take (n - 1) text)); more = n })

-- the text begins behind the opening quote
unfoldable pub string_front : List ℕ → Option Front
string_front text = string_by (closing text) text

-- ---- numbers

-- an optional `-`, and digits
abbrev pub is_integer : List ℕ → Bool
is_integer text = if slice_index text 0 == 45 then all_ascii_digits (drop 1 text) else all_ascii_digits text

-- digits with an optional `-` in front, as a number of 64 bits with a sign
unfoldable pub integer_of : List ℕ → Option ℤ
integer_of text =
    if slice_index text 0 == 45
    then (let n = digits_value 10 (drop 1 text) in
    if nat_lt 0 (length (drop 1 text)) && nat_le n (2 ^ 63) then Some (neg_ℤ (pos n)) else None)
    else (let n = digits_value 10 text in if nat_lt 0 (length text) && nat_lt n (2 ^ 63) then Some (pos n) else None)

abbrev pub integer_by : Option ℤ → ℕ → Option Front
integer_by None n = None
integer_by (Some i) n = Some (record { piece = integer i; more = n })

-- The text begins with `-` or a digit. A number that leaves 64 bits is no token, and no shorter one is taken in its place.
unfoldable pub integer_front : List ℕ → Option Front
integer_front text = let n = prefix_len is_ascii_digit (drop 1 text) in integer_by (integer_of (take (n + 1) text)) n

-- ---- bindings

-- `:` and digits without a leading zero, or `:` and a word, taken as written; the text begins behind the `:`. No list of
-- arguments has 2^64 values, so a number from there on is no token.
unfoldable pub numbered_front : List ℕ → Option Front
numbered_front text =
    let n = prefix_len is_ascii_digit text in
    let number = digits_value 10 (take n text) in
    if nat_lt number (2 ^ 64) then Some (record { piece = numbered number; more = n }) else None

unfoldable pub named_front : List ℕ → Option Front
named_front text = let n = prefix_len is_word_byte text in Some (record { piece = named (take n text); more = n })

unfoldable pub binding : List ℕ → Option Front
binding text =
    let b = slice_index text 0 in
    if begins_word b then named_front text else (if is_ascii_digit b && not (b == 48) then numbered_front text else None)

-- ---- signs

abbrev pub sign_of : Mark → ℕ → Option Front
sign_of found n = Some (record { piece = fixed found; more = n })

-- the sign that begins with the byte b, which `next` follows
unfoldable pub sign : ℕ → ℕ → Option Front
sign b next =
    if b == 42 then sign_of mark.Star 0 else (if b == 44 then sign_of mark.Comma 0
    else (if b == 40 then sign_of mark.Open 0 else (if b == 41 then sign_of mark.Close 0 else (if b == 61 then sign_of mark.Equal 0
    else (if b == 60 then (if next == 61 then sign_of mark.LessEqual 1 else sign_of mark.Less 0)
    else (if b == 62 then (if next == 61 then sign_of mark.GreaterEqual 1 else sign_of mark.Greater 0)
    else (if (b == 33) && (next == 61) then sign_of mark.NotEqual 1 else None)))))))

-- ---- the tokens of a text

-- the longest token at the front of a text, whose first byte is no blank; none where no token stands there
unfoldable pub front : List ℕ → Option Front
front text =
    let b = slice_index text 0 in
    if begins_word b then word text
    else (if is_double_quote b then quoted_name (drop 1 text)
    else (if is_quote b then string_front (drop 1 text)
    else (if b == 58 then binding (drop 1 text)
    else (if is_ascii_digit b || (b == 45) then integer_front text
    else sign b (slice_index text 1)))))

-- what is there; the end where nothing is left of the text
abbrev pub first : List ℕ → Option Front
first [] = Some (record { piece = fixed mark.End; more = 0 })
first (b ∷ text) = front (b ∷ text)

abbrev pub behind_blanks : List ℕ → List ℕ
behind_blanks text = drop (prefix_len is_blank text) text

-- what stands at a place of a text, counted in bytes
pub record Token : Type 0 where
  pub piece : Piece
  pub place : ℕ

-- The tokens of what is left of a text, from this place on. The first number counts the bytes that belong to a token that has
-- begun. The last token is the end of the text, or stands for the first place where no token stands.
abbrev pub tokens_from : ℕ → ℕ → List ℕ → List Token
tokens_from left place [] = record { piece = fixed mark.End; place = place } ∷ []
tokens_from (suc left) place (b ∷ text) = tokens_from left (suc place) text
tokens_from zero place (b ∷ text) =
    if is_blank b then tokens_from zero (suc place) text
    else begun (front (b ∷ text)) place (λ left. tokens_from left (suc place) text) where
      begun : Option Front → ℕ → (ℕ → List Token) → List Token
      begun None place others = record { piece = strange; place = place } ∷ []
      begun (Some found) place others = record { piece = found.piece; place = place } ∷ others found.more

unfoldable pub tokens_of : List ℕ → List Token
tokens_of text = tokens_from 0 0 text
