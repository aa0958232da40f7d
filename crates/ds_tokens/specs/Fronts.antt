-- What the code promises of the front of a text: the token, and the text behind it.
use Rattle.std.specs.Prelude.{◌≡◌, ℕ, Bool, not, List, drop, Option, Some, None}
use Rattle.std.specs.Char.{is_ascii_digit}
use Rattle.ds_tokens.specs.declared.lexer.runs.Class.{Class}
use Rattle.ds_tokens.specs.declared.lexer.runs.Class.TheVariants as class
use Rattle.ds_tokens.specs.declared.lexer.Front.{Front as Read}
use Rattle.ds_tokens.specs.Pieces.{Piece, seen, strange}
use Rattle.ds_tokens.specs.Tokens.{Front, is_blank, is_word_byte, is_double_quote, is_quote}

-- this piece and this rest are what was found; where no token stands, what follows doesn't count
abbrev pub Shows : Option Front → List ℕ → Piece → List ℕ → Type 0
Shows None text piece rest = piece ≡ strange
Shows (Some found) text piece rest = (piece ≡ found.piece) × (rest ≡ drop found.more (drop 1 text))

abbrev pub Fronts : Option Front → List ℕ → Read → Type 0
Fronts found text read = Shows found text (seen read.piece) read.rest.now

-- the sets of bytes in which the code looks for runs
abbrev pub class_test : Class → ℕ → Bool
class_test class.Blank = is_blank
class_test class.Word = is_word_byte
class_test class.Digit = is_ascii_digit
class_test class.Name = λ b. not (is_double_quote b)
class_test class.Plain = λ b. not (is_quote b)
