-- What stands at a place of a GQL text.
use Rattle.std.specs.Prelude.{ℕ, ℤ, Bool, false, List, [], ◌∷◌, ◌&&◌, ◌==◌, if◌then◌else◌, slice_index, drop, Option, Some, None}
use denote.Enum.Bare.{sameb}
use Rattle.ds_tokens.specs.contracts.token.Mark.{the_type}
use Rattle.ds_tokens.specs.declared.token.Mark.{Mark}
use Rattle.ds_tokens.specs.declared.token.Piece.{Piece as Found}
use Rattle.ds_tokens.specs.declared.token.Piece.TheVariants as found

-- a keyword, a sign or the end of the text; a name; an integer; a string; a binding by number or by name; or no token
pub data Piece : Type 0 where
  fixed : Mark → Piece
  name : List ℕ → Piece
  integer : ℤ → Piece
  string : List ℕ → Piece
  numbered : ℕ → Piece
  named : List ℕ → Piece
  strange : Piece

-- what is between the quotes of a string, with two quotes for each one
abbrev pub undoubled : List ℕ → List ℕ
undoubled [] = []
undoubled (b ∷ []) = b ∷ []
undoubled (b ∷ c ∷ bytes) = if (b == 39) && (c == 39) then 39 ∷ undoubled bytes else b ∷ undoubled (c ∷ bytes)

-- what follows the first quote of a doubled one
abbrev pub without_second : List ℕ → List ℕ
without_second bytes = if slice_index bytes 0 == 39 then drop 1 bytes else bytes

-- what the code reads, without where it lies in memory
abbrev pub seen : Found → Piece
seen (found.Fixed mark) = fixed mark
seen (found.Name text) = name text.now
seen (found.Integer n) = integer n
seen (found.Quoted text) = string (undoubled text.now)
seen (found.Numbered n) = numbered n
seen (found.Named text) = named text.now
seen found.Strange = strange

abbrev pub same_mark : Mark → Mark → Bool
same_mark = sameb the_type

-- does this keyword, sign or end stand there?
abbrev pub is : Mark → Piece → Bool
is mark (fixed found) = same_mark found mark
is mark _ = false

-- the name that stands there
abbrev pub name_in : Piece → Option (List ℕ)
name_in (name text) = Some text
name_in _ = None
