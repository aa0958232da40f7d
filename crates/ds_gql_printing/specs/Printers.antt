-- What the code promises of what it prints: which tokens it put, with which arguments, and that they are read back.
use Rattle.std.specs.Prelude.{◌≡◌, ℕ, Bool, true, false, List, [], ◌∷◌, ◌++◌, length, Some}
use Rattle.std.specs.String.{string_bytes}
use Rattle.std.specs.List.{list_all}
use Rattle.ds_base.specs.Keys.{is_path}
use Rattle.ds_base.specs.declared.value.Value.{Value}
use Rattle.ds_base.specs.declared.value.Value.TheVariants as value
use Rattle.ds_query.specs.declared.query.Op.{Op}
use Rattle.ds_query.specs.declared.query.Op.TheVariants as op
use Rattle.ds_gql.specs.declared.statement.Statement.{Statement}
use Rattle.ds_gql_printing.specs.declared.printer.Printer.{Printer}
use Rattle.ds_tokens.specs.declared.token.Mark.TheVariants as mark
use Rattle.ds_tokens.specs.Pieces.{Piece, fixed, is}
use Rattle.ds_gql.specs.Sentences.{Operand, comma, others, operand_pieces, sentence_pieces}
use Rattle.ds_tokens.specs.Tokens.{front, is_blank}
use Rattle.ds_gql_printing.specs.Printing.{written, spaced, all_cited, sentence_of}

-- what is written of a token is read as that token, before a space and at the end of a text
pub record IsToken (p : Piece) : Type 0 where
  pub first : ℕ
  pub others : List ℕ
  pub spelled : written p ≡ first ∷ others
  pub solid : is_blank first ≡ false
  pub not_end : is mark.End p ≡ false
  pub amid : (rest : List ℕ) → front (first ∷ others ++ 32 ∷ rest) ≡ Some (record { piece = p; more = length others })
  pub last : front (first ∷ others ++ []) ≡ Some (record { piece = p; more = length others })

abbrev pub AreTokens : List Piece → Type 0
AreTokens [] = Unit {0}
AreTokens (p ∷ ps) = IsToken p × AreTokens ps

-- a key's path is lawful
abbrev pub is_lawful : Value → Bool
is_lawful (value.Key k) = is_path k.elems
is_lawful _ = true

-- this text stands behind what was printed; nothing is promised where memory was refused
abbrev pub PutsText : List ℕ → Printer → Printer → Type 0
PutsText text old new =
    new.refused ≡ false → (old.refused ≡ false) × (string_bytes new.text ≡ string_bytes old.text ++ text) × (new.args ≡ old.args)

-- this value is the last argument
abbrev pub Cites : Value → Printer → Printer → Type 0
Cites v old new =
    new.refused ≡ false → (old.refused ≡ false) × (string_bytes new.text ≡ string_bytes old.text) × (new.args ≡ old.args ++ v ∷ [])

-- These tokens stand behind what was printed, each behind a space, and are read back; they cite the arguments of these values,
-- which are lawful. Nothing is promised where memory was refused.
abbrev pub Puts : List Piece → List Value → Printer → Printer → Type 0
Puts ps values old new =
    new.refused ≡ false → (old.refused ≡ false) × (string_bytes new.text ≡ string_bytes old.text ++ spaced ps)
    × (new.args ≡ old.args ++ all_cited values) × AreTokens ps × (list_all is_lawful values ≡ true)

-- what stands behind the sign of a condition
abbrev pub operator_pieces : Op → List Operand → List Piece
operator_pieces op.OneOf (o ∷ os) = fixed mark.Open ∷ operand_pieces o ++ (others comma operand_pieces os ++ fixed mark.Close ∷ [])
operator_pieces _ (o ∷ os) = operand_pieces o
operator_pieces _ [] = []

abbrev pub statement_pieces : Statement → List Piece
statement_pieces st = sentence_pieces (sentence_of st)
