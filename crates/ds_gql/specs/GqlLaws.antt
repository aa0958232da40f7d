-- What is proved of the reading of texts, beside that the code meets it.
use Rattle.std.specs.Prelude.{◌≡◌, ℕ, List, ◌∷◌, ◌++◌, map, Ok, Err, IsTrue}
use Rattle.std.specs.List.{list_all}
use Rattle.ds_query.specs.Filters.{has_operands}
use Rattle.ds_gql.specs.declared.statement.Bindings.{Bindings}
use Rattle.ds_gql.specs.declared.statement.Statement.{Statement}
use Rattle.ds_tokens.specs.Pieces.{Piece}
use Rattle.ds_tokens.specs.Tokens.{Token, tokens_of}
use Rattle.ds_gql.specs.Sentences.{Derives}
use Rattle.ds_gql.specs.Statements.{statement_of}

abbrev pub pieces_of : List Token → List Piece
pieces_of tokens = map (λ t. t.piece) tokens

-- a text whose tokens are a sentence is the statement that the sentence says
abbrev pub SentencesAreRead : Type 0
SentencesAreRead =
    (given : Bindings) (text : List ℕ) (st : Statement) → Derives given (pieces_of (tokens_of text)) st → statement_of text given ≡ Ok st

-- a text that is a statement has the tokens of a sentence that says it
abbrev pub OnlySentencesAreRead : Type 0
OnlySentencesAreRead =
    (given : Bindings) (text : List ℕ) (st : Statement) → statement_of text given ≡ Ok st → Derives given (pieces_of (tokens_of text)) st

-- no sentence begins with the tokens up to the one at this place
pub record StopsAt (given : Bindings) (tokens : List Token) (place : ℕ) : Type 0 where
  pub before : List Token
  pub token : Token
  pub behind : List Token
  pub all : tokens ≡ before ++ token ∷ behind
  pub there : token.place ≡ place
  pub stops : (more : List Piece) (st : Statement) → Derives given (pieces_of before ++ token.piece ∷ more) st → ⊥

-- where a text stops being a statement, no sentence begins with the tokens up to there
abbrev pub NoSentenceGoesOn : Type 0
NoSentenceGoesOn =
    (given : Bindings) (text : List ℕ) (place : ℕ) → statement_of text given ≡ Err place → StopsAt given (tokens_of text) place

-- the tokens up to this place, without the one there, go on to a sentence
pub record GoesOnTo (given : Bindings) (tokens : List Token) (place : ℕ) : Type 0 where
  pub before : List Token
  pub token : Token
  pub behind : List Token
  pub all : tokens ≡ before ++ token ∷ behind
  pub there : token.place ≡ place
  pub more : List Piece
  pub statement : Statement
  pub derived : Derives given (pieces_of before ++ more) statement

-- where a text stops being a statement, the tokens before that place could have gone on
abbrev pub TokensBeforeGoOn : Type 0
TokensBeforeGoOn =
    (given : Bindings) (text : List ℕ) (place : ℕ) → statement_of text given ≡ Err place → GoesOnTo given (tokens_of text) place

-- each filter of a statement has the values of its operator: one, and at least one behind IN
abbrev pub StatementsHaveValues : Type 0
StatementsHaveValues =
    (given : Bindings) (text : List ℕ) (st : Statement) → statement_of text given ≡ Ok st → IsTrue (list_all has_operands st.query.filters)
