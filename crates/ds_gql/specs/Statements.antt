-- Which statement a GQL text is, or at which byte it stops being one.
use Rattle.std.specs.Prelude.{◌≡◌, ℕ, List, [], ◌∷◌, Option, Some, None, Result, Ok, Err, if◌then◌else◌}
use Rattle.ds_base.specs.Memory.{UnlessNoMemory}
use Rattle.ds_gql.specs.declared.statement.Bindings.{Bindings}
use Rattle.ds_gql.specs.declared.statement.Statement.{Statement}
use Rattle.ds_gql.specs.declared.statement.GqlRefused.{GqlRefused}
use Rattle.ds_gql.specs.declared.statement.GqlRefused.TheVariants as refused
use Rattle.ds_gql.specs.declared.draft.Draft.{Draft}
use Rattle.ds_tokens.specs.declared.token.Mark.TheVariants as mark
use Rattle.ds_tokens.specs.Pieces.{is}
use Rattle.ds_tokens.specs.Tokens.{Token, tokens_of}
use Rattle.ds_gql.specs.Steps.{empty, complete, step}

-- behind a token: the statement at the end of the text, what the others make of it, or the token's place where it took no step
abbrev pub stepped : Option Draft → Token → (Draft → Result Statement ℕ) → Result Statement ℕ
stepped None t others = Err t.place
stepped (Some next) t others = if is mark.End t.piece then Ok (complete next) else others next

-- Token by token from a draft on: the statement at the end of the text, or the place of the first token that takes no step.
-- Tokens without an end, which no text has, stop at 0.
unfoldable pub read_on : Bindings → Draft → List Token → Result Statement ℕ
read_on given d [] = Err 0
read_on given d (t ∷ tokens) = stepped (step given d t.piece) t (λ next. read_on given next tokens)

-- the statement that a text is under these arguments, or the byte at which it stops being one
unfoldable pub statement_of : List ℕ → Bindings → Result Statement ℕ
statement_of text given = read_on given empty (tokens_of text)

-- the place where a text stops being a statement, except when out of memory
abbrev pub refused_at : GqlRefused → Option ℕ
refused_at (refused.At place) = Some place
refused_at refused.NoMemory = None

-- what is read is what the definition gives, a statement or a place
abbrev pub IsReadAs : {A : Type 0} → Result A ℕ → Result A GqlRefused → Type 0
IsReadAs {A = A} read result = UnlessNoMemory refused_at (λ told. read ≡ told) result
