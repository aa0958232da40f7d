-- What is proved of the printing of statements, beside that the code meets it.
use Rattle.std.specs.Prelude.{◌≡◌, ℕ, List, Ok, true}
use Rattle.ds_gql.specs.declared.statement.Bindings.{Bindings}
use Rattle.ds_gql.specs.declared.statement.Statement.{Statement}
use Rattle.ds_gql.specs.Statements.{statement_of}
use Rattle.ds_gql_printing.specs.Printing.{can_print, has_written_names}

-- `print` takes what a text says, and each of its names can be written
abbrev pub StatementsCanBePrinted : Type 0
StatementsCanBePrinted = (given : Bindings) (text : List ℕ) (st : Statement) → statement_of text given ≡ Ok st
    → (can_print st ≡ true) × (has_written_names st ≡ true)
