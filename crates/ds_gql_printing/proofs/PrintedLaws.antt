-- What stands in a printer in the end.
use Rattle.std.proofs.Common.{◌≡◌, ℕ, true, false, List, [], ◌++◌, Ok, sym, ap, ◌∙◌}
use Rattle.std.specs.Prelude.{codes}
use Rattle.std.specs.String.{string_bytes}
use Rattle.ds_base.specs.declared.value.Value.{Value}
use Rattle.ds_gql_printing.specs.declared.printer.Printer.{Printer}
use Rattle.ds_gql.specs.declared.statement.Statement.{Statement}
use Rattle.ds_gql.specs.Statements.{statement_of}
use Rattle.ds_gql_printing.specs.Printing.{can_print, has_written_names, spaced, all_cited, values_of, text_of, args_of}
use Rattle.ds_gql_printing.specs.Printers.{Puts, statement_pieces}
use Rattle.ds_gql_printing.proofs.PrintingLaws.{given_of, text_is, printed_is_read}

pub printed_text : (st : Statement) (s u : Printer) → string_bytes s.text ≡ codes "SELECT" → Puts (statement_pieces st) (values_of st) s u → u.refused ≡ false → string_bytes u.text ≡ text_of st
printed_text st s u begins puts ok = (puts ok).1 ∙ ap (λ t. t ++ spaced (statement_pieces st)) begins ∙ sym (text_is st)

pub printed_read : (st : Statement) (s u : Printer) → can_print st ≡ true → has_written_names st ≡ true → string_bytes s.text ≡ codes "SELECT" → s.args ≡ [] → Puts (statement_pieces st) (values_of st) s u → u.refused ≡ false → statement_of (string_bytes u.text) (record { args = u.args; names = [] }) ≡ Ok st
printed_read st s u able named begins none puts ok =
    let done = puts ok in
    let args : u.args ≡ args_of st = done.2 ∙ ap (λ x. x ++ all_cited (values_of st)) none in
    ap (λ (t : List ℕ). statement_of t (given_of u.args)) (printed_text st s u begins puts ok)
    ∙ ap (λ (a : List Value). statement_of (text_of st) (given_of a)) args
    ∙ printed_is_read st able named done.4 done.3
