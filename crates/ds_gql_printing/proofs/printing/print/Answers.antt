use Rattle.std.proofs.Common.{[], false, List, ℕ, sym, ap, ◌∙◌}
use Rattle.ds_gql_printing.specs.declared.printer.Printer.{Printer}
use Rattle.ds_gql.specs.declared.statement.Bindings.{Bindings}
use Rattle.ds_gql.specs.Statements.{statement_of}
use Rattle.ds_gql_printing.proofs.PrintedLaws.{printed_text, printed_read}
use Rattle.ds_gql_printing.proofs.printing.print.Goals as goal

pub returns-clause-text : goal.returns-clause-text
returns-clause-text c =
    let s : Printer = record { text = c.in_ok-from_str.field-0; args = c.new.result; refused = false } in
    c.from_string.ensures ∙ printed_text c.args.statement.now s c.put_statement.new.self c.in_ok-from_str.ensures.ok c.put_statement.ensures c.if-printer.false

pub returns-clause-read : goal.returns-clause-read
returns-clause-read c =
    let s : Printer = record { text = c.in_ok-from_str.field-0; args = c.new.result; refused = false } in
    let named = sym c.has_written_names.ensures ∙ c.if-not-has_written_names.false in
    ap (λ (t : List ℕ). statement_of t (let b : Bindings = record { args = c.put_statement.new.self.args; names = [] } in b)) c.from_string.ensures
    ∙ printed_read c.args.statement.now s c.put_statement.new.self c.requires named c.in_ok-from_str.ensures.ok c.new.ensures c.put_statement.ensures c.if-printer.false
