use Rattle.std.proofs.Common.{length}
use denote.Text.{Utf8}
use denote.Shadow.{shadow}
use Rattle.ds_gql_printing.specs.declared.printer.Printer.{Printer}
use Rattle.ds_gql_printing.specs.Printers.{PutsText}
use Rattle.ds_gql_printing.specs.Printing.{doubled}
use Rattle.ds_gql_printing.proofs.printer.Printer.append_doubled.Given as goal

-- what is put from here on for the text that is left makes the whole
abbrev pub invariant-quotes : goal.invariant-quotes
invariant-quotes l = shadow (Utf8 l.rest) × ((u : Printer) → PutsText (doubled l.rest) l.self u → PutsText (doubled l.fn.text) l.initial.self u)

abbrev pub decreases-quotes : goal.decreases-quotes
decreases-quotes l = length l.rest
