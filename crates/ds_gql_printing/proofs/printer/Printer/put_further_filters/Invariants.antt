use Rattle.std.proofs.Common.{length, drop}
use Rattle.ds_gql_printing.specs.Printing.{filter_values}
use Rattle.ds_gql_printing.proofs.PrintingSteps.{filters_left}
use Rattle.ds_gql_printing.specs.declared.printer.Printer.{Printer}
use Rattle.ds_gql_printing.specs.Printers.{Puts}
use Rattle.ds_gql_printing.proofs.printer.Printer.put_further_filters.Given as goal

-- what is put from here on for those that are left makes the whole
abbrev pub invariant-loop-filter : goal.invariant-loop-filter
invariant-loop-filter l = (u : Printer) → Puts (filters_left (length l.self.args) (drop l.filter-index l.filters)) (filter_values (drop l.filter-index l.filters)) l.self u → Puts (filters_left (length l.initial.self.args) l.filters) (filter_values l.filters) l.initial.self u
