use Rattle.std.proofs.Common.{length, drop}
use Rattle.ds_gql_printing.proofs.PrintingSteps.{values_left}
use Rattle.ds_gql_printing.specs.declared.printer.Printer.{Printer}
use Rattle.ds_gql_printing.specs.Printers.{Puts}
use Rattle.ds_gql_printing.proofs.printer.Printer.put_further_values.Given as goal

-- what is put from here on for those that are left makes the whole
abbrev pub invariant-loop-value : goal.invariant-loop-value
invariant-loop-value l = (u : Printer) → Puts (values_left (length l.self.args) (drop l.value-index l.values)) (drop l.value-index l.values) l.self u → Puts (values_left (length l.initial.self.args) l.values) l.values l.initial.self u
