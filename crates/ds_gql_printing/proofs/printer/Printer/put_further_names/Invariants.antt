use Rattle.std.proofs.Common.{[], drop}
use Rattle.ds_gql.specs.Sentences.{comma, others, name_pieces}
use Rattle.ds_gql_printing.specs.declared.printer.Printer.{Printer}
use Rattle.ds_gql_printing.specs.Printers.{Puts}
use Rattle.ds_gql_printing.proofs.printer.Printer.put_further_names.Given as goal

-- what is put from here on for those that are left makes the whole
abbrev pub invariant-loop-name : goal.invariant-loop-name
invariant-loop-name l = (u : Printer) → Puts (others comma name_pieces (drop l.name-index l.names)) [] l.self u → Puts (others comma name_pieces l.names) [] l.initial.self u
