use Rattle.std.proofs.Common.{[], drop}
use Rattle.ds_gql.specs.Sentences.{comma, others, elem_pieces}
use Rattle.ds_gql_printing.specs.declared.printer.Printer.{Printer}
use Rattle.ds_gql_printing.specs.Printers.{Puts}
use Rattle.ds_gql_printing.proofs.printer.Printer.put_further_elems.Given as goal

-- what is put from here on for those that are left makes the whole
abbrev pub invariant-loop-elem : goal.invariant-loop-elem
invariant-loop-elem l = (u : Printer) → Puts (others comma elem_pieces (drop l.elem-index l.path)) [] l.self u → Puts (others comma elem_pieces l.path) [] l.initial.self u
