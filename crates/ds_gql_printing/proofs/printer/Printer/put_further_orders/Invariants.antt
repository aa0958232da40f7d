use Rattle.std.proofs.Common.{[], drop, map}
use Rattle.ds_gql.specs.Sentences.{comma, others, order_pieces}
use Rattle.ds_gql_printing.specs.Printing.{order_of}
use Rattle.ds_gql_printing.specs.declared.printer.Printer.{Printer}
use Rattle.ds_gql_printing.specs.Printers.{Puts}
use Rattle.ds_gql_printing.proofs.printer.Printer.put_further_orders.Given as goal

-- what is put from here on for those that are left makes the whole
abbrev pub invariant-loop-order : goal.invariant-loop-order
invariant-loop-order l = (u : Printer) → Puts (others comma order_pieces (map order_of (drop l.order-index l.orders))) [] l.self u → Puts (others comma order_pieces (map order_of l.orders)) [] l.initial.self u
