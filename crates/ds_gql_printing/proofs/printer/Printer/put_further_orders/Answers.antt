use Rattle.std.proofs.Common.{arith, refl, map, List}
use Rattle.ds_base.specs.declared.column.Column.{Column}
use Rattle.ds_gql_printing.specs.Printing.{is_written_name, order_of}
use Rattle.ds_gql.specs.Sentences.{comma, others, order_pieces}
use Rattle.ds_gql_printing.proofs.PrintingSteps.{all_at, others_turn, others_end}
use Rattle.ds_gql_printing.proofs.printer.Printer.put_further_orders.Goals as goal

pub put_order-requires : goal.put_order-requires
put_order-requires c = all_at (λ (o : Column). is_written_name o.name) c.args.orders.now c.loop-order.order-index c.order-item.result c.requires (omega arith) c.order-item.is

pub loop-order-preserved : goal.loop-order-preserved
loop-order-preserved c = λ u h. c.loop-order.invariant u
    (others_turn (λ (cs : List Column). others comma order_pieces (map order_of cs)) comma (λ o. order_pieces (order_of o)) (λ x xs. refl) c.loop-order.self c.put_mark.new.self c.put_order.new.self u c.args.orders.now c.loop-order.order-index c.order-item.result (omega arith) c.order-item.is
    c.put_mark.ensures c.put_order.ensures h)

pub returns : goal.returns
returns c = c.loop-order.invariant c.loop-order.self (others_end (λ (cs : List Column). others comma order_pieces (map order_of cs)) c.loop-order.self c.args.orders.now c.loop-order.order-index refl (omega arith))
