use Rattle.std.proofs.Common.{arith, refl}
use Rattle.ds_base.specs.Keys.{is_elem}
use Rattle.ds_gql.specs.Sentences.{comma, others, elem_pieces}
use Rattle.ds_gql_printing.proofs.PrintingSteps.{all_at, others_turn, others_end}
use Rattle.ds_gql_printing.proofs.printer.Printer.put_further_elems.Goals as goal

pub put_elem-requires : goal.put_elem-requires
put_elem-requires c = all_at is_elem c.args.path.now c.loop-elem.elem-index c.elem-item.result c.requires (omega arith) c.elem-item.is

pub loop-elem-preserved : goal.loop-elem-preserved
loop-elem-preserved c = λ u h. c.loop-elem.invariant u
    (others_turn (others comma elem_pieces) comma elem_pieces (λ x xs. refl) c.loop-elem.self c.put_mark.new.self c.put_elem.new.self u c.args.path.now c.loop-elem.elem-index c.elem-item.result (omega arith) c.elem-item.is
    c.put_mark.ensures c.put_elem.ensures h)

pub returns : goal.returns
returns c = c.loop-elem.invariant c.loop-elem.self (others_end (others comma elem_pieces) c.loop-elem.self c.args.path.now c.loop-elem.elem-index refl (omega arith))
