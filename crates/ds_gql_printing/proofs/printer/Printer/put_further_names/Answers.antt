use Rattle.std.proofs.Common.{arith, refl}
use Rattle.ds_gql_printing.specs.Printing.{is_written_name}
use Rattle.ds_gql.specs.Sentences.{comma, others, name_pieces}
use Rattle.ds_gql_printing.proofs.PrintingSteps.{all_at, others_turn, others_end}
use Rattle.ds_gql_printing.proofs.printer.Printer.put_further_names.Goals as goal

pub put_name-requires : goal.put_name-requires
put_name-requires c = rw c.text.ensures (all_at is_written_name c.args.names.now c.loop-name.name-index c.name-item.result c.requires (omega arith) c.name-item.is)

pub loop-name-preserved : goal.loop-name-preserved
loop-name-preserved c = λ u h. c.loop-name.invariant u
    (others_turn (others comma name_pieces) comma name_pieces (λ x xs. refl) c.loop-name.self c.put_mark.new.self c.put_name.new.self u c.args.names.now c.loop-name.name-index c.name-item.result (omega arith) c.name-item.is
    c.put_mark.ensures (rw c.text.ensures at c.put_name.ensures) h)

pub returns : goal.returns
returns c = c.loop-name.invariant c.loop-name.self (others_end (others comma name_pieces) c.loop-name.self c.args.names.now c.loop-name.name-index refl (omega arith))
