use Rattle.std.proofs.Common.{[], ◌∷◌, Some}
use Rattle.ds_tokens.specs.Pieces.{name}
use Rattle.ds_gql.specs.Sentences.{direction_pieces}
use Rattle.ds_gql_printing.proofs.PrintingSteps.{puts_both}
use Rattle.ds_gql_printing.proofs.printer.Printer.put_order.Goals as goal

pub returns : goal.returns
returns c =
    let o = c.args.order.now in
    puts_both c.args.self.now c.put_name.new.self c.put_direction.new.self (name o.name ∷ []) (direction_pieces (Some o.descending)) (rw c.text.ensures at c.put_name.ensures) c.put_direction.ensures
