use Rattle.std.proofs.Common.{[], ◌∷◌}
use Rattle.ds_tokens.specs.declared.token.Mark.TheVariants as mark
use Rattle.ds_tokens.specs.Pieces.{fixed}
use Rattle.ds_gql.specs.Sentences.{comma, led_by, elem_pieces}
use Rattle.ds_gql_printing.proofs.PrintingSteps.{puts_both}
use Rattle.ds_gql_printing.proofs.printer.Printer.put_path.Goals as goal

pub returns : goal.returns
returns c = puts_both c.args.self.now c.put_elems.new.self c.put_mark.new.self (led_by (fixed mark.Key ∷ fixed mark.Open ∷ []) comma elem_pieces c.args.path.now) (fixed mark.Close ∷ []) c.put_elems.ensures c.put_mark.ensures
