use Rattle.std.proofs.Common.{[], ◌∷◌, refl}
use Rattle.ds_tokens.specs.Pieces.{string}
use Rattle.ds_gql_printing.specs.Printing.{doubled}
use Rattle.ds_gql_printing.proofs.PrintingSteps.{puts_three}
use Rattle.ds_gql_printing.proofs.TokenLaws.{string_token}
use Rattle.ds_gql_printing.proofs.printer.Printer.put_string.Goals as goal

pub returns : goal.returns
returns c =
    let text = c.args.text.now in
    puts_three c.args.self.now c.append.new.self c.append_doubled.new.self c.append-2.new.self (string text) (32 ∷ 39 ∷ []) (doubled text) (39 ∷ []) (string_token text) refl c.append.ensures c.append_doubled.ensures c.append-2.ensures
