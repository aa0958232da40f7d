use Rattle.std.proofs.Common.{ap, ◌∙◌}
use Rattle.std.specs.Fmt.{signed_decimal}
use Rattle.std.proofs.Math.Facts.{to_z-of_z}
use Rattle.ds_tokens.specs.Pieces.{integer}
use Rattle.ds_gql_printing.proofs.PrintingSteps.{puts_spaced}
use Rattle.ds_gql_printing.proofs.TokenLaws.{integer_token}
use Rattle.ds_gql_printing.proofs.printer.Printer.put_integer.Goals as goal

pub returns : goal.returns
returns c = puts_spaced c.args.self.now c.append.new.self c.append-2.new.self (integer c.args.n) c.format.result.now (integer_token c.args.n c.ranges.n) (c.format.ensures.text ∙ ap signed_decimal (to_z-of_z c.ranges.n)) c.append.ensures c.append-2.ensures
