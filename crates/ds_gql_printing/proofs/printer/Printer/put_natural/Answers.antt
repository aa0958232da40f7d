use Rattle.std.proofs.Common.{arith}
use Rattle.std.specs.Prelude.{pos}
use Rattle.ds_tokens.specs.Pieces.{integer}
use Rattle.ds_gql_printing.proofs.PrintingSteps.{puts_spaced}
use Rattle.ds_gql_printing.proofs.TokenLaws.{natural_token}
use Rattle.ds_gql_printing.proofs.printer.Printer.put_natural.Goals as goal

pub returns : goal.returns
returns c = puts_spaced c.args.self.now c.append.new.self c.append-2.new.self (integer (pos c.args.n)) c.format.result.now (natural_token c.args.n (omega (arith, c.requires))) c.format.ensures.text c.append.ensures c.append-2.ensures
