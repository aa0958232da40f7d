use Rattle.ds_tokens.specs.Pieces.{fixed}
use Rattle.ds_gql_printing.proofs.PrintingSteps.{puts_spaced}
use Rattle.ds_gql_printing.proofs.TokenLaws.{mark_token}
use Rattle.ds_gql_printing.proofs.printer.Printer.put_mark.Goals as goal

pub returns : goal.returns
returns c = puts_spaced c.args.self.now c.append.new.self c.append-2.new.self (fixed c.args.mark) c.mark_text.result.now (mark_token c.args.mark c.requires) c.mark_text.ensures c.append.ensures c.append-2.ensures
