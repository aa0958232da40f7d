use Rattle.std.proofs.Common.{[], ◌∷◌, sym, ap, ◌∙◌}
use Rattle.ds_tokens.specs.Pieces.{name}
use Rattle.ds_gql_printing.proofs.PrintingSteps.{puts_spaced, puts_three}
use Rattle.ds_gql.proofs.Choices.{chosen, passed}
use Rattle.ds_gql_printing.proofs.TokenLaws.{name_token}
use Rattle.ds_gql_printing.proofs.printer.Printer.put_name.Goals as goal

pub returns-then-is_plain : goal.returns-then-is_plain
returns-then-is_plain c =
    let text = c.args.text.now in
    puts_spaced c.args.self.now c.append.new.self c.append-then-is_plain.new.self (name text) text (name_token text c.requires)
    (sym (chosen _ _ _ (sym c.is_plain.ensures ∙ c.if-is_plain.true))) c.append.ensures c.append-then-is_plain.ensures

pub returns-else-is_plain : goal.returns-else-is_plain
returns-else-is_plain c =
    let text = c.args.text.now in
    puts_three c.args.self.now c.append-else-is_plain.new.self c.append-else-is_plain-2.new.self c.append-else-is_plain-3.new.self (name text) (32 ∷ 34 ∷ []) text (34 ∷ []) (name_token text c.requires)
    (ap (λ t. 32 ∷ t) (sym (passed _ _ _ (sym c.is_plain.ensures ∙ c.if-is_plain.false)))) c.append-else-is_plain.ensures c.append-else-is_plain-2.ensures c.append-else-is_plain-3.ensures
