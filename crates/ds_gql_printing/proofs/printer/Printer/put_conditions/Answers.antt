use Rattle.std.proofs.Common.{[], ◌∷◌, ◌++◌, Option, length, sym, subst}
use Rattle.ds_base.specs.Keys.{KeyParts}
use Rattle.ds_tokens.specs.declared.token.Mark.TheVariants as mark
use Rattle.ds_tokens.specs.Pieces.{fixed}
use Rattle.ds_gql.specs.Sentences.{led_by, condition_pieces}
use Rattle.ds_gql_printing.specs.Printing.{ancestor_values, filter_values, all_conditions}
use Rattle.ds_gql_printing.specs.Printers.{Puts}
use Rattle.ds_gql_printing.proofs.PrintingSteps.{ancestor_put}
use Rattle.ds_gql_printing.proofs.printer.Printer.put_conditions.Goals as goal

pub returns-in-Some : goal.returns-in-Some
returns-in-Some c =
    let s = c.args.self.now in
    let u = c.put_further_filters.new.self in
    let fs = c.args.filters.now in
    subst (λ (a : Option KeyParts). Puts (led_by (fixed mark.Where ∷ []) (fixed mark.And) condition_pieces (all_conditions (length s.args) a fs)) (ancestor_values a ++ filter_values fs) s u) (sym c.in-Some.is)
    (ancestor_put s c.put_mark.new.self c.put_mark-in-Some.new.self c.put_mark-in-Some-2.new.self c.put_key.new.self u c.in-Some.key fs
    c.put_mark.ensures c.put_mark-in-Some.ensures c.put_mark-in-Some-2.ensures c.put_key.ensures c.put_further_filters.ensures)
