use Rattle.std.proofs.Common.{[], ◌∷◌, List, length, drop, sym, subst, arith}
use Rattle.ds_query.specs.declared.query.Filter.{Filter}
use Rattle.ds_tokens.specs.declared.token.Mark.TheVariants as mark
use Rattle.ds_tokens.specs.Pieces.{fixed}
use Rattle.ds_gql.specs.Sentences.{led_by, condition_pieces}
use Rattle.ds_gql_printing.specs.Printing.{filter_values, conditions_of}
use Rattle.ds_gql_printing.specs.Printers.{Puts}
use Rattle.ds_gql.proofs.IndexLemmas.{drop_at}
use Rattle.ds_gql_printing.proofs.PrintingSteps.{rest_of, filters_left, filters_more}
use Rattle.ds_gql_printing.proofs.printer.Printer.put_filters.Goals as goal

pub returns-in-len1-up : goal.returns-in-len1-up
returns-in-len1-up c =
    let s = c.args.self.now in
    let u = c.put_further_filters.new.self in
    let fs = c.args.filters.now in
    let f = c.first-item.result in
    subst (λ (gs : List Filter). Puts (led_by (fixed mark.Where ∷ []) (fixed mark.And) condition_pieces (conditions_of (length s.args) gs)) (filter_values gs) s u)
    (sym (drop_at fs 0 f (omega (arith, c.in-len1-up.len_at_least)) c.first-item.is))
    (filters_more s c.put_mark.new.self c.put_filter.new.self u f (drop 1 fs) (fixed mark.Where) c.put_mark.ensures c.put_filter.ensures
    (subst (λ (gs : List Filter). Puts (filters_left (length c.put_filter.new.self.args) gs) (filter_values gs) c.put_filter.new.self u) (rest_of fs) c.put_further_filters.ensures))
