use Rattle.std.proofs.Common.{[], ◌∷◌, ◌++◌, List, length, map, subst}
use Rattle.ds_base.specs.declared.value.Value.{Value}
use Rattle.ds_tokens.specs.declared.token.Mark.TheVariants as mark
use Rattle.ds_tokens.specs.Pieces.{Piece, fixed}
use Rattle.ds_gql.specs.Sentences.{comma, led_by, what_pieces, kind_pieces, condition_pieces, order_pieces, limits_pieces}
use Rattle.ds_gql_printing.specs.Printing.{what_of, all_conditions, order_of, limits_of, values_of}
use Rattle.ds_gql_printing.specs.Printers.{Puts}
use Rattle.ds_gql_printing.proofs.PrintingSteps.{statement_put}
use Rattle.ds_gql_printing.proofs.printer.Printer.put_statement.Goals as goal

pub returns : goal.returns
returns c =
    let st = c.args.statement.now in
    let s = c.args.self.now in
    let u = c.put_limits.new.self in
    let what = what_pieces (what_of st.query.select) in
    let kind = kind_pieces st.query.kind in
    let orders = led_by (fixed mark.Order ∷ fixed mark.By ∷ []) comma order_pieces (map order_of st.query.orders) in
    let limits = limits_pieces (limits_of st.limit st.offset) in
    let conditions : List Value → List Piece = λ args. led_by (fixed mark.Where ∷ []) (fixed mark.And) condition_pieces (all_conditions (length args) st.query.ancestor st.query.filters) in
    subst (λ (args : List Value). Puts (what ++ (kind ++ (conditions args ++ (orders ++ limits)))) (values_of st) s u) c.requires.first
    (statement_put s c.put_what.new.self c.put_kind.new.self c.put_conditions.new.self c.put_orders.new.self u what kind orders limits conditions (values_of st)
    c.put_what.ensures c.put_kind.ensures (rw c.as_slice.ensures at c.put_conditions.ensures) (rw c.as_slice-2.ensures at c.put_orders.ensures) c.put_limits.ensures)
