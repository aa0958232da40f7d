use Rattle.std.proofs.Common.{[], ◌∷◌}
use Rattle.std.proofs.lemmas.Bool.{and_parts}
use Rattle.ds_base.specs.Keys.{is_name, is_ident}
use Rattle.ds_tokens.specs.Pieces.{string}
use Rattle.ds_gql.specs.Sentences.{comma, ident_piece}
use Rattle.ds_gql_printing.proofs.PrintingSteps.{puts_both}
use Rattle.ds_gql_printing.proofs.printer.Printer.put_elem.Goals as goal

pub put_ident-requires : goal.put_ident-requires
put_ident-requires c = (and_parts (is_name c.args.elem.now.kind) (is_ident c.args.elem.now.ident) c.requires).1

pub returns : goal.returns
returns c =
    let e = c.args.elem.now in
    let s = c.args.self.now in
    let u = c.put_ident.new.self in
    puts_both s c.put_string.new.self u (string e.kind ∷ []) (comma ∷ ident_piece e.ident ∷ []) (rw c.text.ensures at c.put_string.ensures)
    (puts_both c.put_string.new.self c.put_mark.new.self u (comma ∷ []) (ident_piece e.ident ∷ []) c.put_mark.ensures c.put_ident.ensures)
