use Rattle.std.proofs.Common.{◌∙◌}
use Rattle.std.proofs.lemmas.List.{take_rest}
use Rattle.ds_rows.proofs.Pieces.{on_ok}
use Rattle.ds_rows.proofs.IndexedRows.{property_front_by}
use Rattle.ds_rows.proofs.fronts.put_property_front_by.Goals as goal

pub returns-clause-front : goal.returns-clause-front
returns-clause-front c = λ namespace kind is.
    on_ok c.put_name.result
    (λ put. put ∙ rw (c.in_ok-append-2.ensures.ok, c.in_ok-append.ensures.ok, c.clear.ensures, c.bytes.ensures.value, c.property_tag.ensures, take_rest c.args.kind_front.now 1)
    (property_front_by c.args.kind_front.now c.args.name.now c.args.descending namespace kind is))
    c.put_name.ensures.put
