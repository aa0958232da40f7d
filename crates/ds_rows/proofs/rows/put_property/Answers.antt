use Rattle.std.proofs.Common.{[], ◌∷◌, refl, ap, ◌∙◌}
use Rattle.ds_rows.specs.IndexedValues.{kind_of}
use Rattle.ds_rows.specs.Indexes.{ByProperty}
use Rattle.ds_rows.proofs.Pieces.{on_ok}
use Rattle.ds_rows.proofs.IndexedRows.{rows_put, rows_without}
use Rattle.ds_rows.proofs.WayLaws.{one_list_lawful}
use Rattle.ds_rows.proofs.rows.put_property.Goals as goal

pub returns-clause-put : goal.returns-clause-put
returns-clause-put c =
    on_ok c.put_rows.result
    (rows_put c.args.rows.now c.put_rows.new.rows _ _
    (rows_without c.args.entity.now (ByProperty c.args.name.now c.args.descending) c.bytes.result.now c.args.own.now.key.now
    (c.args.values.now ∷ [])
    (c.args.descending ∷ []) refl
    (c.bytes.ensures ∙ c.in_ok-put_property_front_by.ensures.front c.args.entity.now.key.namespace (kind_of c.args.entity.now.key) c.requires.kind)
    c.requires.encoded (ap (λ values. values ∷ []) c.requires.theirs) refl))
    c.put_rows.ensures.put

pub returns-clause-lawful : goal.returns-clause-lawful
returns-clause-lawful c = on_ok c.put_rows.result (one_list_lawful c.args.values.now) c.put_rows.ensures.lawful
