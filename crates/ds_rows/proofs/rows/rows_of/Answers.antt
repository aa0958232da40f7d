use Rattle.std.proofs.Common.{◌≡◌, sym, subst}
use Rattle.ds_bytes.specs.Lawful.{IsLawfulKey}
use Rattle.ds_rows.specs.Laws.{IsOnce}
use Rattle.ds_rows.specs.Rows.{rows_of}
use Rattle.ds_rows.proofs.IndexedRows.{all_put}
use Rattle.ds_rows.proofs.OnceLaws.{rows_once}
use Rattle.ds_rows.proofs.rows.rows_of.Goals as goal

pub returns-clause-once : goal.returns-clause-once
returns-clause-once c =
    let defs = c.args.defs.now in
    let e = c.args.entity.now in
    let is : c.finish.result ≡ rows_of defs e =
    all_put defs e c.in_ok-rows.rows c.put_key_rows.new.rows c.put_property_rows.new.rows c.put_composite_rows.new.rows c.finish.result
    c.in_ok-rows.ensures c.in_ok-put_key_rows.ensures c.in_ok-put_property_rows.ensures.put c.in_ok-put_composite_rows.ensures.put
    c.finish.ensures in
    subst IsOnce (sym is) (rows_once defs e c.in_ok-put_composite_rows.ensures.lawful (record {
      key = subst IsLawfulKey c.key.ensures.value c.in_ok-encode_key.ensures.lawful;
      values = c.in_ok-put_property_rows.ensures.lawful;
      names = c.in_ok-put_property_rows.ensures.names;
      ascend = c.properties.ensures.lawful.ascending;
    }) c.properties.ensures.lawful.ascending)
