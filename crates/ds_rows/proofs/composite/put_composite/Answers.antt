use Rattle.std.proofs.Common.{◌≡◌, ◌++◌, [], map, refl, ap, sym, ◌∙◌}
use Rattle.ds_base.specs.declared.column.Column.{Column}
use Rattle.ds_base.specs.Buffers.{BufferParts}
use Rattle.ds_base.specs.Keys.{KeyParts}
use Rattle.ds_bytes.specs.Encoding.{key_encoding}
use Rattle.ds_rows.specs.IndexedValues.{kind_of, column_values}
use Rattle.ds_rows.specs.Indexes.{Composite, front_columns, last_key_descends}
use Rattle.ds_rows.specs.Rows.{index_front}
use Rattle.ds_rows.specs.Ways.{lists_of, directions_of}
use Rattle.ds_rows.proofs.composite.put_composite.Goals as goal

pub returns : goal.returns
returns c =
    let e = c.args.entity.now in
    let d = c.args.def.now in
    let descends : c.last_key_descends.result ≡ last_key_descends d.columns = c.last_key_descends.ensures
    ∙ ap last_key_descends c.as_slice-3.ensures in
    let last : c.bytes.result.now ≡ key_encoding (last_key_descends d.columns) e.key =
    c.bytes.ensures ∙ c.in_ok-encode_key.ensures.ok
    ∙ ap (λ (b : BufferParts). b.bytes ++ key_encoding c.last_key_descends.result c.key-2.result.now) c.new-key.ensures
    ∙ (λ t. key_encoding (descends t) (c.key-2.ensures.value t)) in
    let front : c.put_composite_front.new.front.bytes ≡ index_front (Composite c.args.position d) e.key.namespace (kind_of e.key) =
    c.in_ok-put_composite_front.ensures d
    ∙ ap (λ ns. index_front (Composite c.args.position d) ns []) (c.namespace.ensures.value ∙ ap (λ (k : KeyParts). k.namespace) c.key-4.ensures.value) in
    let columns : c.front_columns.result.now ≡ front_columns d.columns = c.front_columns.ensures ∙ ap front_columns c.as_slice.ensures in
    c.put_for_index.ensures e (Composite c.args.position d) (sym c.key-5.ensures.value) refl front last
    (ap lists_of c.as_slice-4.ensures.value ∙ c.in_ok-values.ensures.lists ∙ ap (map (λ (x : Column). column_values e x.name)) columns)
    (ap directions_of c.as_slice-4.ensures.value ∙ c.in_ok-values.ensures.directions ∙ ap (map (λ (x : Column). x.descending)) columns)
