use Rattle.std.proofs.Common.{◌≡◌, ◌≤◌, List, length, ap, subst, ◌∙◌, refl}
use Rattle.std.specs.Prelude.{All}
use Rattle.std.proofs.lemmas.List.{take_all}
use Rattle.std.proofs.lemmas.List.Elements.{All-more}
use Rattle.ds_entity.specs.declared.entity.Property.{Property}
use Rattle.ds_bytes.specs.Lawful.{IsLawfulValue}
use Rattle.ds_base.specs.Bytes.{AreBytes}
use Rattle.ds_rows.specs.Spans.{Written}
use Rattle.ds_rows.specs.IndexedValues.{property_values}
use Rattle.ds_rows.specs.Indexes.{property_indexes}
use Rattle.ds_rows.specs.Rows.{rows_in}
use Rattle.ds_rows.proofs.Lookups.{named_at}
use Rattle.ds_rows.proofs.IndexedRows.{property_step, in_same, own_values, same_names}
use Rattle.ds_rows.proofs.rows.put_property_rows.Goals as goal

pub put_both-requires-clause-theirs : goal.put_both-requires-clause-theirs
put_both-requires-clause-theirs c =
    let ps = c.args.entity.now.properties in
    let p = c.property-item.result in
    let here = in_same c.as_slice-property-items.result.now ps c.loop-place.place p (c.as_slice-property-items.ensures
    ∙ c.properties.ensures.value)
    c.loop-place-test.true c.property-item.is in
    c.as_slice.ensures
    ∙ named_at ps c.args.lists.now c.loop-place.place p.name c.index-lists-place.result c.properties.ensures.lawful.ascending
    c.requires.theirs here.0
    (λ d. same_names ps c.loop-place.place p d here.0 here.1) c.index-lists-place.is c.args.entity.now refl

pub loop-place-preserved : goal.loop-place-preserved
loop-place-preserved c =
    let ps = c.args.entity.now.properties in
    let p = c.property-item.result in
    let i = c.loop-place.place in
    let here = in_same c.as_slice-property-items.result.now ps i p (c.as_slice-property-items.ensures ∙ c.properties.ensures.value)
    c.loop-place-test.true c.property-item.is in
    let values = own_values ps c.args.lists.now i c.index-lists-place.result p c.requires.theirs here.0 c.index-lists-place.is here.1 in
    record {
      begun = ap (λ (w : Written). w.begun) c.in_ok-put_both.ensures.put;
      so_far = property_step
          (rows_in c.args.entity.now) property_indexes ps i p c.loop-place.rows.rows c.put_both.new.rows.rows _ here.0 here.1
          c.loop-place.invariant.so_far (ap (λ (w : Written). w.rows) c.in_ok-put_both.ensures.put);
      lawful = All-more (λ (q : Property). All IsLawfulValue (property_values q)) ps i p here.0 c.loop-place.invariant.lawful
          (subst (λ (q : Property). All IsLawfulValue (property_values q)) here.1
          (subst (All IsLawfulValue) (c.as_slice.ensures ∙ values) c.in_ok-put_both.ensures.lawful));
      names = All-more (λ (q : Property). AreBytes q.name) ps i p here.0 c.loop-place.invariant.names
          (subst (λ (q : Property). AreBytes q.name) here.1 c.in_ok-put_both.ensures.name);
    }

pub returns-clause-lawful : goal.returns-clause-lawful
returns-clause-lawful c =
    let ps = c.args.entity.now.properties in
    let same : c.as_slice-property-items.result.now ≡ ps = c.as_slice-property-items.ensures ∙ c.properties.ensures.value in
    let all : length ps ≤ c.loop-place.place = subst (λ
    (qs : List Property). length qs ≤ c.loop-place.place) same c.loop-place-test.false in
    subst (All (λ (q : Property). All IsLawfulValue (property_values q))) (take_all c.loop-place.place ps all) c.loop-place.invariant.lawful

pub returns-clause-names : goal.returns-clause-names
returns-clause-names c =
    let ps = c.args.entity.now.properties in
    let same : c.as_slice-property-items.result.now ≡ ps = c.as_slice-property-items.ensures ∙ c.properties.ensures.value in
    let all : length ps ≤ c.loop-place.place = subst (λ
    (qs : List Property). length qs ≤ c.loop-place.place) same c.loop-place-test.false in
    subst (All (λ (q : Property). AreBytes q.name)) (take_all c.loop-place.place ps all) c.loop-place.invariant.names
