use Rattle.std.proofs.Common.{◌<◌, ◌++◌, false, length, arith, subst}
use Rattle.std.specs.Prelude.{All}
use Rattle.std.proofs.lemmas.List.{take_all}
use Rattle.std.proofs.lemmas.List.Elements.{All-more}
use Rattle.ds_bytes.specs.Lawful.{IsValueOfBytes}
use Rattle.ds_bytes.specs.LawfulLaws.{value_of_bytes}
use Rattle.ds_bytes.specs.Rows.{columns_bytes}
use Rattle.ds_pages.proofs.PlaceLaws.{columns_put}
use Rattle.ds_pages.proofs.places.put_values.Goals as goal

pub loop-slot-preserved : goal.loop-slot-preserved
loop-slot-preserved c =
    let values = c.args.values.now in
    let i = c.loop-slot.slot in
    let v = c.index-values-slot.result in
    let below : i < length values = omega arith in
    record {
      put = columns_put c.args.directions.now values i false v c.loop-slot.bytes.bytes c.encode.new.onto.bytes
          (c.args.bytes.now.bytes ++ columns_bytes c.args.directions.now values) (omega arith) below c.index-values-slot.is
          c.in_ok-encode.ensures.ok c.loop-slot.invariant.put;
      lawful = All-more IsValueOfBytes values i v below c.loop-slot.invariant.lawful
          (subst IsValueOfBytes c.index-values-slot.is (value_of_bytes v c.encode.ensures.lawful));
    }

pub returns-clause-lawful : goal.returns-clause-lawful
returns-clause-lawful c =
    subst (λ vs. All IsValueOfBytes vs) (take_all c.loop-slot.slot c.args.values.now (omega arith)) c.loop-slot.invariant.lawful
