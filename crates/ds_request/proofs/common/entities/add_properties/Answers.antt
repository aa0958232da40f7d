use Rattle.std.proofs.Common.{◌≡◌, true, Some, None, sym, subst, arith}
use Rattle.std.specs.Ordering.{is_lt}
use Rattle.json.specs.Json.{read_key}
use Rattle.ds_base.specs.KeyOrder.{bytes_cmp}
use Rattle.ds_request.proofs.PropertiesLaws.{PropertiesSoFar, properties_begin, properties_over, properties_turn}
use Rattle.ds_request.proofs.common.entities.add_properties.Goals as goal

pub properties-init : goal.properties-init
properties-init c = properties_begin c.args.depth c.args.reader.now _ c.args.found.now.items c.requires

pub returns-in_default-next : goal.returns-in_default-next
returns-in_default-next c = λ filled.
    let new = c.next_key.new.self in
    let key : read_key c.properties.reader ≡ Some (None, new) = grind arith in
    properties_over c.args.depth c.args.reader.now c.properties.reader c.properties.last.now c.properties.found.items c.properties.invariant new key

pub properties-preserved : goal.properties-preserved
properties-preserved c =
    let name = c.in-Some.name.now in
    let mid = c.next_key.new.self in
    let last = c.properties.last.now in
    let key : read_key c.properties.reader ≡ Some (Some name, mid) = grind arith in
    let same : c.as_bytes-bytes.result.now ≡ name = c.as_bytes-bytes.ensures.value in
    let above : is_lt (bytes_cmp last name) ≡ true = grind (arith, same) in
    let filled : c.add_property.result ≡ true = grind arith in
    let one = c.add_property.ensures filled in
    let longer = c.add_property.new.found.items in
    let new = c.add_property.new.reader in
    subst (λ n. PropertiesSoFar c.args.depth c.args.reader.now new n longer) (sym same)
    (properties_turn c.args.depth c.args.reader.now c.properties.reader last c.properties.found.items c.properties.invariant mid new name one.0 longer key above one.3 one.2 one.1)
