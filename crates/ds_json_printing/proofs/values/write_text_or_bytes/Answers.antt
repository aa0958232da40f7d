use Rattle.std.proofs.Common.{List, ℕ, subst}
use Rattle.std.specs.Str.{IsUtf8}
use Rattle.json.specs.Print.{escape_byte}
use Rattle.ds_json_printing.proofs.Chains.{utf8-test, utf8-refused}
use Rattle.ds_json_printing.proofs.values.write_text_or_bytes.Goals as goal

pub returns-in-Ok : goal.returns-in-Ok
unfolding escape_byte
returns-in-Ok g c =
    let utf8 = subst (λ (l : List ℕ). IsUtf8 l) c.bytes.ensures c.in-Ok.ensures.cases.1 in
    let text = rw (c.as_bytes.ensures.value, c.in-Ok.ensures.cases.0, c.bytes.ensures) at c.write_string.ensures in
    rw (utf8-test c.args.bytes.now utf8) text

pub returns-in-Err : goal.returns-in-Err
unfolding escape_byte
returns-in-Err g c =
    let not = subst (λ (l : List ℕ). IsUtf8 l → ⊥) c.bytes.ensures c.in-Err.ensures.cases.0 in
    rw (utf8-refused c.args.bytes.now not) c.write_tagged_bytes.ensures
