use Rattle.std.proofs.Common.{◌≡◌, [], ◌∷◌, true, false, Ok, sym, ap, ◌∙◌, arith}
use Rattle.ds_base.specs.Values.{is_faulty_value}
use Rattle.ds_line_reading.proofs.ValueLaws.{property_read}
use Rattle.ds_line_reading.proofs.values.read_property_parts.Goals as goal

pub returns-in-Ok : goal.returns-in-Ok
returns-in-Ok c =
    let one = c.in_ok-value.ensures in
    let sound : is_faulty_value true c.in_ok-value.value ≡ false = grind arith in
    (one.0, one.1, property_read one.0 c.in_ok-value.value one.2 sound ∙ ap (λ vs. Ok (true, vs)) (sym c.in-Ok.ensures), one.3)
