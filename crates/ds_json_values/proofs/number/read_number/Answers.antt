use Rattle.std.proofs.Common.{drop, true, false, sym, ap, ◌∙◌, arith, take_all, length-drop}
use Rattle.fast_float.specs.Text.{scan}
use Rattle.serde_json.specs.Read.{number_of, number_from}
use Rattle.ds_json_values.proofs.NumberLaws.{behind_minus, without_minus}
use Rattle.ds_json_values.proofs.number.read_number.Goals as goal

pub returns-then-has_minus : goal.returns-then-has_minus
returns-then-has_minus c =
    let bytes = c.as_bytes-bytes.result.now in
    let rest = take_all _ (drop 1 bytes) (omega (arith, length-drop 1 bytes)) in
    c.negative.ensures ∙ ap (number_from true) (c.scan.ensures.parts ∙ ap scan rest) ∙ sym (behind_minus bytes c.if-has_minus.ensures.value) ∙ ap number_of c.as_bytes-bytes.ensures.value

pub returns-else-has_minus : goal.returns-else-has_minus
returns-else-has_minus c =
    c.natural.ensures ∙ ap (number_from false) c.scan-else-has_minus.ensures.parts ∙ sym (without_minus c.as_bytes-bytes.result.now c.if-has_minus.ensures.value)
    ∙ ap number_of c.as_bytes-bytes.ensures.value
