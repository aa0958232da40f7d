use Rattle.std.proofs.Common.{◌∙◌, ap, sym, arith}
use Rattle.ds_words.specs.Form.{is_digits}
use Rattle.ds_fill.proofs.NumberLaws.{number_of-unparsed}
use Rattle.ds_fill.proofs.word.number_of.Goals as goal

pub returns-in_default-clause-number : goal.returns-in_default-clause-number
returns-in_default-clause-number c =
    sym (number_of-unparsed 6 1 100000 c.args.text.now c.in_default.field-0 c.in_default.ensures.value.0 (omega arith) c.if-text-gt6.false
    (ap is_digits (sym c.as_bytes.ensures.value) ∙ sym c.is_digits.ensures ∙ c.if-not-is_digits.false))
