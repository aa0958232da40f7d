use Rattle.std.proofs.Common.{◌∙◌, ap, sym}
use Rattle.ds_words.specs.Form.{is_digits}
use Rattle.ds_words.proofs.NumberLaws.{number_of-unparsed}
use Rattle.ds_words.proofs.number.number_of.Goals as goal

pub returns-in_default : goal.returns-in_default
returns-in_default c =
    sym (number_of-unparsed c.args.digits c.args.least c.args.greatest c.args.text.now c.in_default.field-0 c.in_default.ensures.value.0 c.requires c.if-text-digits.false
    (ap is_digits (sym c.as_bytes.ensures.value) ∙ sym c.is_digits.ensures ∙ c.if-not-is_digits.false))
