use Rattle.ds_json_printing.proofs.Escapes.{is_plain-escape}
use Rattle.ds_json_printing.proofs.text.is_plain.Goals as goal

pub returns : goal.returns
returns c = is_plain-escape c.args.byte
