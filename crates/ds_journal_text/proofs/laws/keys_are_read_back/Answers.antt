use Rattle.ds_json_printing.specs.Printing.{key_data}
use Rattle.ds_journal_text.proofs.CommitsBack.{text_back}
use Rattle.ds_journal_text.proofs.CommitsPlain.{key_plain}
use Rattle.ds_journal_text.proofs.KeysBack.{key_back}
use Rattle.ds_journal_text.proofs.laws.keys_are_read_back.Goals as goal

pub returns : goal.returns
returns c = λ k h. (text_back (key_data k) (key_plain k 125 h), key_back k h.rules)
