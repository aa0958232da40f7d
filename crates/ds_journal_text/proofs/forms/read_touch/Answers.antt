use Rattle.std.proofs.Common.{◌≡◌, true, false}
use Rattle.ds_journal_text.proofs.FormsRefused.{touch_of-not_two}
use Rattle.ds_journal_text.proofs.forms.read_touch.Goals as goal

pub returns-in-None : goal.returns-in-None
returns-in-None c = λ known. touch_of-not_two c.args.parts.items (λ h. let k : false ≡ true = c.in-None.ensures.two.1 h in cc)
