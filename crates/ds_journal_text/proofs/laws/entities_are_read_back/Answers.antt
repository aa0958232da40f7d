use Rattle.ds_reply.specs.EntityPrinting.{entity_data}
use Rattle.ds_journal_text.proofs.CommitsBack.{text_back}
use Rattle.ds_journal_text.proofs.CommitsPlain.{entity_plain}
use Rattle.ds_journal_text.proofs.EntitiesBack.{entity_back}
use Rattle.ds_journal_text.proofs.laws.entities_are_read_back.Goals as goal

pub returns : goal.returns
returns c = λ e h. (text_back (entity_data e) (entity_plain e 120 h), entity_back e h)
