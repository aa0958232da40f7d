use Rattle.std.proofs.Common.{subst, ◌∙◌}
use Rattle.std.specs.Prelude.{All}
use Rattle.ds_bytes.specs.Lawful.{IsLawfulKey}
use Rattle.ds_journal_text.specs.Lawful.{IsLawfulProperty}
use Rattle.ds_journal_text.proofs.lawful.entity_is_lawful.Goals as goal

pub returns : goal.returns
returns c = record {
  key = subst IsLawfulKey c.key.ensures.value c.key_is_lawful.ensures;
  rules = c.key.ensures.lawful;
  properties = subst (All IsLawfulProperty) (c.as_slice.ensures ∙ c.properties.ensures.value) c.properties_are_lawful.ensures;
}
