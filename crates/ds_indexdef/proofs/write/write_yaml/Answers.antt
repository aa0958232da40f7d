use Rattle.ds_indexdef.proofs.BackLaws.{answer-read}
use Rattle.ds_indexdef.proofs.write.write_yaml.Goals as goal

pub returns-clause-read : goal.returns-clause-read
returns-clause-read c = answer-read c.write_lines.result c.args.defs.now c.as_slice.result.now c.as_slice.ensures.value c.as_slice.ensures.lawful c.requires c.write_lines.ensures
