use Rattle.ds_indexdef.proofs.YamlLaws.{answer-stands, answer-given}
use Rattle.ds_indexdef.proofs.read.read_yaml.Goals as goal

pub returns-clause-grammar : goal.returns-clause-grammar
returns-clause-grammar c = answer-stands c.args.text.now c.read_lines.result c.read_lines.ensures

pub returns-clause-file : goal.returns-clause-file
returns-clause-file c = answer-given c.args.text.now c.read_lines.result c.read_lines.ensures
