use Rattle.std.proofs.Common.{sym}
use Rattle.ds_tokens.proofs.NumberLemmas.{integer_of-unparsed}
use Rattle.ds_tokens.proofs.lexer.numbers.integer_of.Goals as goal

pub returns-in-Err : goal.returns-in-Err
returns-in-Err c = sym (integer_of-unparsed c.args.number.now c.in-Err.field-0 c.in-Err.ensures.value.0 c.requires)
