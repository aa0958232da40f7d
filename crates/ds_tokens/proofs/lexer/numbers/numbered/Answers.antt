use Rattle.std.proofs.Common.{sym, subst}
use Rattle.ds_tokens.specs.Fronts.{Fronts}
use Rattle.ds_tokens.proofs.NumberLemmas.{numbered_front-unparsed}
use Rattle.ds_tokens.proofs.lexer.numbers.numbered.Goals as goal

pub returns-in-Err : goal.returns-in-Err
returns-in-Err c =
    subst (λ f. Fronts f c.args.text.now c.none.result)
    (sym (numbered_front-unparsed c.args.cited.now c.split_run.result.0.now c.in-Err.field-0 c.in-Err.ensures.value.0 c.split_run.ensures.run c.requires.digits)) c.none.ensures
