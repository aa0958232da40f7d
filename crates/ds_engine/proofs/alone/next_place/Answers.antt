use Rattle.std.proofs.Common.{sym, ◌∙◌}
use Rattle.ds_branch.proofs.Behinds.{last_else, none_else}
use Rattle.ds_branch.proofs.OkLaws.{ok_then}
use Rattle.ds_engine.proofs.alone.next_place.Goals as goal

pub returns-in-Some : goal.returns-in-Some
returns-in-Some c = λ rows is. last_else c.args.start.now rows c.in-Some.last (sym c.in-Some.is ∙ is)

pub returns-in-None : goal.returns-in-None
returns-in-None c = λ rows is.
    ok_then c.copy.result c.copy.ensures.copied (λ n same. same ∙ none_else c.args.start.now rows (sym c.in-None.is ∙ is))
