use Rattle.std.proofs.Common.{◌∙◌, not, ap}
use Rattle.ds_query.proofs.NameLemmas.{contains-has_name, has_name-insert_key}
use Rattle.ds_query.proofs.names.NameSet.insert.Goals as goal

pub returns-clause-new : goal.returns-clause-new
returns-clause-new c =
    rw (← c.self.view_is) (c.in_ok-added.ensures.added ∙ ap not (contains-has_name c.self.inside.names.keys c.args.name.now))

pub returns-clause-ok : goal.returns-clause-ok
returns-clause-ok c = λ n. rw (← c.self.view_is, c.in_ok-added.ensures.keys) (has_name-insert_key c.self.inside.names.keys c.args.name n)
