use Rattle.std.proofs.Common.{◌∙◌, ap, sym}
use Rattle.std.specs.Prelude.{fold, None}
use Rattle.ds_base.specs.Keys.{root_of}
use Rattle.ds_log.specs.Logs.{writes_of}
use Rattle.ds_history.specs.Writers.{left_at, writers_of}
use Rattle.ds_history.proofs.Found.{found}
use Rattle.ds_history.proofs.Numbers.{first_writing, none_writing}
use Rattle.ds_history.proofs.history.History.entity.Goals as goal

pub returns-in-Some : goal.returns-in-Some
returns-in-Some c =
    let journal = c.args.self.now.journal in
    let key = c.args.key.now in
    c.entity_by.ensures
    ∙ ap (λ cs. fold (left_at key) None (writes_of cs))
    (first_writing c.args.place (root_of key) journal _ (c.in-Some.ensures.some ∙ ap (λ g. writers_of g journal) c.in_ok-group.ensures))
    ∙ sym (found journal c.args.place key)

pub returns : goal.returns
returns c =
    let journal = c.args.self.now.journal in
    let key = c.args.key.now in
    ap (λ cs. fold (left_at key) None (writes_of cs))
    (sym (none_writing c.args.place (root_of key) journal (ap (λ g. writers_of g journal) (sym c.in_ok-group.ensures) ∙ c.in-None.ensures.none)))
    ∙ sym (found journal c.args.place key)
