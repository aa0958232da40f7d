use Rattle.std.proofs.Common.{◌≡◌, ◌∙◌, ap, sym, IfOk, subst}
use Rattle.ds_entity.specs.EntityOrder.{sorted_by_key}
use Rattle.ds_log.specs.After.{after}
use Rattle.ds_log.specs.Logs.{writes_of}
use Rattle.ds_history.proofs.Numbers.{first_writing, none_writing}
use Rattle.ds_history.proofs.history.History.group_view.Goals as goal

pub returns-in-None : goal.returns-in-None
returns-in-None c =
    c.new.ensures ∙ ap (λ cs. sorted_by_key (after (writes_of cs))) (sym (none_writing c.args.place c.args.group.now c.args.self.now.journal c.in-None.ensures.none))

pub returns-in-Some : goal.returns-in-Some
returns-in-Some c =
    subst (λ cs. IfOk c.view_by.result (λ v. v ≡ sorted_by_key (after (writes_of cs))))
    (first_writing c.args.place c.args.group.now c.args.self.now.journal _ c.in-Some.ensures.some) c.view_by.ensures
