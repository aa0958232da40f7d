use Rattle.ds_machine.proofs.Words.{◌≡◌, map, subst, IfOk}
use Rattle.ds_machine.proofs.QueryPlans.{told_page}
use Rattle.ds_machine.proofs.queries.find.Goals as goal

pub returns-clause-found : goal.returns-clause-found
returns-clause-found c =
    subst (λ v. IfOk c.finish.result (λ b. b ≡ v))
    (told_page c.args.search.now c.args.ready.now.normal c.args.ready.now.window (map (λ e. e.now) c.args.entities.now)
    c.in_ok-page.page.rows
    c.in_ok-page.page.next _ c.args.seen
    c.in_ok-page.ensures c.as_ref.ensures.value)
    c.finish.ensures.found
