use Rattle.std.proofs.Common.{◌≡◌, ◌∙◌, ap, drop, subst, List, IfOk}
use Rattle.ds_query.specs.declared.row.Row.{Row}
use Rattle.ds_pages.proofs.PageLaws.{drop-seen}
use Rattle.ds_pages.proofs.pages.page.Goals as goal

pub returns-clause-rows : goal.returns-clause-rows
returns-clause-rows c =
    let skipped = c.args.window.now.offset in
    subst (λ (rows : List Row). IfOk c.cut.result (λ m. m.rows ≡ rows))
    (ap (drop skipped) c.seen.ensures ∙ drop-seen skipped c.args.window.now.limit c.args.firsts.items) c.cut.ensures.rows
