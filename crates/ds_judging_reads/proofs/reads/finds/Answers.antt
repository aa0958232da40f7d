use Rattle.std.proofs.Common.{IfOk, map, subst, ◌∙◌}
use Rattle.ds_judging_lines.specs.Deciding.{SaidIs}
use Rattle.ds_judging_reads.proofs.SearchLaws.{told_page}
use Rattle.ds_judging_reads.proofs.reads.finds.Goals as goal

pub returns : goal.returns
returns c =
    subst (λ b. IfOk c.said.result (SaidIs c.args.turn.now b))
    (c.in_ok-body.ensures.found
    ∙ told_page c.args.search.now c.args.ready.now.normal c.args.ready.now.window (map (λ e. e.now) c.args.entities.now)
    c.in_ok-page.page.rows c.in_ok-page.page.next _ c.args.seen c.in_ok-page.ensures c.as_ref.ensures.value)
    c.said.ensures
