use Rattle.std.proofs.Common.{map, ap, sym, arith, ◌∙◌}
use Rattle.std.specs.List.{take-map}
use Rattle.ds_plain.specs.Answers.{query_page}
use Rattle.ds_judging_reads.proofs.FrontLaws.{front_page}
use Rattle.ds_judging_reads.proofs.pages.full_page.Goals as goal

pub returns : goal.returns
returns c =
    front_page c.args.normal.now c.args.window.now c.args.limit c.args.size (map (λ e. e.now) c.args.entities.now) c.requires.filled
    c.requires.by_key c.requires.lawful c.in_ok-page.page
    (c.in_ok-page.ensures
    ∙ ap (query_page c.args.normal.now c.args.window.now) (sym (take-map (λ e. e.now) c.args.size c.args.entities.now)))
    (omega (arith, c.if-len-limit.false, c.len.ensures))
