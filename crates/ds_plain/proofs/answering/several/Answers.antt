use Rattle.std.proofs.Common.{map, [], refl, ap, ◌∙◌}
use Rattle.ds_pages.specs.Pages.{page_of_rows}
use Rattle.ds_pages.specs.Places.{parts_of}
use Rattle.ds_plain.proofs.AnswerLaws.{several_page, given}
use Rattle.ds_plain.proofs.answering.several.Goals as goal

pub returns : goal.returns
returns c =
    let n = c.args.normal.now in
    let w = c.args.window.now in
    given c.page_of_rows.result c.page_of_rows.ensures (λ m page.
    several_page n w (map (λ e. e.now) c.args.entities.now) c.in_ok-lists.lists [] m c.requires.several
    c.in_ok-lists.ensures.rows refl
    (page ∙ ap (λ rs. page_of_rows n.merged [] w (map parts_of rs)) c.in_ok-rows.ensures))
