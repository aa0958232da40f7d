use Rattle.std.proofs.Common.{◌∙◌, map, get_or, ap}
use Rattle.ds_plain.proofs.AnswerLaws.{single_page, given}
use Rattle.ds_plain.proofs.answering.single.Goals as goal

pub returns : goal.returns
returns c =
    let q = c.index-as_slice-0.result in
    given c.page_of_rows.result c.page_of_rows.ensures (λ m page.
    single_page c.args.normal.now c.args.window.now (map (λ e. e.now) c.args.entities.now) q c.projected-names.result.now
    c.in_ok-rows.rows.items m c.requires.lawful c.requires.single
    (c.index-as_slice-0.is ∙ ap (λ bs. get_or bs 0 q) c.as_slice.ensures) c.projected-names.ensures c.in_ok-rows.ensures.rows page)
