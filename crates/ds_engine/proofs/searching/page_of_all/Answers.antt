use Rattle.std.proofs.Common.{◌≡◌, ap, arith, length, map, []}
use Rattle.std.proofs.lemmas.List.{length-map}
use Rattle.std.proofs.lemmas.Result.{IfOk-weaker}
use Rattle.ds_base.specs.Sorting.{sorted_by}
use Rattle.ds_pages.specs.Pages.{page_of, page_of_rows, with_places}
use Rattle.ds_pages.specs.declared.row_page.RowPage.{RowPage}
use Rattle.ds_pages.specs.Places.{compare_rows, parts_of}
use Rattle.ds_engine.specs.Searches.{all_entities, page_over}
use Rattle.ds_engine.specs.Snapshots.{entities_in}
use Rattle.ds_branch.proofs.OkLaws.{ok_then}
use Rattle.ds_engine.proofs.FewRows.{in_order-few, page-few}
use Rattle.ds_engine.proofs.ShardPages.{page_of_several, page_of_single}
use Rattle.ds_engine.proofs.searching.page_of_all.Goals as goal

pub returns-then-normal-clause-page : goal.returns-then-normal-clause-page
returns-then-normal-clause-page g c own =
    let n = c.args.query.now.normal.now in
    let w = c.args.query.now.window.now in
    let views = map entities_in c.args.snapshots.now in
    let rows = map parts_of c.args.rows.items in
    IfOk-weaker c.page_of_rows.result (λ p. p ≡ page_of_rows n.merged [] w rows)
    (λ p. p ≡ page_over n w (all_entities views))
    (λ p is. page_of_several n w views c.args.rows.items p c.requires.planned.lawful c.requires.planned.placeless c.if-normal.true c.requires.rows
    is)
    c.page_of_rows.ensures

pub returns-else-normal-clause-page : goal.returns-else-normal-clause-page
returns-else-normal-clause-page g c own =
    let n = c.args.query.now.normal.now in
    let w = c.args.query.now.window.now in
    let views = map entities_in c.args.snapshots.now in
    IfOk-weaker c.page_of_results.result
    (λ p. p ≡ with_places n.merged (page_of n.merged w (sorted_by (compare_rows n.merged) (map parts_of c.args.rows.items))))
    (λ p. p ≡ page_over n w (all_entities views))
    (λ p is. page_of_single n w views c.args.rows.items p c.requires.planned.lawful c.if-normal.false c.requires.rows is own)
    (c.page_of_results.ensures n.merged c.requires.placed)

pub returns-then-normal-clause-few : goal.returns-then-normal-clause-few
returns-then-normal-clause-few g c =
    let few = page-few c.args.query.now.normal.now.merged [] c.args.query.now.window.now (map parts_of c.args.rows.items) in
    let many = length-map c.args.rows.items parts_of in
    ok_then c.page_of_rows.result c.page_of_rows.ensures
    (λ p is. let same = ap (λ (m : RowPage). length m.rows) is in omega (arith, same, few, many))

pub returns-else-normal-clause-few : goal.returns-else-normal-clause-few
returns-else-normal-clause-few g c =
    let columns = c.args.query.now.normal.now.merged in
    let few = in_order-few columns c.args.query.now.window.now (map parts_of c.args.rows.items) in
    let many = length-map c.args.rows.items parts_of in
    ok_then c.page_of_results.result (c.page_of_results.ensures columns c.requires.placed)
    (λ p is. let same = ap (λ (m : RowPage). length m.rows) is in omega (arith, same, few, many))
