use Rattle.std.proofs.Common.{ap, arith, get_or, length, map, ◌∙◌}
use Rattle.std.proofs.lemmas.List.{length-map}
use Rattle.ds_pages.specs.Places.{parts_of}
use Rattle.ds_engine.specs.Searches.{item_in}
use Rattle.ds_engine.specs.Snapshots.{entities_in}
use Rattle.ds_engine.proofs.FewRows.{look_ups-few}
use Rattle.ds_engine.proofs.ShardPages.{found_in_shards}
use Rattle.ds_engine.proofs.searching.told.Goals as goal

pub returns-clause-found : goal.returns-clause-found
returns-clause-found g c = λ is own.
    let q = c.index-as_slice-0.result in
    found_in_shards c.args.query.now.normal.now c.args.query.now.window.now q (map entities_in c.args.snapshots.now) c.args.page
    c.in_ok-results.results c.requires.planned.lawful (c.index-as_slice-0.is ∙ ap (λ bs. get_or bs 0 q) c.as_slice.ensures) is
    c.in_ok-results.ensures.items own

pub returns-clause-look_ups : goal.returns-clause-look_ups
returns-clause-look_ups g c =
    let n = c.args.query.now.normal.now in
    let q = c.index-as_slice-0.result in
    let parts = map parts_of c.args.page.rows in
    let many = ap length c.in_ok-results.ensures.items
    ∙ length-map parts (item_in n.merged q.select (map entities_in c.args.snapshots.now)) ∙ length-map c.args.page.rows parts_of in
    let few = look_ups-few q.select (length c.in_ok-results.results) in
    let steps = c.in_ok-results.ensures.steps in
    omega (arith, many, few, steps)
