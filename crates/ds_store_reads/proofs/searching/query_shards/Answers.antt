use Rattle.std.proofs.Common.{◌≡◌, ◌+◌, ◌*◌, ◌≤◌, ◌++◌, None, arith, drop, length, map, subst, sym, take, ◌∙◌}
use Rattle.std.proofs.lemmas.List.{take-append-le, take_all}
use Rattle.ds_hub.specs.Holding.{known_in}
use Rattle.ds_engine.proofs.SlotLaws.{as_many}
use Rattle.ds_engine.specs.Searches.{search_bound}
use Rattle.ds_engine.specs.Snapshots.{newest}
use Rattle.ds_store_reads.proofs.searching.query_shards.Goals as goal

pub returns-clause-steps_in_all : goal.returns-clause-steps_in_all
returns-clause-steps_in_all g c =
    let slots = c.query_slots.new.slots in
    let len = c.args.shards.now.len in
    let rest = drop (length slots) c.args.shards.now.items in
    let as_before = as_many slots c.as_mut_slice.result.now c.query_slots.ensures.hubs in
    let many : length slots ≡ len = omega (arith, as_before, c.as_mut_slice.ensures.len) in
    let whole : take len (slots ++ rest) ≡ slots =
    take-append-le len slots rest (omega (arith, many)) ∙ take_all len slots (omega (arith, many)) in
    subst (λ ss. c.query_slots.new.steps ≤ c.args.steps.now
    + 2 * search_bound c.args.query.now.normal.now c.args.query.now.window.now None
    (newest c.args.query.now.defs.now c.args.kept (map known_in ss))) (sym whole) c.query_slots.ensures.steps_in_all
