use Rattle.std.proofs.Common.{◌≡◌, List, length, map, subst, sym, ◌∙◌}
use Rattle.std.specs.Prelude.{All}
use Rattle.std.proofs.lemmas.List.{length-map}
use Rattle.ds_hub.specs.Holding.{known_in}
use Rattle.ds_model.proofs.ShardViews.{AreOwn}
use Rattle.ds_engine.specs.Snapshots.{SnapshotParts}
use Rattle.ds_branch.proofs.OkLaws.{ok_both}
use Rattle.ds_engine.proofs.SlotLaws.{counted_of, definitions-newest, found_of, own_known}
use Rattle.ds_engine.proofs.slots.answer.Goals as goal

pub search-requires-clause-definitions : goal.search-requires-clause-definitions
search-requires-clause-definitions g c =
    subst (λ (ss : List SnapshotParts). All (λ s. c.args.query.now.defs.now ≡ s.shard.definitions) ss)
    (sym (c.as_slice.ensures.value ∙ c.in_ok-snapshots.ensures.snapshots))
    (definitions-newest c.entries_are_kept.ensures c.args.query.now.defs.now c.args.kept c.requires.kept (map known_in c.args.slots.now))

pub returns-clause-counted : goal.returns-clause-counted
returns-clause-counted g c =
    ok_both c.counted.result c.counted.ensures.seen c.counted.ensures.beside
    (λ a counts last. counted_of c.entries_are_kept.ensures c.args.query.now.defs.now c.args.kept c.requires.kept (map known_in c.args.slots.now)
    c.as_slice-2.result.now (c.as_slice-2.ensures.value ∙ c.in_ok-snapshots.ensures.snapshots) a.seen a.beside counts last)

pub returns-clause-found : goal.returns-clause-found
returns-clause-found g c =
    ok_both c.counted.result c.counted.ensures.results c.counted.ensures.next
    (λ a same here. found_of c.entries_are_kept.ensures c.args.query.now.defs.now c.args.kept c.requires.kept (map known_in c.args.slots.now)
    c.as_slice.result.now (c.as_slice.ensures.value ∙ c.in_ok-snapshots.ensures.snapshots) c.args.query.now.normal.now c.args.query.now.window.now
    c.in_ok-found.found.results c.in_ok-found.found.next c.in_ok-found.ensures.found
    (subst (λ m. AreOwn m 0 (map known_in c.args.slots.now)) (sym (length-map c.args.slots.now known_in))
    (own_known (length c.args.slots.now) 0 c.args.slots.now c.requires.placed c.in_ok-snapshots.ensures.own)) a.results a.next same here)
