use Rattle.std.proofs.Common.{◌≡◌, ◌≤◌, [], ◌∷◌, ap, length, refl, subst, sym, ◌∙◌, arith}
use Rattle.std.specs.Prelude.{IfSome}
use Rattle.std.proofs.lemmas.List.Elements.{All-cons, All-nil}
use Rattle.ds_shard.specs.Shards.{ShardParts}
use Rattle.ds_engine.specs.Searches.{AreOfShards, IsResultOf, all_entities}
use Rattle.ds_engine.specs.Snapshots.{SnapshotParts, entities_in, snapshot_of}
use Rattle.ds_engine.proofs.GroupPages.{floor-within, found_in_group, have_ancestor}
use Rattle.ds_shard.specs.States.{StateParts}
use Rattle.ds_engine.proofs.group.query_slot.Goals as goal

pub shard_in-requires : goal.shard_in-requires
shard_in-requires g c =
    record { ledger = subst (λ o. IfSome o (λ (s : StateParts). s.ledger ≡ g.L.Ledger.parts)) (sym c.requires.begun.1) refl }

pub of-requires-clause-window : goal.of-requires-clause-window
of-requires-clause-window g c =
    let known = c.args.slot.now.known in
    let is = c.in_ok-shard.ensures c.args.query.now.defs.now c.args.kept c.requires.begun in
    sym (ap (λ (s : ShardParts). s.window) is ∙ (c.entries_are_kept.ensures c.args.query.now.defs.now c.args.kept c.requires.kept known).window)

pub of-requires-clause-given : goal.of-requires-clause-given
of-requires-clause-given g c =
    let known = c.args.slot.now.known in
    let is = c.in_ok-shard.ensures c.args.query.now.defs.now c.args.kept c.requires.begun in
    subst (λ n. c.args.stamp ≤ n)
    (sym (ap (λ (s : ShardParts). s.count) is ∙ (c.entries_are_kept.ensures c.args.query.now.defs.now c.args.kept c.requires.kept known).count))
    c.requires.stamp

pub search-requires-clause-definitions : goal.search-requires-clause-definitions
search-requires-clause-definitions g c =
    let known = c.args.slot.now.known in
    let is = c.in_ok-shard.ensures c.args.query.now.defs.now c.args.kept c.requires.begun in
    let same : c.args.query.now.defs.now ≡ c.in-Some.snapshot.shard.definitions =
    sym (ap (λ (s : SnapshotParts). s.shard.definitions) c.in-Some.ensures.snapshot ∙ ap (λ (s : ShardParts). s.definitions) is
    ∙ (c.entries_are_kept.ensures c.args.query.now.defs.now c.args.kept c.requires.kept known).definitions) in
    All-cons (λ (s : SnapshotParts). c.args.query.now.defs.now ≡ s.shard.definitions) c.in-Some.snapshot [] same
    (All-nil (λ (s : SnapshotParts). c.args.query.now.defs.now ≡ s.shard.definitions))

pub returns-in_ok-found-in-Some-clause-found : goal.returns-in_ok-found-in-Some-clause-found
returns-in_ok-found-in-Some-clause-found g c = λ journal m shards ancestor long has first.
    let n = c.args.query.now.normal.now in
    let w = c.args.query.now.window.now in
    let known = c.args.slot.now.known in
    let found = c.in_ok-found-in-Some.found in
    let is = c.in_ok-shard.ensures c.args.query.now.defs.now c.args.kept c.requires.begun in
    let stands = c.entries_are_kept.ensures c.args.query.now.defs.now c.args.kept c.requires.kept known in
    let count : c.in_ok-shard.shard.count ≡ length known = ap (λ (s : ShardParts). s.count) is ∙ stands.count in
    let same : c.in-Some.snapshot ≡ snapshot_of c.args.query.now.defs.now c.args.kept known c.args.stamp =
    c.in-Some.ensures.snapshot ∙ ap (λ (s : ShardParts). record { shard = s; stamp = c.args.stamp }) is in
    let kept = c.in-Some.ensures.kept in
    found_in_group c.entries_are_kept.ensures c.args.query.now.defs.now c.args.kept c.requires.kept known c.args.stamp
    (floor-within c.args.kept (length known) c.args.stamp (omega (arith, kept, count))) c.requires.stamp n w found.results found.next
    (subst (λ (s : SnapshotParts). AreOfShards 1 0 (entities_in s ∷ [])
    → IsResultOf n w (all_entities (entities_in s ∷ [])) found.results found.next)
    same c.in_ok-found-in-Some.ensures.found)
    journal m shards ancestor long (have_ancestor n ancestor c.requires.planned.lawful has) first

pub returns-in-None-clause-found : goal.returns-in-None-clause-found
returns-in-None-clause-found g c =
    let known = c.args.slot.now.known in
    let is = c.in_ok-shard.ensures c.args.query.now.defs.now c.args.kept c.requires.begun in
    let stands = c.entries_are_kept.ensures c.args.query.now.defs.now c.args.kept c.requires.kept known in
    let count : c.in_ok-shard.shard.count ≡ length known = ap (λ (s : ShardParts). s.count) is ∙ stands.count in
    let gone = c.in-None.ensures.kept in
    record {
      gone = omega (arith, gone, count);
      applied_is = c.count.ensures ∙ count;
      commit_is = c.last.ensures ∙ ap (λ (s : ShardParts). s.last) is ∙ stands.last;
    }
