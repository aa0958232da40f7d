use Rattle.std.proofs.Common.{◌∙◌, ap, length, sym}
use Rattle.ds_store.specs.Loads.{loaded}
use Rattle.ds_store.specs.Passes.{nothing_seen}
use Rattle.ds_feeding.proofs.EndLaws.{as_many, closed}
use Rattle.ds_feeding.proofs.reindex.Reindex.end.Goals as goal

pub close-requires : goal.close-requires
close-requires g c =
    let fed = c.into_parts-loading.result.0 in
    let shared = c.share-store.ensures in
    ap length shared.passes ∙ as_many fed.passes (nothing_seen fed.shards) (loaded fed.shards fed.journal fed.next) shared.some
    ∙ sym shared.store.1

pub returns-clause-journal : goal.returns-clause-journal
returns-clause-journal g c =
    let made = c.share-store.result in
    let told = c.share-store.ensures in
    (closed c.args.self c.into_parts-loading.result.0 made.store made.passes c.close.result.journal c.close.result.next
    c.into_parts-loading.ensures told.store.0 told.passes c.next-counter.ensures.within.0 c.close.ensures).0

pub returns-clause-next : goal.returns-clause-next
returns-clause-next g c =
    let made = c.share-store.result in
    let told = c.share-store.ensures in
    (closed c.args.self c.into_parts-loading.result.0 made.store made.passes c.close.result.journal c.close.result.next
    c.into_parts-loading.ensures told.store.0 told.passes c.next-counter.ensures.within.0 c.close.ensures).1
