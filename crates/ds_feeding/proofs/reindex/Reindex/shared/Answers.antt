use Rattle.ds_feeding.proofs.CatchingUpLaws.{shared_with}
use Rattle.ds_feeding.proofs.reindex.Reindex.shared.Goals as goal

pub returns-in-Ok-clause-shared : goal.returns-in-Ok-clause-shared
returns-in-Ok-clause-shared g c =
    let made = c.share-store.result in
    let told = c.share-store.ensures in
    shared_with c.args.self c.into_parts-loading.result.0 c.args.pass.now made.store made.passes c.in-Ok.passes c.into_parts-loading.ensures
    told.store.0 told.store.1 told.some told.passes c.in-Ok.ensures.read c.in-Ok.ensures.caught_up
