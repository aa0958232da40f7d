use Rattle.ds_store_passes.proofs.Seeing.{HasRead-itself}
use Rattle.ds_store_running.proofs.store.Store.stand_with.Goals as goal

pub returns-in_err-catch_up-clause-read : goal.returns-in_err-catch_up-clause-read
returns-in_err-catch_up-clause-read g c = HasRead-itself c.args.pass.now
