use Rattle.ds_store_passes.proofs.Seeing.{HasRead-itself}
use Rattle.ds_store_running.proofs.store.Store.stand.Goals as goal

pub returns-in_err-desk-clause-read : goal.returns-in_err-desk-clause-read
returns-in_err-desk-clause-read g c = HasRead-itself c.args.pass.now
