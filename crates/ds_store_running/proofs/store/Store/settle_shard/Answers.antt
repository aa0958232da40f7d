use Rattle.ds_store_passes.specs.Passes.{HasRead}
use Rattle.ds_store_passes.proofs.PassReads.{on_err}
use Rattle.ds_store_passes.proofs.Seeing.{HasRead-itself}
use Rattle.ds_store_running.proofs.store.Store.settle_shard.Goals as goal

pub returns-in_err-desk-clause-read : goal.returns-in_err-desk-clause-read
returns-in_err-desk-clause-read g c =
    on_err c.from_residual.result (HasRead c.args.pass.now c.args.pass.now) (HasRead-itself c.args.pass.now)
