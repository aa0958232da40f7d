use Rattle.std.proofs.Common.{ap, ◌∙◌, arith}
use Rattle.ds_engine.specs.Searches.{ancestor_of}
use Rattle.ds_store_passes.specs.Passes.{HasRead}
use Rattle.ds_store_passes.proofs.PassReads.{on_err}
use Rattle.ds_store_passes.proofs.Seeing.{HasRead-itself}
use Rattle.ds_store_running.proofs.store.Store.strong_query.Goals as goal

pub returns-in_err-plans-clause-read : goal.returns-in_err-plans-clause-read
returns-in_err-plans-clause-read g c =
    on_err c.from_residual.result (HasRead c.args.pass.now c.args.pass.now) (HasRead-itself c.args.pass.now)

pub returns-in_err-shard-clause-read : goal.returns-in_err-shard-clause-read
returns-in_err-shard-clause-read g c =
    on_err c.from_residual-in_err-shard.result (HasRead c.args.pass.now c.args.pass.now) (HasRead-itself c.args.pass.now)

pub strong_query_planned-requires-clause-shard : goal.strong_query_planned-requires-clause-shard
strong_query_planned-requires-clause-shard g c = λ ancestor is.
    c.in_ok-shard.ensures.is ancestor (ap ancestor_of c.as_slice-branches.ensures ∙ is)

pub returns-in_err-plans-clause-steps_in_all : goal.returns-in_err-plans-clause-steps_in_all
returns-in_err-plans-clause-steps_in_all g c = λ ancestor is. (0, omega arith)

pub returns-in_err-shard-clause-steps_in_all : goal.returns-in_err-shard-clause-steps_in_all
returns-in_err-shard-clause-steps_in_all g c = λ ancestor is. (0, omega arith)
