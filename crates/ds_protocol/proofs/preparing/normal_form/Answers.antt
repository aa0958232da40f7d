use Rattle.ds_protocol.proofs.Refusals.{normal_read}
use Rattle.ds_protocol.proofs.preparing.normal_form.Goals as goal

pub returns-else-in_transaction-clause-ok : goal.returns-else-in_transaction-clause-ok
returns-else-in_transaction-clause-ok c = (normal_read c.args.query.now c.in-Ok.normal c.in-Ok.ensures.ok).0
