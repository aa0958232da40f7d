use Rattle.ds_request.proofs.ClientLemmas.{read_of_client}
use Rattle.ds_request.proofs.line.read_request_with.Goals as goal

pub returns-in-Ok-clause-client : goal.returns-in-Ok-clause-client
returns-in-Ok-clause-client c = read_of_client c.args.line.now c.read_data.result (rw c.in-Ok.ensures c.read_data.ensures.read)
