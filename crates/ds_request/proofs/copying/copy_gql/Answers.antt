use Rattle.std.proofs.Common.{ap}
use Rattle.ds_request.specs.declared.call.Call.{Call}
use Rattle.ds_request.proofs.copying.copy_gql.Goals as goal

pub returns : goal.returns
returns c =
    ap (λ r. Call.Gql r.0.0 r.0.1 r.1.0 r.1.1 r.2.0 r.2.1 c.args.cursor)
    (c.in_ok-statement.ensures _ _ _ c.copy_both-statement.ensures c.copy_both-bindings.ensures c.copy_both-ends.ensures)
