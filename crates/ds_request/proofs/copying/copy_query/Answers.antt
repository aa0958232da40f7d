use Rattle.std.proofs.Common.{ap}
use Rattle.ds_request.specs.declared.call.Call.{Call}
use Rattle.ds_request.proofs.copying.copy_query.Goals as goal

pub returns : goal.returns
returns c =
    ap (λ r. Call.Query r.0.0 r.0.1 r.0.2 r.1.0 r.1.1 r.1.2 c.args.page.0 c.args.page.1 r.2.0 r.2.1 c.args.page.2)
    (c.in_ok-scope.ensures _ _ _ c.copy_scope-scope.ensures c.copy_terms-terms.ensures c.copy_both-ends.ensures)
