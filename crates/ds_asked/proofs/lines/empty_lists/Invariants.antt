use Rattle.std.proofs.Common.{◌≡◌, [], replicate}
use Rattle.ds_asked.proofs.lines.empty_lists.Given as goal

abbrev pub invariant-fill : goal.invariant-fill
invariant-fill l = l.lists.items ≡ replicate l._client []
