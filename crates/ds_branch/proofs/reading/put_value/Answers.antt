use Rattle.std.proofs.Common.{◌∷◌, ◌++◌, [], ap, ◌∙◌}
use Rattle.ds_branch.proofs.Readings.{value_found, no_value}
use Rattle.ds_branch.proofs.reading.put_value.Goals as goal

pub unreachable-requires : goal.unreachable-requires
unreachable-requires c = no_value c.args.descending c.args.bytes.now (rw c.in-None.is at c.in_ok-found.ensures.none) c.requires

pub returns : goal.returns
returns c = λ v more lawful written.
    let found = value_found c.args.descending c.args.bytes.now c.split_at.result.1.now c.in-Some.found.value c.in-Some.found.rest
    (rw c.in-Some.is at c.in_ok-found.ensures.lawful) (rw c.in-Some.is at c.in_ok-found.ensures.found) c.split_at.ensures.back v more
    lawful written in
    (c.in_ok-push-in-Some.ensures.items ∙ ap (λ w. c.args.values.now.items ++ w ∷ []) found.0, found.1)
