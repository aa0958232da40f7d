use Rattle.ds_branch.proofs.Readings.{key_found, no_key}
use Rattle.ds_branch.proofs.reading.key_of.Goals as goal

pub unreachable-requires : goal.unreachable-requires
unreachable-requires c = no_key c.args.descending c.args.bytes.now (rw c.in-None.is at c.in_ok-found.ensures.none) c.requires

pub returns : goal.returns
returns c = key_found c.args.descending c.args.bytes.now c.in-Some.found.key c.in-Some.found.rest
    (rw c.in-Some.is at c.in_ok-found.ensures.lawful) (rw c.in-Some.is at c.in_ok-found.ensures.found)
