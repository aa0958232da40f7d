use Rattle.std.proofs.Common.{◌≡◌, flat_map}
use Rattle.ds_query.specs.Branching.{split_by}
use Rattle.ds_query.proofs.splitting.split_all.Given as goal

abbrev pub invariant-loop-conditions : goal.invariant-loop-conditions
invariant-loop-conditions l = l.after.items ≡ flat_map (split_by l.filter) l.yielded
