use Rattle.std.proofs.Common.{◌≡◌, fold, take}
use Rattle.std.specs.Option.{option_copied}
use Rattle.ds_history.specs.Writers.{left_at}
use Rattle.ds_history.proofs.reads.left_at.Given as goal

-- so far the first writes are looked at
abbrev pub invariant-loop-write : goal.invariant-loop-write
invariant-loop-write l = option_copied l.left ≡ fold (left_at l.key) (option_copied l.initial.earlier) (take l.write-index l.writes)
