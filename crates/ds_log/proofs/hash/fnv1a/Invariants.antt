use Rattle.std.proofs.Common.{◌≡◌, drop}
use Rattle.std.specs.Prelude.{fold}
use Rattle.ds_log.specs.Shards.{fnv1a, fnv1a_step}
use Rattle.ds_log.proofs.hash.fnv1a.Given as goal

-- the later bytes lead from the hash so far to the hash of all
abbrev pub invariant-loop-byte : goal.invariant-loop-byte
invariant-loop-byte l = fold fnv1a_step l.hash (drop l.byte-index l.bytes) ≡ fnv1a l.bytes
