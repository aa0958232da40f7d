use Rattle.std.proofs.Common.{◌+◌, ◌-◌}
use Rattle.ds_base.specs.Limits.{most_input_bytes}
use Rattle.ds_asked.proofs.Inputs.{IsReadSoFar}
use Rattle.ds_asked.proofs.input.asked_of_input.Given as goal

-- the rounds so far are asked
abbrev pub invariant-rounds : goal.invariant-rounds
invariant-rounds l = IsReadSoFar l.shards l.input l.source.left l.reader l.rounds.items

-- line numbers rise with each round
abbrev pub decreases-rounds : goal.decreases-rounds
decreases-rounds l = most_input_bytes + 1 - l.reader.number
