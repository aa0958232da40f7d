use Rattle.std.proofs.Common.{◌≡◌, length}
use Rattle.ds_paxos.specs.Members.{restarted, AreListed}
use Rattle.ds_paxos.proofs.member.stop_all.Given as goal

-- the places that are left
abbrev pub invariant-loop-place : goal.invariant-loop-place
invariant-loop-place l = (restarted l.instances.entries ≡ restarted l.initial.instances.entries) × AreListed l.running.items l.instances.entries

abbrev pub decreases-loop-place : goal.decreases-loop-place
decreases-loop-place l = length l.running.items
