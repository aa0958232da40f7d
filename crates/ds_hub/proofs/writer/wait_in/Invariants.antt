use Rattle.std.proofs.Common.{◌≡◌}
use Rattle.ds_hub.specs.Logs.{queued}
use Rattle.ds_hub.proofs.writer.wait_in.Given as goal

abbrev pub invariant-loop : goal.invariant-loop
invariant-loop g l =
    (goal.iterator-loop g).can_next l.iterator' × (goal.iterator-loop g).is_finite l.iterator'
    × (queued l.copies.log l.left ≡ queued l.initial.copies.log l.initial.left)
    × (l.copies.seat ≡ l.initial.copies.seat) × (l.copies.knows ≡ l.initial.copies.knows) × (l.copies.shown ≡ l.initial.copies.shown)
