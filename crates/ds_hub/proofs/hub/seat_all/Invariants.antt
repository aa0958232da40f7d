use Rattle.std.proofs.Common.{◌≡◌, replicate}
use Rattle.ds_hub.specs.Holding.{start_of}
use Rattle.ds_hub.proofs.hub.seat_all.Given as goal

abbrev pub invariant-loop-place : goal.invariant-loop-place
invariant-loop-place g l =
    (l.copies.shown ≡ l.initial.copies.shown) × (l.copies.log ≡ l.initial.copies.log) × (l.copies.knows ≡ l.initial.copies.knows)
    × (l.list ≡ replicate l._place (record { hub = l.prefix.hub; start = start_of l.copies.knows; known = l.prefix.list }))
