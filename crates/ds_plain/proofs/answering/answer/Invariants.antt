-- The entities so far.
use Rattle.std.proofs.Common.{◌≡◌, map, take}
use Rattle.ds_plain.proofs.answering.answer.Given as goal

abbrev pub invariant-loop-entity : goal.invariant-loop-entity
invariant-loop-entity l = map (λ e. e.now) l.lent.items ≡ take l.entity-index l.entities
