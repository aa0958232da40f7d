use Rattle.std.proofs.Common.{◌≡◌, ◌+◌, ◌<◌, ◌≤◌, ◌⊎◌, ℕ, List, Bool, length}
use Rattle.ds_rounds.specs.Drafts.{IsOpen, Stands, number_in}
use Rattle.ds_rounds.specs.Rounds.{NumberedLine}
use Rattle.ds_rounds.proofs.rounds.absorb.Given as goal

abbrev pub decreases-lines : goal.decreases-lines
decreases-lines l = length l.piece

-- whatever rounds were told of what there was before are told of what there is now
abbrev pub invariant-lines : goal.invariant-lines
invariant-lines l = record {
  open_still : IsOpen l.draft;
  counted : l.number ≡ number_in l.draft;
  first : l.fn.draft.first ≤ l.draft.first;
  risen : l.fn.number ≤ l.number;
  passed : l.number + length l.piece ≤ l.fn.number + length l.fn.piece;
  stands : (rounds : Bool → List ℕ → List (List NumberedLine)) → Stands rounds l.fn.draft l.fn.number l.fn.piece → Stands rounds l.draft l.number l.piece;
  room : (length l.piece < length l.fn.piece) ⊎ ((l.piece ≡ l.fn.piece) × (l.draft ≡ l.fn.draft));
}
