-- Whole batches were read up to the rest, and what the file may stand for leads on from there.
use Rattle.std.proofs.Common.{ℕ, List, length}
use Rattle.ds_kept_file.specs.Files.{Kept, BeginsWith, nothing}
use Rattle.ds_kept_file.specs.Readings.{kept_in}
use Rattle.ds_kept_file.proofs.Batches.{LeadsTo}
use Rattle.ds_kept_file.proofs.reading.read_file.Given as goal

abbrev pub invariant-batches : goal.invariant-batches
invariant-batches l = record {
  front : BeginsWith l.file (kept_in l.book) l.rest;
  leads : (other : Kept) (end : List ℕ) → LeadsTo nothing l.file other end → LeadsTo (kept_in l.book) l.rest other end;
}

abbrev pub decreases-batches : goal.decreases-batches
decreases-batches l = length l.rest
