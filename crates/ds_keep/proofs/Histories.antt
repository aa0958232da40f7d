-- What whole batches keep is one serial history, whose written ids were drawn.
use Rattle.std.proofs.Common.{◌≡◌, ℕ, ◌≤◌, List, [], ◌∷◌, ◌++◌, subst, arith}
use Rattle.std.specs.Prelude.{All, Some, slice_get}
use Rattle.std.proofs.lemmas.List.Elements.{All-append, All-nil}
use Rattle.ds_base.specs.Limits.{first_drawn_id}
use Rattle.ds_log.specs.declared.Commit.{Commit}
use Rattle.ds_log.specs.Ids.{AreIssued}
use Rattle.ds_log.specs.JournalLaws.{AllIssued-rises}
use Rattle.ds_kept_file.specs.Files.{Kept, Batch, AreContinuing, BeginsWith, Continues, kept_after, nothing, with_batch}
use Rattle.ds_keep.specs.Keepers.{IsHistory}

with-batch : (kept : Kept) (batch : Batch) → IsHistory kept → Continues kept batch → IsHistory (with_batch kept batch)
with-batch kept batch before more = record {
  serial = more.follow.serial;
  issued = All-append (λ (c : Commit). AreIssued batch.next c.writes) kept.journal batch.commits
      (AllIssued-rises kept.next batch.next kept.journal more.rises before.issued) more.follow.issued;
  least = omega (arith, before.least, more.rises);
  bounded = more.bounded;
}

with-batches : (kept : Kept) (batches : List Batch) → IsHistory kept → AreContinuing kept batches → IsHistory (kept_after kept batches)
with-batches kept [] before more = before
with-batches kept (batch ∷ batches) before more =
    with-batches (with_batch kept batch) batches (with-batch kept batch before more.0) more.1

nothing-kept : IsHistory nothing
nothing-kept = record {
  serial = λ n c is. cc is;
  issued = All-nil (λ (c : Commit). AreIssued first_drawn_id c.writes);
  least = omega arith;
  bounded = omega arith;
}

pub history_of : (file behind : List ℕ) (kept : Kept) → BeginsWith file kept behind → IsHistory kept
history_of file behind kept begins =
    subst IsHistory begins.after (with-batches nothing begins.batches nothing-kept begins.continuing)
