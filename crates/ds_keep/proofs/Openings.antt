-- What a reading says of the contents of a disk, and what a settled keeper's disk stands for.
use Rattle.std.proofs.Common.{◌≡◌, ℕ, ◌+◌, ◌≤◌, List, [], ◌∷◌, ◌++◌, length, drop, true, false, refl, sym, ap, ◌∙◌, subst, length-append, arith}
use Rattle.std.specs.Prelude.{All, Bool, IsTrue}
use Rattle.ds_base.specs.Limits.{greatest_id}
use Rattle.ds_disk.specs.Crashes.{Only, LeavesOnly}
use Rattle.ds_disk.specs.CrashLaws.{started}
use Rattle.ds_log.specs.declared.Commit.{Commit}
use Rattle.ds_journal_text.specs.Lawful.{IsLawfulCommit}
use Rattle.ds_kept_file.specs.Files.{Kept, Batch, with_batch, body_of, sized, StandsFor, IsDamaged}
use Rattle.ds_kept_file.specs.Readings.{found, IsReadingOf}
use Rattle.ds_kept_file.specs.declared.reading.FileRead.{FileRead}
use Rattle.ds_keep.specs.Keepers.{KeeperParts, IsClosedAt, IsWholeTo, IsSettled, IsBatchPut, MayAppend, batch_of}

pub closed_of : (file contents : List ℕ) (read : FileRead) → file ≡ contents → IsReadingOf file read → read.damaged ≡ false
    → IsClosedAt read.gate (found read) contents
closed_of file contents read same reading sound =
    let Closed : List ℕ → Type 0 = λ l. IsClosedAt read.gate (found read) l in
    subst Closed same (record { whole = reading.front; closed = reading.gate ∙ sound; within = reading.within })

pub damaged_of : (file contents : List ℕ) (read : FileRead) → file ≡ contents → IsReadingOf file read → read.damaged ≡ true
    → IsDamaged contents read.gate (found read)
damaged_of file contents read same reading broken =
    let Damaged : List ℕ → Type 0 = λ l. IsDamaged l read.gate (found read) in
    subst Damaged same (record { front = reading.front; opens = reading.gate ∙ broken; none = reading.none broken })

-- what the contents stand for was found, and they aren't damaged
pub alone_of : (file contents : List ℕ) (read : FileRead) (kept : Kept) → file ≡ contents → IsReadingOf file read → StandsFor kept contents
    → (read.damaged ≡ false) × (kept ≡ found read)
alone_of file contents read kept same reading stands = reading.alone kept (subst (StandsFor kept) (sym same) stands)

pub whole_stands : (gate : ℕ) (kept : Kept) (file : List ℕ) → IsWholeTo gate kept file → StandsFor kept file
whole_stands gate kept file whole = (0 ∷ [], whole.whole, refl)

pub closed_stands : (gate : ℕ) (kept : Kept) (file : List ℕ) → IsClosedAt gate kept file → StandsFor kept file
closed_stands gate kept file closed = (drop gate file, closed.whole, closed.closed)

-- a disk that wasn't touched leaves what it left
pub untouched : {D : Type 0} (moment : D → ℕ) (left_since : D → ℕ → List ℕ → Type 0) (images : D → List ℕ → Type 0)
    → ((disk : D) (image : List ℕ) → left_since disk (moment disk) image → images disk image)
    → (disk : D) (contents : List ℕ) (P : List ℕ → Type 0) → Only contents (images disk) → P contents → LeavesOnly moment left_since disk disk P
untouched moment left_since images only_now disk contents P only has =
    started moment left_since disk P (λ image left. subst P (sym (only image (only_now disk image left))) has)

-- what is written of commits that may be appended is a batch that may follow
pub batch_put : (keeper : KeeperParts) (kept : Kept) (commits : List Commit) (next : ℕ) (written : List ℕ) → keeper.commits ≡ length kept.journal → keeper.next ≡ kept.next
    → All IsLawfulCommit commits → MayAppend kept commits next → keeper.next ≤ next → next ≤ greatest_id
    → written ≡ sized (body_of (keeper.commits + 1) (batch_of commits next)) ++ 0 ∷ [] → IsBatchPut kept (batch_of commits next) (length commits) next written
batch_put keeper kept commits next written count counter lawful may rises bounded is = record {
  continues = record {
    follow = record { lawful = lawful; serial = may.0; issued = may.1 };
    rises = omega (arith, counter, rises);
    bounded = bounded;
  };
  bytes = is ∙ ap (λ n. sized (body_of (n + 1) (batch_of commits next)) ++ 0 ∷ []) count;
  commits_are = refl;
  next_is = refl;
}

-- one batch more is settled
pub settled_put : {D : Type 0} (is_honest : D → Bool) (contents : D → List ℕ) (images : D → List ℕ → Type 0) (keeper later : KeeperParts) (kept : Kept) (batch : Batch)
    → (more next : ℕ) (written : List ℕ) (new : D) → keeper.commits ≡ length kept.journal → IsBatchPut kept batch more next written
    → later.gate ≡ keeper.gate + length written → later.commits ≡ keeper.commits + more → later.next ≡ next → IsTrue (is_honest new)
    → IsWholeTo (keeper.gate + length written) (with_batch kept batch) (contents new) → Only (contents new) (images new)
    → IsSettled is_honest contents images later (with_batch kept batch) new
settled_put is_honest contents images keeper later kept batch more next written new count put gate commits counter honest whole durable = record {
  honest = honest;
  file = subst (λ g. IsWholeTo g (with_batch kept batch) (contents new)) (sym gate) whole;
  durable = durable;
  commits = omega (arith, commits, count, put.commits_are, length-append kept.journal batch.commits);
  next = counter ∙ sym put.next_is;
}
