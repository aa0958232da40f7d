-- Which commits may follow, commit by commit.
use Rattle.std.proofs.Common.{◌≡◌, ℕ, List, [], ◌∷◌, ◌++◌, length, refl, sym, subst, append_assoc}
use Rattle.std.specs.Prelude.{All, slice_get, Some}
use Rattle.std.proofs.Math.Seq.{take-append_seam, drop-append_seam}
use Rattle.std.proofs.lemmas.List.Elements.{All-head, All-tail, All-drop}
use Rattle.ds_log.specs.declared.Commit.{Commit}
use Rattle.ds_log.specs.Conflicts.{IsCommitted, IsSerial}
use Rattle.ds_log.specs.Ids.{AreIssued, AllIssued}
use Rattle.ds_journal_text.specs.Lawful.{IsLawfulCommit}
use Rattle.ds_kept_file.specs.Files.{MayFollow}
use Rattle.ds_kept_file.specs.Readings.{MayCommit}

at_seam : (before : List Commit) (c : Commit) (more : List Commit) → slice_get (before ++ c ∷ more) (length before) ≡ Some c
at_seam [] c more = refl
at_seam (b ∷ before) c more = at_seam before c more

-- the first commit of those that may follow may follow
pub first_may : (journal : List Commit) (next : ℕ) (c : Commit) (more : List Commit) → MayFollow journal next (c ∷ more)
    → MayCommit (record { journal = journal; next = next }) c
first_may journal next c more h = record {
  committed = subst (λ before. IsCommitted before c) (take-append_seam journal (c ∷ more)) (h.serial (length journal) c (at_seam journal c more));
  issued = All-head (λ (d : Commit). AreIssued next d.writes) c more h.issued;
}

-- behind it the others may follow
pub others_may : (journal : List Commit) (next : ℕ) (c : Commit) (more : List Commit) → MayFollow journal next (c ∷ more)
    → MayFollow (journal ++ c ∷ []) next more
others_may journal next c more h = record {
  lawful = All-tail IsLawfulCommit c more h.lawful;
  serial = subst IsSerial (sym (append_assoc journal (c ∷ []) more)) h.serial;
  issued = All-tail (λ (d : Commit). AreIssued next d.writes) c more h.issued;
}

-- what a book keeps of a journal says which commits of it followed
pub followed : (journal all : List Commit) (next : ℕ) (commits : List Commit) → all ≡ journal ++ commits → IsSerial all → AllIssued next all
    → All IsLawfulCommit commits → MayFollow journal next commits
followed journal all next commits same serial issued lawful = record {
  lawful = lawful;
  serial = subst IsSerial same serial;
  issued = subst (AllIssued next) (drop-append_seam journal commits)
      (All-drop (λ (d : Commit). AreIssued next d.writes) (length journal) (journal ++ commits) (subst (AllIssued next) same issued));
}
