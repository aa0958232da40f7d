-- Commits that are handed out.
use Rattle.std.proofs.Common.{◌≡◌, ℕ, ◌≤◌, List, drop, sym, subst}
use Rattle.std.proofs.lemmas.List.Elements.{All-drop}
use Rattle.ds_log.specs.declared.Commit.{Commit}
use Rattle.ds_log.specs.Ids.{AreIssued, AllIssued}
use Rattle.ds_log.specs.JournalLaws.{AllIssued-rises}

-- what is issued below the id counter of the book is issued below the one that is told
pub issued-since : (journal commits : List Commit) (from low next : ℕ) → AllIssued low journal → low ≤ next → commits ≡ drop from journal
    → AllIssued next commits
issued-since journal commits from low next issued rise are =
    subst (AllIssued next) (sym are)
    (All-drop (λ (c : Commit). AreIssued next c.writes) from journal (AllIssued-rises low next journal rise issued))
