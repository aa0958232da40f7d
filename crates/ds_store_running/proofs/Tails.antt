-- Commits that are handed out in parts.
use Rattle.std.proofs.Common.{◌≡◌, ℕ, ◌+◌, ◌-◌, ◌≤◌, min, List, Bool, true, false, drop, length, take, refl, ap, sym, subst, ◌∙◌, arith, length-drop}
use Rattle.std.specs.Prelude.{nat_le}
use Rattle.std.proofs.lemmas.Bool.{leb-true, leb-false}
use Rattle.std.proofs.lemmas.List.{drop-take, take_all}
use Rattle.std.proofs.lemmas.List.Elements.{All-drop, All-take}
use Rattle.ds_log.specs.declared.Commit.{Commit}
use Rattle.ds_log.specs.Ids.{AreIssued, AllIssued}
use Rattle.ds_log.specs.JournalLaws.{AllIssued-rises}

-- what is issued below the id counter of the book is issued below the one that is told
pub issued_some : (journal commits : List Commit) (from to low next : ℕ) → AllIssued low journal → low ≤ next
    → commits ≡ drop from (take to journal) → AllIssued next commits
issued_some journal commits from to low next issued rise are =
    subst (AllIssued next) (sym are)
    (All-drop (λ (c : Commit). AreIssued next c.writes) from (take to journal)
    (All-take (λ (c : Commit). AreIssued next c.writes) to journal (AllIssued-rises low next journal rise issued)))

-- a part of a list that ends with the list at the latest
pub part_is : {X : Type 0} (xs : List X) (from most end long : ℕ) → end ≡ min (from + most) long → long ≡ length xs → from ≤ length xs
    → take (end - from) (drop from xs) ≡ drop from (take (from + most) xs)
part_is xs from most end long is whole low = by (nat_le most (length xs - from)) refl ∙ sym (drop-take from most xs) where
  by : (b : Bool) → nat_le most (length xs - from) ≡ b → take (end - from) (drop from xs) ≡ take most (drop from xs)
  by true le =
      let fits = leb-true most (length xs - from) le in
      ap (λ n. take n (drop from xs)) (omega (arith, is, whole, low, fits))
  by false gt =
      let over = leb-false most (length xs - from) gt in
      take_all (end - from) (drop from xs) (omega (arith, is, whole, low, over, length-drop from xs))
      ∙ sym (take_all most (drop from xs) (omega (arith, over, length-drop from xs)))
