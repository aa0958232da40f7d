-- What a pass has seen once it was shown all commits, or the id counter.
use Rattle.std.proofs.Common.{◌≡◌, ℕ, ◌≤◌, List, length, refl, ap, sym, ◌∙◌, subst, arith}
use Rattle.std.specs.Prelude.{Some}
use mathlib.Core.List.{IsPrefix}
use Rattle.ds_log.specs.declared.Commit.{Commit}
use Rattle.ds_log.specs.declared.Conflict.{Conflict}
use Rattle.ds_log.specs.declared.Touch.{Touch}
use Rattle.ds_log.specs.Conflicts.{conflict_of, last_writer}
use Rattle.ds_log.specs.ConflictLaws.{conflict_from-Some}
use Rattle.ds_store_passes.specs.Answered.{IsConflict, HasLooked}
use Rattle.ds_store_passes.specs.Passes.{PassParts, HasRead}
use Rattle.ds_hub.specs.Growing.{AreLonger}
use Rattle.ds_store_passes.proofs.Growing.{begins_itself, longer_itself}

-- what the pass has seen that was shown all commits
abbrev pub shown : PassParts → List Commit → PassParts
shown p journal = record p { journal = journal; place = length journal }

-- a pass that is shown more, and does nothing
pub read-by : (p q : PassParts) → IsPrefix p.journal q.journal → q.lists ≡ p.lists → p.place ≤ q.place → p.next ≤ q.next
    → q.commits ≡ p.commits → q.draws ≡ p.draws → HasRead p q
read-by p q grown lists place next commits draws = record {
  journal = grown;
  lists = subst (AreLonger p.lists) (sym lists) (longer_itself p.lists);
  place = place;
  next = next;
  commits = commits;
  draws = draws;
}

-- a pass that looks at the id counter, and does nothing
pub read-next : (p q : PassParts) → q ≡ record p { next = q.next } → p.next ≤ q.next → HasRead p q
read-next p q looks risen =
    let journal : q.journal ≡ p.journal = ap (λ (s : PassParts). s.journal) looks in
    let place : q.place ≡ p.place = ap (λ (s : PassParts). s.place) looks in
    read-by p q (subst (IsPrefix p.journal) (sym journal) (begins_itself p.journal)) (ap (λ (s : PassParts). s.lists) looks)
    (omega (arith, place)) risen (ap (λ (s : PassParts). s.commits) looks) (ap (λ (s : PassParts). s.draws) looks)

pub shown-looked : (p : PassParts) (journal : List Commit) (place : ℕ) → IsPrefix p.journal journal → p.place ≤ length journal
    → place ≡ length journal → HasLooked p (shown p journal) place
shown-looked p journal place grown low is = record {
  read = record { journal = grown; lists = longer_itself p.lists; place = low; next = omega arith; commits = refl; draws = refl };
  whole = is;
  stands = sym is;
}

pub looked : (p q : PassParts) (journal : List Commit) (place : ℕ) → q ≡ shown p journal → IsPrefix p.journal q.journal
    → p.place ≤ length journal → place ≡ q.place → HasLooked p q place
looked p q journal place same grown low is =
    let P : PassParts → Type 0 = λ r. IsPrefix p.journal r.journal → place ≡ r.place → HasLooked p r place in
    subst P (sym same) (λ grown' is'. shown-looked p journal place grown' low is') grown is

pub conflicted : (p q : PassParts) (journal : List Commit) (touched : List Touch) (x : Conflict) → q ≡ shown p journal
    → IsPrefix p.journal q.journal → p.place ≤ length journal → conflict_of journal touched ≡ Some x → IsConflict p q touched x
conflicted p q journal touched x same grown low found =
    let at : x.place ≡ length journal = (conflict_from-Some (last_writer journal) (length journal) 0 touched x found).5 in
    let place : q.place ≡ length journal = ap (λ (s : PassParts). s.place) same in
    record {
      looked = looked p q journal x.place same grown low (at ∙ sym place);
      is = ap (λ (s : PassParts). conflict_of s.journal touched) same ∙ found;
    }
