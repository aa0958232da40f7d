-- What a pass has seen after it saw more of one kind.
use Rattle.std.proofs.Common.{◌≡◌, ℕ, ◌≤◌, max, List, length, sym, subst, ap, ◌∙◌, arith, Result, Ok, Err}
use Rattle.std.specs.Prelude.{OnErr}
use mathlib.Core.List.{IsPrefix}
use Rattle.ds_hub.specs.Growing.{AreLonger}
use Rattle.ds_log.specs.declared.Commit.{Commit}
use Rattle.ds_store_passes.specs.Answered.{HasLooked}
use Rattle.ds_store_passes.specs.Passes.{PassParts, HasRead}
use Rattle.ds_store_passes.proofs.Growing.{begins_itself, longer_itself}

-- only more commits were seen
pub read_commits : (p q : PassParts) → q ≡ record p { journal = q.journal } → IsPrefix p.journal q.journal → HasRead p q
read_commits p q is grown = record {
  journal = grown;
  lists = subst (AreLonger p.lists) (sym (ap (λ (r : PassParts). r.lists) is)) (longer_itself p.lists);
  place = omega (arith, ap (λ (r : PassParts). r.place) is);
  next = omega (arith, ap (λ (r : PassParts). r.next) is);
  commits = ap (λ (r : PassParts). r.commits) is;
  draws = ap (λ (r : PassParts). r.draws) is;
}

-- only more entries
pub read_entries : (p q : PassParts) → q ≡ record p { lists = q.lists } → AreLonger p.lists q.lists → HasRead p q
read_entries p q is grown = record {
  journal = subst (IsPrefix p.journal) (sym (ap (λ (r : PassParts). r.journal) is)) (begins_itself p.journal);
  lists = grown;
  place = omega (arith, ap (λ (r : PassParts). r.place) is);
  next = omega (arith, ap (λ (r : PassParts). r.next) is);
  commits = ap (λ (r : PassParts). r.commits) is;
  draws = ap (λ (r : PassParts). r.draws) is;
}

-- or a higher place
pub read_place : (p q : PassParts) (place : ℕ) → q ≡ record p { place = max p.place place } → HasRead p q
read_place p q place is = record {
  journal = subst (IsPrefix p.journal) (sym (ap (λ (r : PassParts). r.journal) is)) (begins_itself p.journal);
  lists = subst (AreLonger p.lists) (sym (ap (λ (r : PassParts). r.lists) is)) (longer_itself p.lists);
  place = omega (arith, ap (λ (r : PassParts). r.place) is);
  next = omega (arith, ap (λ (r : PassParts). r.next) is);
  commits = ap (λ (r : PassParts). r.commits) is;
  draws = ap (λ (r : PassParts). r.draws) is;
}

-- or a higher id counter
pub read_next : (p q : PassParts) → q ≡ record p { next = q.next } → p.next ≤ q.next → HasRead p q
read_next p q is risen = record {
  journal = subst (IsPrefix p.journal) (sym (ap (λ (r : PassParts). r.journal) is)) (begins_itself p.journal);
  lists = subst (AreLonger p.lists) (sym (ap (λ (r : PassParts). r.lists) is)) (longer_itself p.lists);
  place = omega (arith, ap (λ (r : PassParts). r.place) is);
  next = risen;
  commits = ap (λ (r : PassParts). r.commits) is;
  draws = ap (λ (r : PassParts). r.draws) is;
}

-- what holds anyway holds of a refusal
pub on_err : {T E : Type 0} (r : Result T E) (P : Type 0) → P → OnErr r P
on_err (Ok x) P holds = tt
on_err (Err e) P holds = holds

-- a pass that was shown all commits, of which it had seen no more
pub looked_at : (p q : PassParts) (journal : List Commit) (place : ℕ) → q ≡ record p { journal = journal; place = length journal }
    → IsPrefix p.journal q.journal → p.place ≤ length journal → place ≡ q.place → HasLooked p q place
looked_at p q journal place is grown low told =
    let here : q.place ≡ length journal = ap (λ (r : PassParts). r.place) is in
    let whole : length q.journal ≡ length journal = ap (λ (r : PassParts). length r.journal) is in
    record {
      read = record {
        journal = grown;
        lists = subst (AreLonger p.lists) (sym (ap (λ (r : PassParts). r.lists) is)) (longer_itself p.lists);
        place = omega (arith, here, low);
        next = omega (arith, ap (λ (r : PassParts). r.next) is);
        commits = ap (λ (r : PassParts). r.commits) is;
        draws = ap (λ (r : PassParts). r.draws) is;
      };
      whole = told ∙ here ∙ sym whole;
      stands = sym told;
    }
