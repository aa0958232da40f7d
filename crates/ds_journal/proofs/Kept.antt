-- What a book keeps when the counter rises and when a commit is appended.
use Rattle.std.proofs.Common.{◌≡◌, ℕ, ◌+◌, ◌<◌, ◌≤◌, List, [], ◌∷◌, ◌++◌, length, cond, Some, None, sym, ap, subst, ◌∙◌}
use Rattle.std.proofs.Common.{length-append, arith}
use Rattle.std.specs.List.{All, list_any}
use Rattle.ds_base.specs.Keys.{KeyParts}
use Rattle.ds_base.specs.KeyOrder.{same_key}
use Rattle.ds_base.specs.Limits.{greatest_id, most_writes, most_commits}
use Rattle.ds_log.specs.declared.Commit.{Commit}
use Rattle.ds_log.specs.declared.Touch.{Touch}
use Rattle.ds_log.specs.Logs.{groups_of}
use Rattle.ds_log.specs.Conflicts.{conflict_from, conflict_of}
use Rattle.ds_log.specs.ConflictLaws.{last_writer-push}
use Rattle.ds_log.specs.GroupLaws.{any-groups_of}
use Rattle.ds_log.specs.JournalLaws.{IsSerial-push, AllIssued-push, AllIssued-rises}
use Rattle.ds_log.specs.Heads.{HeadsParts, AreHeadsOf, last_noted}
use Rattle.ds_log.specs.Ids.{AreIssued}
use Rattle.ds_journal.specs.Books.{IsBook}

pub raised : (journal : List Commit) (next later : ℕ) → IsBook journal next → next ≤ later → later ≤ greatest_id → IsBook journal later
raised journal next later book rise bound = record {
  serial = book.serial;
  issued = AllIssued-rises next later journal rise book.issued;
  drawn = (let low = book.drawn in omega arith);
  left = bound;
  bounded = book.bounded;
}

pub appended : (journal : List Commit) (next : ℕ) (c : Commit) → IsBook journal next → All (λ t. t.place ≤ length journal) c.touched
    → AreIssued next c.writes
    → length c.writes ≤ most_writes → conflict_of journal c.touched ≡ None → length journal < most_commits → IsBook (journal ++ c ∷ []) next
appended journal next c book touched issued few serial below = record {
  serial = IsSerial-push journal c book.serial (record { few = few; touched_before = touched; serial = serial });
  issued = AllIssued-push next journal c book.issued issued;
  drawn = book.drawn;
  left = book.left;
  bounded = omega (arith, length-append journal (c ∷ []));
}

pub heads_appended : (journal : List Commit) (c : Commit) (old new : HeadsParts) → AreHeadsOf journal old
    → ((g : KeyParts) → last_noted new g ≡ cond (list_any (λ k. same_key k g) (groups_of c.writes)) (Some (length journal + 1))
    (last_noted old g))
    → new.commits ≡ length journal + 1 → AreHeadsOf (journal ++ c ∷ []) new
heads_appended journal c old new heads noted commits = record {
  lasts = λ g. noted g ∙ (λ i. cond (any-groups_of g c.writes i) (Some (length journal + 1)) (heads.lasts g i))
      ∙ sym (last_writer-push journal g c);
  commits = omega (arith, commits, length-append journal (c ∷ []));
}

-- the heads of a journal tell its conflicts
pub same_conflict : (journal : List Commit) (h : HeadsParts) → AreHeadsOf journal h → (ts : List Touch)
    → conflict_from (last_noted h) h.commits 0 ts ≡ conflict_of journal ts
same_conflict journal h heads ts i = conflict_from (λ g. heads.lasts g i) (heads.commits i) 0 ts

-- the fields of a book after an append, from those before, what was asked of the draft and what the calls in between tell
pub book_appended : (J old new : List Commit) (next counter : ℕ) (d : Commit) (h noted ended : HeadsParts) (groups : List KeyParts)
    (number : ℕ)
    → IsBook J next × AreHeadsOf J h → J ≡ old → next ≡ counter
    → All (λ t. t.place ≤ length old) d.touched → AreIssued counter d.writes → conflict_of old d.touched ≡ None
    → length d.writes ≤ most_writes → length J < most_commits
    → new ≡ J ++ d ∷ [] → groups ≡ groups_of d.writes → number ≡ h.commits
    → ((g : KeyParts) → last_noted noted g ≡ cond (list_any (λ k. same_key k g) groups) (Some (number + 1)) (last_noted h g))
    → noted.commits ≡ h.commits → ended ≡ record noted { commits = noted.commits + 1 } → IsBook new next × AreHeadsOf new ended
book_appended J old new next counter d h noted ended groups number
    (book, heads) same same_next touched issued serial few below is groups_are number_is lasts commits ended_is =
    let before = subst (λ js. All (λ t. t.place ≤ length js) d.touched) (sym same) touched in
    let free = subst (λ js. conflict_of js d.touched ≡ None) (sym same) serial in
    let drawn = subst (λ n. AreIssued n d.writes) (sym same_next) issued in
    let numbered : number + 1 ≡ length J + 1 = ap (λ n. n + 1) (number_is ∙ heads.commits) in
    let counted : noted.commits + 1 ≡ length J + 1 = ap (λ n. n + 1) (commits ∙ heads.commits) in
    let told : (g : KeyParts) → last_noted noted g ≡ cond (list_any (λ k. same_key k g) (groups_of d.writes)) (Some (length J + 1))
    (last_noted h g) =
    λ g. lasts g ∙ (λ i. cond (list_any (λ k. same_key k g) (groups_are i)) (Some (numbered i)) (last_noted h g)) in (
      subst (λ js. IsBook js next) (sym is) (appended J next d book before drawn few free below),
      subst (λ js. AreHeadsOf js ended) (sym is)
          (subst (AreHeadsOf (J ++ d ∷ [])) (sym ended_is)
          (heads_appended J d h (record noted { commits = noted.commits + 1 }) heads told counted)),
    )
