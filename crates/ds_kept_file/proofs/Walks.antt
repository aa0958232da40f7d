-- The lines of commits, read one after another.
use Rattle.std.proofs.Common.{◌≡◌, ℕ, ◌+◌, ◌<◌, ◌^◌, ◌==◌, Bool, true, false, List, [], ◌∷◌, ◌++◌, length, drop, get_or, refl, sym, ap, ap₂, ◌∙◌, subst, append_assoc, append-nil, length-append, arith}
use Rattle.std.specs.Prelude.{All}
use Rattle.std.proofs.lemmas.Bool.Decides.{nat_tests}
use Rattle.std.proofs.lemmas.List.{drop_more}
use Rattle.std.proofs.lemmas.List.Elements.{All-nil, All-push, All-head}
use Rattle.ds_log.specs.declared.Commit.{Commit}
use Rattle.ds_log.specs.Conflicts.{IsSerial}
use Rattle.ds_log.specs.Ids.{AllIssued}
use Rattle.ds_rounds.specs.Drafts.{IsUnbroken}
use Rattle.ds_journal_text.specs.Lawful.{IsLawfulCommit}
use Rattle.ds_journal_text.specs.Texts.{IsLineOf, commit_data, commit_line, commit_text, commits_text}
use Rattle.ds_journal_text.proofs.PlainTexts.{whole}
use Rattle.ds_journal_text.proofs.CommitsBack.{line_alone}
use Rattle.ds_kept_file.specs.Files.{Kept, next_number}
use Rattle.ds_kept_file.specs.Readings.{AreNext, AreLinesRead, MayCommit}
use Rattle.ds_kept_file.proofs.Splits.{split_alone, no_newline}
use Rattle.ds_kept_file.proofs.Following.{first_may, others_may, followed}

line_whole : (n : ℕ) (c : Commit) → IsUnbroken (commit_line n c)
line_whole n c = whole (commit_data n c)

text-cons : (n : ℕ) (c : Commit) (more : List Commit) → commits_text n (c ∷ more) ≡ commit_line n c ++ 10 ∷ commits_text (n + 1) more
text-cons n c more = append_assoc (commit_line n c) (10 ∷ []) (commits_text (n + 1) more)

pub text-push : (n : ℕ) (cs : List Commit) (c : Commit) → commits_text n (cs ++ c ∷ []) ≡ commits_text n cs ++ commit_text (n + length cs) c
text-push n [] c = append-nil (commit_text n c) ∙ ap (λ m. commit_text m c) (let e : n ≡ n + 0 = omega arith in e)
text-push n (b ∷ cs) c =
    ap (λ (l : List ℕ). commit_text n b ++ l) (text-push (n + 1) cs c)
    ∙ ap (λ m. commit_text n b ++ (commits_text (n + 1) cs ++ commit_text m c)) (let e : n + 1 + length cs ≡ n + length (b ∷ cs) = omega arith in e)
    ∙ sym (append_assoc (commit_text n b) (commits_text (n + 1) cs) (commit_text (n + length (b ∷ cs)) c))

-- what is kept once this commit is
abbrev pub with_commit : Kept → Commit → Kept
with_commit kept c = record { journal = kept.journal ++ c ∷ []; next = kept.next }

pub record HasFirst (kept : Kept) (line behind : List ℕ) (commits : List Commit) : Type 0 where
  pub first : Commit
  pub more : List Commit
  pub same : commits ≡ first ∷ more
  pub is : IsLineOf (next_number kept) first line
  pub may : MayCommit kept first
  pub next : AreNext (with_commit kept first) behind more

pub first_line : (kept : Kept) (text line behind : List ℕ) (commits : List Commit) → IsUnbroken line → text ≡ line ++ 10 ∷ behind → AreNext kept text commits
    → HasFirst kept line behind commits
first_line kept text line behind [] unbroken split (is, may) =
    let none : line ++ 10 ∷ behind ≡ [] = sym split ∙ is in
    let long : length (line ++ 10 ∷ behind) ≡ 0 = ap (λ (l : List ℕ). length l) none in
    absurd (omega (arith, length-append line (10 ∷ behind), long))
first_line kept text line behind (c ∷ more) unbroken split (is, may) =
    let n = next_number kept in
    let parts = split_alone line behind (commit_line n c) (commits_text (n + 1) more) unbroken (line_whole n c) (sym split ∙ is ∙ text-cons n c more) in
    let number : n + 1 ≡ next_number (with_commit kept c) = omega (arith, length-append kept.journal (c ∷ [])) in
    record {
      first = c;
      more = more;
      same = refl;
      is = (All-head IsLawfulCommit c more may.lawful, parts.0);
      may = first_may kept.journal kept.next c more may;
      next = (parts.1 ∙ ap (λ m. commits_text m more) number, others_may kept.journal kept.next c more may);
    }

-- Of a text whose first commits are to follow what was kept, the lines up to a rest were read, and this is kept now.
pub record IsWalk (kept : Kept) (text : List ℕ) (now : Kept) (rest : List ℕ) : Type 0 where
  pub commits : List Commit
  pub split : text ≡ commits_text (next_number kept) commits ++ rest
  pub journal : now.journal ≡ kept.journal ++ commits
  pub counter : now.next ≡ kept.next
  pub lawful : All IsLawfulCommit commits
  pub alone : (others : List Commit) → AreNext kept text others → (more : List Commit) × AreNext now rest more × (now.journal ++ more ≡ kept.journal ++ others)

pub walk_starts : (kept : Kept) (text : List ℕ) → IsWalk kept text kept text
walk_starts kept text = record {
  commits = [];
  split = refl;
  journal = sym (append-nil kept.journal);
  counter = refl;
  lawful = All-nil IsLawfulCommit;
  alone = λ others next. (others, next, refl);
}

pub walk_on : (kept : Kept) (text : List ℕ) (now : Kept) (rest line behind : List ℕ) (c : Commit) (later : Kept) → IsWalk kept text now rest → IsUnbroken line
    → rest ≡ line ++ 10 ∷ behind → next_number now < 2 ^ 64 → IsLineOf (next_number now) c line → later.journal ≡ now.journal ++ c ∷ [] → later.next ≡ now.next
    → IsWalk kept text later behind
walk_on kept text now rest line behind c later walk unbroken split small is pushed counter =
    let n = next_number kept in
    let number : next_number now ≡ n + length walk.commits = omega (arith, ap (λ (js : List Commit). length js) walk.journal, length-append kept.journal walk.commits) in
    let line_is : line ≡ commit_line (n + length walk.commits) c = is.1 ∙ ap (λ m. commit_line m c) number in
    let put : commits_text n (walk.commits ++ c ∷ []) ++ behind ≡ commits_text n walk.commits ++ rest =
    ap (λ (l : List ℕ). l ++ behind) (text-push n walk.commits c)
    ∙ append_assoc (commits_text n walk.commits) (commit_text (n + length walk.commits) c) behind
    ∙ ap (λ (l : List ℕ). commits_text n walk.commits ++ l)
    (append_assoc (commit_line (n + length walk.commits) c) (10 ∷ []) behind ∙ ap (λ (l : List ℕ). l ++ 10 ∷ behind) (sym line_is) ∙ sym split) in
    let later_is : later ≡ with_commit now c = ap₂ (λ (js : List Commit) m. let k : Kept = record { journal = js; next = m } in k) pushed counter in
    record {
      commits = walk.commits ++ c ∷ [];
      split = walk.split ∙ sym put;
      journal = pushed ∙ ap (λ (js : List Commit). js ++ c ∷ []) walk.journal ∙ append_assoc kept.journal walk.commits (c ∷ []);
      counter = counter ∙ walk.counter;
      lawful = All-push IsLawfulCommit walk.commits c walk.lawful is.0;
      alone = λ others next.
          let (more, there, whole_is) = walk.alone others next in
          let has = first_line now rest line behind more unbroken split there in
          let same : has.first ≡ c = line_alone (next_number now) has.first c line small has.is is in
          let next_is : AreNext (with_commit now c) behind has.more = subst (λ (d : Commit). AreNext (with_commit now d) behind has.more) same has.next in
          let joined : later.journal ++ has.more ≡ kept.journal ++ others =
          ap (λ (js : List Commit). js ++ has.more) pushed ∙ append_assoc now.journal (c ∷ []) has.more
          ∙ ap (λ (d : Commit). now.journal ++ d ∷ has.more) (sym same) ∙ ap (λ (cs : List Commit). now.journal ++ cs) (sym has.same) ∙ whole_is in
          (has.more, subst (λ (k : Kept). AreNext k behind has.more) (sym later_is) next_is, joined);
    }

-- a line of no commit that may follow
pub walk_refused : (kept : Kept) (text : List ℕ) (now : Kept) (rest line behind : List ℕ) → IsWalk kept text now rest → IsUnbroken line → rest ≡ line ++ 10 ∷ behind
    → ((c : Commit) → IsLineOf (next_number now) c line → MayCommit now c → ⊥) → (commits : List Commit) → AreNext kept text commits → ⊥
walk_refused kept text now rest line behind walk unbroken split none commits next =
    let (more, there, whole_is) = walk.alone commits next in
    let has = first_line now rest line behind more unbroken split there in
    none has.first has.is has.may

-- a last line without a newline
pub walk_broken : (kept : Kept) (text : List ℕ) (now : Kept) (rest : List ℕ) → IsWalk kept text now rest → IsUnbroken rest → 0 < length rest
    → (commits : List Commit) → AreNext kept text commits → ⊥
walk_broken kept text now rest walk unbroken some commits next = by (walk.alone commits next) where
  by : (more : List Commit) × AreNext now rest more × (now.journal ++ more ≡ kept.journal ++ commits) → ⊥
  by ([], (is, may), whole_is) = let long : length rest ≡ 0 = ap (λ (l : List ℕ). length l) is in omega (arith, long, some)
  by (c ∷ more, (is, may), whole_is) =
      let n = next_number now in no_newline rest (commit_line n c) (commits_text (n + 1) more) unbroken (is ∙ text-cons n c more)

-- no line is left
pub walk_ends : (kept : Kept) (text : List ℕ) (now : Kept) (rest : List ℕ) → IsWalk kept text now rest → rest ≡ [] → IsSerial now.journal → AllIssued now.next now.journal
    → AreLinesRead kept text now
walk_ends kept text now rest walk none serial issued = record {
  commits = walk.commits;
  next = (
    walk.split ∙ ap (λ (l : List ℕ). commits_text (next_number kept) walk.commits ++ l) none ∙ append-nil (commits_text (next_number kept) walk.commits),
    followed kept.journal now.journal kept.next walk.commits walk.journal serial (subst (λ m. AllIssued m now.journal) walk.counter issued) walk.lawful,
  );
  journal = walk.journal;
  counter = walk.counter;
  alone = λ others next. by others (walk.alone others next);
}
  where
    by : (others : List Commit) → (more : List Commit) × AreNext now rest more × (now.journal ++ more ≡ kept.journal ++ others) → now.journal ≡ kept.journal ++ others
    by others ([], there, whole_is) = sym (append-nil now.journal) ∙ whole_is
    by others (c ∷ more, (is, may), whole_is) =
        let n = next_number now in
        let text_none : commit_line n c ++ 10 ∷ commits_text (n + 1) more ≡ [] = sym (text-cons n c more) ∙ sym is ∙ none in
        let long : length (commit_line n c ++ 10 ∷ commits_text (n + 1) more) ≡ 0 = ap (λ (l : List ℕ). length l) text_none in
        absurd (omega (arith, length-append (commit_line n c) (10 ∷ commits_text (n + 1) more), long))

-- ---- an empty rest, and another

pub none_left : (rest : List ℕ) (b : Bool) → b ≡ (length rest == 0) → b ≡ true → rest ≡ []
none_left [] b e t = refl
none_left (x ∷ rest) b e t = absurd (grind (arith, nat_tests))

pub some_left : (rest : List ℕ) (b : Bool) → b ≡ (length rest == 0) → b ≡ false → 0 < length rest
some_left [] b e f = let k : true ≡ false = sym e ∙ f in cc k
some_left (x ∷ rest) b e f = omega arith

-- ---- what is written, commit after commit

pub text_put : (n : ℕ) (js : List Commit) (i : ℕ) (d : Commit) (before now whole : List ℕ) → i < length js → d ≡ get_or js i d → now ≡ before ++ commit_text (n + i) d
    → before ++ commits_text (n + i) (drop i js) ≡ whole → now ++ commits_text (n + (i + 1)) (drop (i + 1) js) ≡ whole
text_put n js i d before now whole below is put written =
    let rest = commits_text (n + i + 1) (drop (i + 1) js) in
    let split : commits_text (n + i) (drop i js) ≡ commit_text (n + i) d ++ rest =
    ap (commits_text (n + i)) (drop_more js i d below) ∙ ap (λ (c : Commit). commit_text (n + i) c ++ rest) (sym is) in
    ap (λ m. now ++ commits_text m (drop (i + 1) js)) (let e : n + (i + 1) ≡ n + i + 1 = omega arith in e)
    ∙ ap (λ (l : List ℕ). l ++ rest) put ∙ append_assoc before (commit_text (n + i) d) rest ∙ ap (λ (l : List ℕ). before ++ l) (sym split) ∙ written
