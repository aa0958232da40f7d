-- The body of a batch: its counter's line, and the lines of its commits.
use Rattle.std.proofs.Common.{◌≡◌, ℕ, ◌<◌, ◌≤◌, ◌^◌, List, ◌∷◌, ◌++◌, sym, ap₂, ◌∙◌, subst, arith}
use Rattle.ds_base.specs.Limits.{greatest_id}
use Rattle.ds_log.specs.declared.Commit.{Commit}
use Rattle.ds_rounds.specs.Drafts.{IsUnbroken}
use Rattle.ds_journal_text.specs.Texts.{commits_text}
use Rattle.ds_kept_file.specs.Files.{Kept, Batch, next_number, next_line, body_of, MayFollow, Continues}
use Rattle.ds_kept_file.specs.Readings.{AreNext, AreLinesRead, IsBodyRead, HasNoBody}
use Rattle.ds_kept_file.proofs.Splits.{split_alone, no_newline}
use Rattle.ds_kept_file.proofs.Counters.{next_whole, next_alone}

-- what is kept while the commits of a batch with this counter are read
abbrev pub with_next : Kept → ℕ → Kept
with_next kept next = record { journal = kept.journal; next = next }

-- the counter's line and the commits' lines of a body are those of each batch whose body it is
lines_of : (kept : Kept) (body line lines : List ℕ) (batch : Batch) → IsUnbroken line → body ≡ line ++ 10 ∷ lines → body ≡ body_of (next_number kept) batch
    → (line ≡ next_line batch.next) × (lines ≡ commits_text (next_number kept) batch.commits)
lines_of kept body line lines batch unbroken split is =
    split_alone line lines (next_line batch.next) (commits_text (next_number kept) batch.commits) unbroken (next_whole batch.next) (sym split ∙ is)

small_next : (kept : Kept) (batch : Batch) → Continues kept batch → batch.next < 2 ^ 64
small_next kept batch continues = omega (arith, continues.bounded)

pub body_read : (kept : Kept) (body line lines : List ℕ) (next : ℕ) (now : Kept) → IsUnbroken line → body ≡ line ++ 10 ∷ lines → line ≡ next_line next
    → kept.next ≤ next → next ≤ greatest_id → AreLinesRead (with_next kept next) lines now → IsBodyRead kept body now
body_read kept body line lines next now unbroken split is rises bounded read = record {
  batch = record { commits = read.commits; next = next };
  is = split ∙ ap₂ (λ (l m : List ℕ). l ++ 10 ∷ m) is read.next.0;
  continues = record { follow = read.next.1; rises = rises; bounded = bounded };
  after = ap₂ pair read.journal read.counter;
  alone = λ other other_is continues.
      let parts = lines_of kept body line lines other unbroken split other_is in
      let same : next ≡ other.next = next_alone next other.next (omega (arith, bounded)) (small_next kept other continues) (sym is ∙ parts.0) in
      let follow = subst (λ m. MayFollow kept.journal m other.commits) (sym same) continues.follow in
      ap₂ pair (read.alone other.commits (parts.1, follow)) (read.counter ∙ same);
}
  where
    pair : List Commit → ℕ → Kept
    pair js m = record { journal = js; next = m }

pub body_broken : (kept : Kept) (body : List ℕ) → IsUnbroken body → HasNoBody kept body
body_broken kept body unbroken batch is continues =
    no_newline body (next_line batch.next) (commits_text (next_number kept) batch.commits) unbroken is

pub body_without_next : (kept : Kept) (body line lines : List ℕ) → IsUnbroken line → body ≡ line ++ 10 ∷ lines
    → ((n : ℕ) → n < 2 ^ 64 → line ≡ next_line n → ⊥) → HasNoBody kept body
body_without_next kept body line lines unbroken split none batch is continues =
    none batch.next (small_next kept batch continues) (lines_of kept body line lines batch unbroken split is).0

next_is : (kept : Kept) (body line lines : List ℕ) (next : ℕ) (batch : Batch) → IsUnbroken line → body ≡ line ++ 10 ∷ lines → line ≡ next_line next → next < 2 ^ 64
    → body ≡ body_of (next_number kept) batch → Continues kept batch → next ≡ batch.next
next_is kept body line lines next batch unbroken split line_is small is continues =
    next_alone next batch.next small (small_next kept batch continues) (sym line_is ∙ (lines_of kept body line lines batch unbroken split is).0)

pub body_falls : (kept : Kept) (body line lines : List ℕ) (next : ℕ) → IsUnbroken line → body ≡ line ++ 10 ∷ lines → line ≡ next_line next → next < 2 ^ 64
    → next < kept.next → HasNoBody kept body
body_falls kept body line lines next unbroken split line_is small falls batch is continues =
    omega (arith, falls, continues.rises, next_is kept body line lines next batch unbroken split line_is small is continues)

pub body_exceeds : (kept : Kept) (body line lines : List ℕ) (next : ℕ) → IsUnbroken line → body ≡ line ++ 10 ∷ lines → line ≡ next_line next → next < 2 ^ 64
    → greatest_id < next → HasNoBody kept body
body_exceeds kept body line lines next unbroken split line_is small exceeds batch is continues =
    omega (arith, exceeds, continues.bounded, next_is kept body line lines next batch unbroken split line_is small is continues)

pub body_refused : (kept : Kept) (body line lines : List ℕ) (next : ℕ) → IsUnbroken line → body ≡ line ++ 10 ∷ lines → line ≡ next_line next → next < 2 ^ 64
    → ((commits : List Commit) → AreNext (with_next kept next) lines commits → ⊥) → HasNoBody kept body
body_refused kept body line lines next unbroken split line_is small none batch is continues =
    let same = next_is kept body line lines next batch unbroken split line_is small is continues in
    none batch.commits ((lines_of kept body line lines batch unbroken split is).1, subst (λ m. MayFollow kept.journal m batch.commits) (sym same) continues.follow)
