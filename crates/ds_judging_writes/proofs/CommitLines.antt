-- Commits are compared by their lines; and which commits a journal may have at a number.
use Rattle.std.proofs.Common.{◌≡◌, ℕ, zero, suc, ◌-◌, ◌^◌, ◌<◌, ◌≤◌, List, [], ◌∷◌, length, take, refl, sym, subst, arith}
use Rattle.std.proofs.Common.{Some}
use Rattle.std.specs.Prelude.{All}
use Rattle.std.proofs.lemmas.List.{append_cancel_right, length-take-le}
use Rattle.std.proofs.lemmas.Option.{slice_get_within}
use Rattle.ds_history.specs.Writers.{nth_commit}
use Rattle.ds_log.specs.declared.Commit.{Commit}
use Rattle.ds_log.specs.declared.Touch.{Touch}
use Rattle.ds_log.specs.Conflicts.{IsCommitted}
use Rattle.ds_journal_text.specs.Lawful.{IsLawfulCommit}
use Rattle.ds_journal_text.specs.Texts.{commit_line, commit_text}
use Rattle.ds_journal_text.proofs.CommitsBack.{line_alone}

-- two commits have one line where they are one commit
pub one_line : (n : ℕ) (c d : Commit) → n < 2 ^ 64 → IsLawfulCommit c → IsLawfulCommit d → commit_text n c ≡ commit_text n d → c ≡ d
one_line n c d fits first second same =
    let lines = append_cancel_right (commit_line n c) (commit_line n d) (10 ∷ []) same in
    line_alone n c d (commit_line n d) fits (first, sym lines) (second, refl)

-- a commit of the journal has a number from 1 on
pub number_within : (journal : List Commit) (n : ℕ) (c : Commit) → nth_commit journal n ≡ Some c → (1 ≤ n) × (n - 1 < length journal)
number_within journal zero c is = cc
number_within journal (suc k) c is = let within = slice_get_within journal k c is in (omega arith, omega arith)

-- the touch places of a commit are below its number
pub touched_below : (journal : List Commit) (n : ℕ) (c : Commit) → nth_commit journal n ≡ Some c → IsCommitted (take (n - 1) journal) c
    → All (λ (t : Touch). t.place ≤ n - 1) c.touched
touched_below journal n c is committed =
    let within = number_within journal n c is in
    let low : n - 1 ≤ length journal = omega arith in
    subst (λ m. All (λ (t : Touch). t.place ≤ m) c.touched) (length-take-le (n - 1) journal low) committed.touched_before

pub below_touched : (journal : List Commit) (n : ℕ) (c : Commit) → nth_commit journal n ≡ Some c
    → All (λ (t : Touch). t.place ≤ n - 1) c.touched → All (λ (t : Touch). t.place ≤ length (take (n - 1) journal)) c.touched
below_touched journal n c is below =
    let within = number_within journal n c is in
    let low : n - 1 ≤ length journal = omega arith in
    subst (λ m. All (λ (t : Touch). t.place ≤ m) c.touched) (sym (length-take-le (n - 1) journal low)) below
