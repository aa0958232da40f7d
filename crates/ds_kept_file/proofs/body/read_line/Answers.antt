use Rattle.std.proofs.Common.{◌≡◌, ℕ, ◌+◌, ◌<◌, ◌^◌, List, length, Bool, false, subst, arith}
use Rattle.std.specs.Prelude.{Result, Ok, Err, IfOk, Option}
use Rattle.ds_log.specs.declared.Commit.{Commit}
use Rattle.ds_journal_text.specs.Lines.{LineIs}
use Rattle.ds_journal_text.specs.Texts.{IsLineOf}
use Rattle.ds_journal_text.proofs.CommitsBack.{line_alone}
use Rattle.ds_kept_file.specs.Files.{Kept, next_number}
use Rattle.ds_kept_file.specs.Readings.{kept_in, MayCommit}
use Rattle.ds_kept_file.proofs.body.read_line.Goals as goal

-- a line is of one commit alone, and that one was refused
no_other : {E : Type 0} (kept : Kept) (line : List ℕ) (commit : Commit) (result : Result Bool E) → next_number kept < 2 ^ 64
    → IsLineOf (next_number kept) commit line → IfOk result (λ whole. whole ≡ false → MayCommit kept commit → ⊥)
    → IfOk result (λ whole. whole ≡ false → (c : Commit) → IsLineOf (next_number kept) c line → MayCommit kept c → ⊥)
no_other kept line commit (Ok whole) small is refused = λ shut c other may.
    refused shut (subst (MayCommit kept) (line_alone (next_number kept) c commit line small other is) may)
no_other kept line commit (Err e) small is refused = refused

pub returns-in-Some-clause-refused : goal.returns-in-Some-clause-refused
returns-in-Some-clause-refused c =
    let kept : Kept = kept_in c.args.book.now in
    let line = c.args.line.now in
    let read : LineIs (next_number kept) line c.in_ok-commit.field-0 =
    subst (λ (js : List Commit). LineIs (length js + 1) line c.in_ok-commit.field-0) c.journal.ensures.value c.in_ok-commit.ensures in
    no_other kept line c.in-Some.commit c.append_commit.result (omega (arith, c.journal.ensures.lawful.bounded))
    (subst (λ (found : Option Commit). LineIs (next_number kept) line found) c.in-Some.is read) c.append_commit.ensures.refused
