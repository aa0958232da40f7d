-- What was written, and the lines of the commits that are left, make the whole text; and the commits so far are lawful.
use Rattle.std.proofs.Common.{◌≡◌, ◌+◌, ◌++◌, take, drop}
use Rattle.std.specs.Prelude.{All}
use Rattle.ds_journal_text.specs.Lawful.{IsLawfulCommit}
use Rattle.ds_journal_text.specs.Texts.{commits_text, journal_text}
use Rattle.ds_journal_text.proofs.writing.write_journal.Given as goal

abbrev pub invariant-loop-i : goal.invariant-loop-i
invariant-loop-i l = record {
  written : l.text.bytes ++ commits_text (l.i + 1) (drop l.i l.journal) ≡ journal_text l.journal;
  lawful : All IsLawfulCommit (take l.i l.journal);
}
