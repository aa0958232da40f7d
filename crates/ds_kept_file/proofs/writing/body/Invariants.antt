-- What is written, and the lines of the commits that are left, are the body.
use Rattle.std.proofs.Common.{◌≡◌, ◌+◌, ◌∷◌, ◌++◌, take, drop}
use Rattle.std.specs.Prelude.{All}
use Rattle.ds_journal_text.specs.Lawful.{IsLawfulCommit}
use Rattle.ds_journal_text.specs.Texts.{commits_text}
use Rattle.ds_kept_file.specs.Files.{next_line}
use Rattle.ds_kept_file.proofs.writing.body.Given as goal

abbrev pub invariant-loop-i : goal.invariant-loop-i
invariant-loop-i l = record {
  written : l.body.bytes ++ commits_text (l.first + l.i) (drop l.i l.commits) ≡ next_line l.next ++ 10 ∷ commits_text l.first l.commits;
  lawful : All IsLawfulCommit (take l.i l.commits);
}
