use Rattle.std.proofs.Common.{take}
use Rattle.std.specs.Prelude.{All}
use Rattle.ds_log.specs.declared.Commit.{Commit}
use Rattle.ds_journal_text.specs.Lawful.{IsLawfulWrite}
use Rattle.ds_judging_lines.proofs.lawful.commits_are_lawful.Given as goal

abbrev pub invariant-loop-commit : goal.invariant-loop-commit
invariant-loop-commit l = All (λ (d : Commit). All IsLawfulWrite d.writes) (take l.commit-index l.commits)
