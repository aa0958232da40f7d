use Rattle.std.proofs.Common.{take}
use Rattle.std.specs.Prelude.{All}
use Rattle.ds_judging_lines.specs.Deciding.{AsksLawful}
use Rattle.ds_judging_lines.proofs.lawful.asks_are_lawful.Given as goal

abbrev pub invariant-loop-branch : goal.invariant-loop-branch
invariant-loop-branch l = All AsksLawful (take l.branch-index l.branches)
