use Rattle.std.proofs.Common.{take}
use Rattle.std.specs.Prelude.{All}
use Rattle.ds_bytes.specs.Lawful.{IsLawfulValue}
use Rattle.ds_query.specs.declared.branch.Pair.{Pair}
use Rattle.ds_judging_lines.proofs.lawful.pairs_are_lawful.Given as goal

abbrev pub invariant-loop-pair : goal.invariant-loop-pair
invariant-loop-pair l = All (λ (p : Pair). IsLawfulValue p.value) (take l.pair-index l.pairs)
