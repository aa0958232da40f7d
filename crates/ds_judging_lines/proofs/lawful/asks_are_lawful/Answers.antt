use Rattle.std.proofs.Common.{◌≡◌, take, subst, arith}
use Rattle.std.specs.Prelude.{All}
use Rattle.std.proofs.lemmas.List.{take_all}
use Rattle.std.proofs.lemmas.List.Elements.{All-more}
use Rattle.ds_bytes.specs.Lawful.{IsLawfulValue}
use Rattle.ds_query.specs.declared.branch.Pair.{Pair}
use Rattle.ds_judging_lines.specs.Deciding.{AsksLawful}
use Rattle.ds_judging_lines.proofs.lawful.asks_are_lawful.Goals as goal

pub loop-branch-preserved : goal.loop-branch-preserved
loop-branch-preserved c =
    All-more AsksLawful c.args.branches.now c.loop-branch.branch-index c.branch-item.result c.loop-branch-test.true c.loop-branch.invariant
    (subst AsksLawful c.branch-item.is (subst (All (λ (p : Pair). IsLawfulValue p.value)) c.as_slice.ensures c.pairs_are_lawful.ensures))

pub returns : goal.returns
returns c =
    let all : take c.loop-branch.branch-index c.args.branches.now ≡ c.args.branches.now =
    take_all c.loop-branch.branch-index c.args.branches.now (omega arith) in
    subst (All AsksLawful) all c.loop-branch.invariant
