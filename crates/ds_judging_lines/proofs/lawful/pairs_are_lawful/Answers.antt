use Rattle.std.proofs.Common.{◌≡◌, take, subst, arith}
use Rattle.std.specs.Prelude.{All}
use Rattle.std.proofs.lemmas.List.{take_all}
use Rattle.std.proofs.lemmas.List.Elements.{All-more}
use Rattle.ds_bytes.specs.Lawful.{IsLawfulValue}
use Rattle.ds_query.specs.declared.branch.Pair.{Pair}
use Rattle.ds_judging_lines.proofs.lawful.pairs_are_lawful.Goals as goal

pub loop-pair-preserved : goal.loop-pair-preserved
loop-pair-preserved c =
    All-more (λ (p : Pair). IsLawfulValue p.value) c.args.pairs.now c.loop-pair.pair-index c.pair-item.result c.loop-pair-test.true
    c.loop-pair.invariant
    (subst (λ (p : Pair). IsLawfulValue p.value) c.pair-item.is c.value_is_lawful.ensures)

pub returns : goal.returns
returns c =
    let all : take c.loop-pair.pair-index c.args.pairs.now ≡ c.args.pairs.now =
    take_all c.loop-pair.pair-index c.args.pairs.now (omega arith) in
    subst (All (λ (p : Pair). IsLawfulValue p.value)) all c.loop-pair.invariant
