use Rattle.std.proofs.Common.{◌≡◌, take, subst, arith}
use Rattle.std.specs.Prelude.{All}
use Rattle.std.proofs.lemmas.List.{take_all}
use Rattle.std.proofs.lemmas.List.Elements.{All-more}
use Rattle.ds_log.specs.declared.Commit.{Commit}
use Rattle.ds_journal_text.specs.Lawful.{IsLawfulWrite}
use Rattle.ds_judging_lines.proofs.lawful.commits_are_lawful.Goals as goal

pub loop-commit-preserved : goal.loop-commit-preserved
loop-commit-preserved c =
    All-more (λ (d : Commit). All IsLawfulWrite d.writes) c.args.commits.now c.loop-commit.commit-index c.commit-item.result
    c.loop-commit-test.true c.loop-commit.invariant
    (subst (λ (d : Commit). All IsLawfulWrite d.writes) c.commit-item.is (subst
    (All IsLawfulWrite) c.as_slice.ensures c.writes_are_lawful.ensures))

pub returns : goal.returns
returns c =
    let all : take c.loop-commit.commit-index c.args.commits.now ≡ c.args.commits.now =
    take_all c.loop-commit.commit-index c.args.commits.now (omega arith) in
    subst (All (λ (d : Commit). All IsLawfulWrite d.writes)) all c.loop-commit.invariant
