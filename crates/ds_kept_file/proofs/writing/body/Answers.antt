use Rattle.std.proofs.Common.{take, sym, subst, arith}
use Rattle.std.proofs.lemmas.List.{take_all}
use Rattle.std.proofs.lemmas.List.Elements.{All-more, All-same}
use Rattle.ds_journal_text.specs.Lawful.{IsLawfulCommit}
use Rattle.ds_kept_file.proofs.Walks.{text_put}
use Rattle.ds_kept_file.proofs.writing.body.Goals as goal

pub loop-i-preserved : goal.loop-i-preserved
loop-i-preserved c = record {
  written = text_put c.args.first c.args.commits.now c.loop-i.i c.index-commits-i.result c.loop-i.body.bytes c.write_commit.new.onto.bytes _
      (omega (arith, c.loop-i-test.true)) c.index-commits-i.is c.in_ok-write_commit.ensures.ok c.loop-i.invariant.written;
  lawful = All-more IsLawfulCommit c.args.commits.now c.loop-i.i c.index-commits-i.result (omega (arith, c.loop-i-test.true)) c.loop-i.invariant.lawful
      (subst IsLawfulCommit c.index-commits-i.is c.in_ok-write_commit.ensures.lawful);
}

pub returns-clause-lawful : goal.returns-clause-lawful
returns-clause-lawful c =
    All-same IsLawfulCommit c.args.commits.now (take c.loop-i.i c.args.commits.now)
    (sym (take_all c.loop-i.i c.args.commits.now (omega (arith, c.loop-i-test.false)))) c.loop-i.invariant.lawful
