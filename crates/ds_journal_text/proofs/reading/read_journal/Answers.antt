use Rattle.std.proofs.Common.{◌<◌, List, length, true, sym, ap, subst, arith}
use Rattle.std.proofs.lemmas.Result.{err_from_is_err_and}
use Rattle.ds_log.specs.declared.Commit.{Commit}
use Rattle.ds_rounds.specs.Lines.{lines_in}
use Rattle.ds_journal_text.specs.Texts.{IsJournalOf}
use Rattle.ds_journal_text.specs.declared.reading.JournalRefused.TheVariants.{Line}
use Rattle.ds_journal_text.proofs.Appending.{failed, errors_same}
use Rattle.ds_journal_text.proofs.CommitsBack.{first_lines, shorter}
use Rattle.ds_journal_text.proofs.JournalReading.{is_nil, is_some, one_more, wrong_later, wrong_here, read_all, few_writes}
use Rattle.ds_journal_text.proofs.reading.read_journal.Goals as goal

pub lines-preserved : goal.lines-preserved
lines-preserved c =
    let rest = c.lines.rest.now in
    let line = c.first_line.result.0.now in
    let behind = c.first_line.result.1.now in
    let some : 0 < length rest = is_some rest c.is_empty.result c.is_empty.ensures c.lines-test.true in
    let split = first_lines rest line behind some c.first_line.ensures in
    let is = c.in_ok-commit.ensures.read in
    record {
      read = one_more c.lines.number rest line behind c.args.text.now c.in_ok-commit.commit c.lines.commits.items c.push.new.self.items split is
          c.in_default.ensures.items c.lines.invariant.read;
      wrong = wrong_later c.lines.number rest line behind c.args.text.now c.in_ok-commit.commit split is c.lines.invariant.wrong;
      counted = omega (arith, c.lines.invariant.counted, shorter rest line behind some c.first_line.ensures);
    }

pub returns-in_err-commit-clause-line : goal.returns-in_err-commit-clause-line
returns-in_err-commit-clause-line c =
    let rest = c.lines.rest.now in
    let line = c.first_line.result.0.now in
    let behind = c.first_line.result.1.now in
    let some : 0 < length rest = is_some rest c.is_empty.result c.is_empty.ensures c.lines-test.true in
    let split = first_lines rest line behind some c.first_line.ensures in
    let p = err_from_is_err_and c.from_residual.result c.from_residual.ensures.1 in
    rw (p.1, p.2)
    (λ wrong e.
    let same = ap (failed Commit) (errors_same (List Commit) c.in_err-commit.field-0.0 (Line wrong) e) in
    wrong_here c.lines.number rest line behind c.args.text.now wrong split (c.in_err-commit.ensures.wrong wrong same)
    (c.in_err-commit.ensures.none wrong same) c.lines.invariant.wrong)

pub returns-clause-read : goal.returns-clause-read
returns-clause-read c =
    let none = is_nil c.lines.rest.now c.is_empty.result c.is_empty.ensures c.lines-test.false in
    subst (λ (cs : List Commit). IsJournalOf c.args.text.now cs) (sym c.from.ensures)
    (read_all c.lines.number c.lines.rest.now c.args.text.now c.lines.commits.items none c.lines.invariant.read)

pub returns-clause-few : goal.returns-clause-few
returns-clause-few c = few_writes 1 (lines_in true c.args.text.now) c.from.result (returns-clause-read c)
