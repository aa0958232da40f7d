use Rattle.std.proofs.Common.{arith}
use Rattle.ds_kept_file.specs.Readings.{kept_in}
use Rattle.ds_kept_file.proofs.Walks.{walk_on, walk_refused, walk_broken, walk_ends, none_left, some_left}
use Rattle.ds_kept_file.proofs.body.read_lines.Goals as goal

pub returns-in-None-clause-refused : goal.returns-in-None-clause-refused
returns-in-None-clause-refused c = λ same commits next.
    walk_broken (kept_in c.args.book.now) c.args.lines.now (kept_in c.lines.book) c.lines.rest.now c.lines.invariant.walk c.in-None.ensures.none
    (some_left c.lines.rest.now c.is_empty.result c.is_empty.ensures c.lines-test.true) commits next

pub returns-then-not-branch-clause-refused : goal.returns-then-not-branch-clause-refused
returns-then-not-branch-clause-refused c = λ same commits next.
    walk_refused (kept_in c.args.book.now) c.args.lines.now (kept_in c.lines.book) c.lines.rest.now c.in-Some.line.now c.in-Some.behind.now
    c.lines.invariant.walk c.in-Some.ensures.whole c.in-Some.ensures.split (c.in_ok-read_line-in-Some.ensures.refused c.if-not-branch.true) commits next

pub lines-preserved : goal.lines-preserved
lines-preserved c =
    let (commit, is, pushed) = c.in_ok-read_line-in-Some.ensures.read c.if-not-branch.false in
    record {
      walk = walk_on (kept_in c.args.book.now) c.args.lines.now (kept_in c.lines.book) c.lines.rest.now c.in-Some.line.now c.in-Some.behind.now commit
          (kept_in c.read_line.new.book) c.lines.invariant.walk c.in-Some.ensures.whole c.in-Some.ensures.split
          (omega (arith, c.in_ok-read_line-in-Some.ensures.few)) is pushed c.in_ok-read_line-in-Some.ensures.next;
    }

pub returns-clause-read : goal.returns-clause-read
returns-clause-read c = λ whole.
    walk_ends (kept_in c.args.book.now) c.args.lines.now (kept_in c.lines.book) c.lines.rest.now c.lines.invariant.walk
    (none_left c.lines.rest.now c.is_empty.result c.is_empty.ensures c.lines-test.false) c.book_is_lawful.ensures.serial c.book_is_lawful.ensures.issued
