use Rattle.std.proofs.Common.{◌≤◌, subst}
use Rattle.ds_bytes.specs.Rows.{columns_bytes}
use Rattle.ds_rows.specs.Ways.{way_at, lists_of, directions_of}
use Rattle.ds_rows.proofs.WayLaws.{one_more_row, all_rows, lawful_way, all_lawful, row_put}
use Rattle.ds_rows.proofs.ways.put_rows.Goals as goal

pub loop-way-preserved : goal.loop-way-preserved
loop-way-preserved c =
    let columns = c.args.columns.now in
    let n = c.loop-way.way in
    record {
      so_far = one_more_row c.args.rows.now.rows c.args.front.now columns c.args.key.now n c.in-Some.ways c.loop-way.rows c.end_row.new.self
          c.loop-way-test.true c.in-Some.ensures c.loop-way.invariant.so_far
          (row_put c.loop-way.rows c.append.new.self c.put_way.new.rows c.append-in-loop-way.new.self c.end_row.new.self c.args.front.now
          (columns_bytes (directions_of columns) (way_at
          (lists_of columns) n)) c.args.key.now c.in_ok-append.ensures c.in_ok-put_way.ensures.put
          c.in_ok-append-2.ensures c.in_ok-end_row.ensures);
      lawful = lawful_way columns n c.in-Some.ways c.loop-way-test.true c.in-Some.ensures c.loop-way.invariant.lawful
          c.in_ok-put_way.ensures.lawful;
    }

pub returns-clause-put : goal.returns-clause-put
returns-clause-put c =
    all_rows c.args.rows.now.rows c.args.front.now c.args.columns.now c.args.key.now c.loop-way.way c.loop-way.rows
    (subst (λ n. n ≤ c.loop-way.way) c.in-Some.ensures c.loop-way-test.false) c.loop-way.invariant.so_far

pub returns-clause-lawful : goal.returns-clause-lawful
returns-clause-lawful c =
    all_lawful c.args.columns.now c.loop-way.way (subst
    (λ n. n ≤ c.loop-way.way) c.in-Some.ensures c.loop-way-test.false) c.loop-way.invariant.lawful
