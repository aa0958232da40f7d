use Rattle.std.proofs.Common.{◌≡◌, ◌∙◌, ap, arith}
use Rattle.std.specs.Prelude.{IsTrue}
use Rattle.ds_table.specs.Versions.{has_alive, closed}
use Rattle.ds_table.specs.Blocks.{versions}
use Rattle.ds_shard.proofs.RowSteps.{here, none_there, once_next, alive_next, closed_next}
use Rattle.ds_shard.proofs.rows.close_rows.Goals.{in-Some, in-None}
use Rattle.ds_shard.proofs.rows.close_rows.Goals as goal

pub close-requires-clause-alive : goal.close-requires-clause-alive
close-requires-clause-alive c =
    here c.args.rows.now c.loop-i.i c.in-Some.row.now c.in-Some.ensures (λ row. IsTrue (has_alive row (versions c.loop-i.table))) c.loop-i.invariant.alive

pub loop-i-preserved : goal.loop-i-preserved
loop-i-preserved c =
    let old = c.loop-i.invariant in
    let rows = c.args.rows.now in
    let stamp = c.args.stamp in
    let before = versions c.loop-i.table in
    let after = versions c.match-get.table in
    elim c.match-get.branch [
      | in-Some w ↦
          let then : after ≡ closed w.in-Some.row.now stamp before = ap versions w.table-is ∙ w.close.ensures.closed in
          record {
            closed = closed_next rows c.loop-i.i w.in-Some.row.now w.in-Some.ensures stamp c.requires.a_stamp before after then _ old.closed;
            alive = alive_next rows c.loop-i.i w.in-Some.row.now w.in-Some.ensures stamp c.requires.a_stamp before after then old.once old.alive;
            once = once_next rows c.loop-i.i w.in-Some.row.now w.in-Some.ensures old.once;
            last = (let a = ap (λ t. t.last) w.table-is in let b = w.close.ensures.last in omega (arith, a, b));
            same_floor = ap (λ t. t.floor) w.table-is ∙ w.close.ensures.same_floor ∙ old.same_floor;
            same_least = ap (λ t. t.least) w.table-is ∙ w.close.ensures.same_least ∙ old.same_least;
            same_least_undone = ap (λ t. t.least_undone) w.table-is ∙ w.close.ensures.same_least_undone ∙ old.same_least_undone;
          }
      | in-None w ↦ absurd (none_there rows c.loop-i.i (let e = c.len-i-end.ensures in let t = c.loop-i-test.true in omega (arith, e, t)) w.in-None.ensures)
    ]
