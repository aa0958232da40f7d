use Rattle.std.proofs.Common.{◌≡◌, ◌∙◌, ap, arith}
use Rattle.std.specs.Prelude.{IsFalse}
use Rattle.ds_table.specs.Versions.{has_alive, added, undone}
use Rattle.ds_table.specs.Blocks.{versions}
use Rattle.ds_table.specs.UndoLaws.{undo_added}
use Rattle.ds_shard.proofs.RowSteps.{here, none_there, once_next, not_alive_next, added_next}
use Rattle.ds_shard.proofs.rows.add_rows.Goals.{in-Some+in_ok-add-in-Some, in-None}
use Rattle.ds_shard.proofs.rows.add_rows.Goals as goal

pub add-requires-clause-not_alive : goal.add-requires-clause-not_alive
add-requires-clause-not_alive c =
    here c.args.rows.now c.loop-i.i c.in-Some.row.now c.in-Some.ensures (λ row. IsFalse (has_alive row (versions c.loop-i.table))) c.loop-i.invariant.not_alive

pub loop-i-preserved : goal.loop-i-preserved
loop-i-preserved c =
    let old = c.loop-i.invariant in
    let rows = c.args.rows.now in
    let stamp = c.args.stamp in
    let before = versions c.loop-i.table in
    let after = versions c.match-get.table in
    elim c.match-get.branch [
      | in-Some+in_ok-add-in-Some w ↦
          let row = w.in-Some.row.now in
          let then : after ≡ added row stamp before = ap versions w.table-is ∙ w.in_ok-add-in-Some.ensures.added in
          record {
            added = added_next rows c.loop-i.i row w.in-Some.ensures stamp c.requires.a_stamp before after then _ old.added;
            not_alive = not_alive_next rows c.loop-i.i row w.in-Some.ensures stamp c.requires.a_stamp before after then old.once old.not_alive;
            once = once_next rows c.loop-i.i row w.in-Some.ensures old.once;
            leads_back = ap (undone stamp) then ∙ undo_added row stamp before ∙ old.leads_back;
            last = (let a = ap (λ t. t.last) w.table-is in let b = w.in_ok-add-in-Some.ensures.last in omega (arith, a, b));
            same_floor = ap (λ t. t.floor) w.table-is ∙ w.add.ensures.same_floor ∙ old.same_floor;
            same_least = ap (λ t. t.least) w.table-is ∙ w.add.ensures.same_least ∙ old.same_least;
            same_least_undone = ap (λ t. t.least_undone) w.table-is ∙ w.add.ensures.same_least_undone ∙ old.same_least_undone;
          }
      | in-None w ↦ absurd (none_there rows c.loop-i.i (let e = c.len-i-end.ensures in let t = c.loop-i-test.true in omega (arith, e, t)) w.in-None.ensures)
    ]
