use Rattle.std.proofs.Common.{sym, subst}
use Rattle.ds_shard.specs.Histories.{BeginsBy}
use Rattle.std.specs.List.{AllByRecursion as Each}
use Rattle.ds_shard.proofs.Undoing.{begun-undone, undone_next, undone_end}
use Rattle.ds_shard.proofs.contents.undo_writes.Goals as goal

pub loop-write-preserved : goal.loop-write-preserved
loop-write-preserved c =
    let stamp = c.args.stamp in
    let ws = c.args.writes.now in
    let k = c.key.result.now in
    record {
      begun = subst (Each (BeginsBy stamp)) (sym c.undo.ensures) (begun-undone stamp k c.loop-write.entities c.loop-write.invariant.begun);
      undone = undone_next stamp ws c.loop-write.write-index c.write-item.result c.loop-write-test.true c.write-item.is k c.key.ensures
          c.loop-write.entities c.undo.new.self c.undo.ensures _ c.loop-write.invariant.undone;
    }

pub returns : goal.returns
returns c = undone_end c.args.stamp c.args.writes.now c.loop-write.write-index c.loop-write-test.false c.loop-write.entities _ c.loop-write.invariant.undone
