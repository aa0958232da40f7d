use Rattle.std.proofs.Common.{length, arith}
use Rattle.std.proofs.lemmas.List.{drop_all}
use Rattle.ds_table.proofs.places.gallop.Goals as goal

pub last_begun-requires-2 : goal.last_begun-requires-2
last_begun-requires-2 c =
    let i = c.loop-low.invariant in
    record {
      ordered = c.requires.ordered;
      filled = c.requires.filled;
      some = i.within;
      within = omega arith;
      before = i.before;
      begun = i.begun;
      after = rw (drop_all (length c.args.blocks.now) c.args.blocks.now (omega arith)) tt;
    }
