use Rattle.ds_feeding.specs.Feeding.{HasFed}
use Rattle.ds_feeder.proofs.feeder.feed_all.Given as goal

abbrev pub invariant-loop : goal.invariant-loop
invariant-loop g l = HasFed g.K.Names.definitions l.fn.pass l.pass l.fn.reindex l.reindex
