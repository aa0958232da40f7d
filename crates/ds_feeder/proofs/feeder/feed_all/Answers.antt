use Rattle.ds_feeder.proofs.FedLaws.{fed_more, fed_none}
use Rattle.ds_feeder.proofs.feeder.feed_all.Goals as goal

pub loop-init : goal.loop-init
loop-init g c = fed_none g.K.Names.definitions c.args.pass.now c.args.reindex.now c.requires.begins c.requires.place

pub feed_next-requires-clause-begins : goal.feed_next-requires-clause-begins
feed_next-requires-clause-begins g c = c.loop.invariant.fed.begins

pub feed_next-requires-clause-place : goal.feed_next-requires-clause-place
feed_next-requires-clause-place g c = c.loop.invariant.stands

pub loop-preserved-then-moved-eq0 : goal.loop-preserved-then-moved-eq0
loop-preserved-then-moved-eq0 g c =
    fed_more g.K.Names.definitions c.args.pass.now c.loop.pass c.feed_next.new.pass c.args.reindex.now c.loop.reindex
    c.feed_next.new.reindex c.loop.invariant c.feed_next.ensures.fed

pub loop-preserved : goal.loop-preserved
loop-preserved g c =
    fed_more g.K.Names.definitions c.args.pass.now c.loop.pass c.feed_next.new.pass c.args.reindex.now c.loop.reindex
    c.feed_next.new.reindex c.loop.invariant c.feed_next.ensures.fed

pub returns-then-done-clause-fed : goal.returns-then-done-clause-fed
returns-then-done-clause-fed g c =
    fed_more g.K.Names.definitions c.args.pass.now c.loop.pass c.feed_next.new.pass c.args.reindex.now c.loop.reindex
    c.feed_next.new.reindex c.loop.invariant c.feed_next.ensures.fed

pub returns-in_err-moved-clause-fed : goal.returns-in_err-moved-clause-fed
returns-in_err-moved-clause-fed g c =
    fed_more g.K.Names.definitions c.args.pass.now c.loop.pass c.feed_next.new.pass c.args.reindex.now c.loop.reindex
    c.feed_next.new.reindex c.loop.invariant c.feed_next.ensures.fed
