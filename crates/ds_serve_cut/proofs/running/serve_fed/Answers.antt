use Rattle.ds_cutting.proofs.Going.{feeding_more, idle_later}
use Rattle.ds_serve_cut.proofs.running.serve_fed.Goals as goal

pub feed_beside-outcome-requires-clause-begins : goal.feed_beside-outcome-requires-clause-begins
feed_beside-outcome-requires-clause-begins g c κs within = c.requires.fed.begins

pub feed_beside-outcome-requires-clause-place : goal.feed_beside-outcome-requires-clause-place
feed_beside-outcome-requires-clause-place g c κs within = c.requires.fed.place

pub returns-clause-fed : goal.returns-clause-fed
returns-clause-fed g c =
    let fed = c.args.fed.now in
    let after = c.feed_beside-outcome.new in
    feeding_more g.K.Names.definitions c.args.serving.now.shards fed.reindex.passes fed.reindex after.reindex fed.feeder after.pass
    c.requires.fed c.feed_beside-outcome.ensures.fed

pub returns-clause-feeder : goal.returns-clause-feeder
returns-clause-feeder g c =
    idle_later c.args.fed.now.feeder c.feed_beside-outcome.new.pass c.feed_beside-outcome.ensures.fed.read c.requires.feeder
