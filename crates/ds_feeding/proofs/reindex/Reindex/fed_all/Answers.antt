use Rattle.ds_base.specs.Limits.{most_commits}
use Rattle.ds_feeding.proofs.FeedLaws.{all_fed, too_many_left}
use Rattle.ds_feeding.proofs.reindex.Reindex.fed_all.Goals as goal

pub returns-in-Ok-clause-all : goal.returns-in-Ok-clause-all
returns-in-Ok-clause-all g c =
    let given = c.in-Ok.ensures in
    all_fed g.K.Names.definitions c.args.self c.feed_some.new.self c.feed_some.new.pass c.in-Ok.fed.1 most_commits c.feed_some.ensures.fed
    given.all given.drawn given.moved.1 given.moved.2 given.moved.3

pub returns-in-Err-clause-refused : goal.returns-in-Err-clause-refused
returns-in-Err-clause-refused g c =
    too_many_left g.K.Names.definitions c.feed_some.new.pass.journal c.args.self c.feed_some.new.self c.in-Err.refused
    c.feed_some.ensures.fed c.in-Err.ensures.refused
