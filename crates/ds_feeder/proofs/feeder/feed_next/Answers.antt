use Rattle.std.proofs.Common.{arith, length}
use Rattle.ds_feeder.proofs.FedLaws.{none_left}
use Rattle.ds_feeder.proofs.feeder.feed_next.Goals as goal

pub returns-clause-fed : goal.returns-clause-fed
returns-clause-fed g c =
    record { read = c.feed.ensures.read; fed = c.feed.ensures.fed; stands = c.feed.ensures.stands; next = c.feed.ensures.next }

pub returns-in_err-fed-clause-fed : goal.returns-in_err-fed-clause-fed
returns-in_err-fed-clause-fed g c =
    record { read = c.feed.ensures.read; fed = c.feed.ensures.fed; stands = c.feed.ensures.stands; next = c.feed.ensures.next }

pub returns-clause-none : goal.returns-clause-none
returns-clause-none g c none =
    none_left c.feed.new.self.journal c.feed.new.pass.journal (length c.args.reindex.now.journal) 1024 c.in_ok-fed.fed.moved
    c.in_ok-fed.ensures.all c.in_ok-fed.ensures.moved.0 (omega arith) none
