use Rattle.ds_store_passes.proofs.Growing.{begins_through}
use Rattle.ds_feeding.proofs.FeedLaws.{fed_nothing, part_all, part_fed, part_few, part_most, part_serial}
use Rattle.ds_feeding.proofs.FeedLaws.{part_stands}
use Rattle.ds_feeding.proofs.FeedLaws.{part_still, part_too_many}
use Rattle.ds_feeding.proofs.reindex.Reindex.feed_some.Goals as goal

pub returns-in_err-commits-clause-fed : goal.returns-in_err-commits-clause-fed
returns-in_err-commits-clause-fed g c =
    let journal = c.next_part.new.pass.journal in
    let first = c.args.self.now in
    fed_nothing g.K.Names.definitions journal first c.next_part.new.self c.in_err-commits.ensures.err
    (begins_through first.journal c.args.pass.now.journal journal c.requires.begins c.next_part.ensures.read.journal)

pub feed_all-requires-clause-serial : goal.feed_all-requires-clause-serial
feed_all-requires-clause-serial g c = part_serial c.in_ok-commits.ensures.part

pub feed_all-requires-clause-few : goal.feed_all-requires-clause-few
feed_all-requires-clause-few g c = part_few c.in_ok-commits.ensures.part

pub returns-in-Err-clause-fed : goal.returns-in-Err-clause-fed
returns-in-Err-clause-fed g c = part_fed c.in_ok-commits.ensures.part g.K.Names.definitions c.feed_all.new.self c.feed_all.ensures.fed

pub returns-in-Err-clause-stands : goal.returns-in-Err-clause-stands
returns-in-Err-clause-stands g c = part_stands c.in_ok-commits.ensures.part g.K.Names.definitions c.feed_all.new.self c.feed_all.ensures.fed

pub returns-in-Err-clause-most : goal.returns-in-Err-clause-most
returns-in-Err-clause-most g c = part_most c.in_ok-commits.ensures.part c.feed_all.new.self c.feed_all.ensures.fed.begins

pub returns-in-Err-clause-refused : goal.returns-in-Err-clause-refused
returns-in-Err-clause-refused g c =
    part_too_many c.in_ok-commits.ensures.part g.K.Names.definitions c.feed_all.new.self c.in-Err.refused c.in-Err.ensures.refused

pub returns-in-Err-clause-still : goal.returns-in-Err-clause-still
returns-in-Err-clause-still g c =
    part_still c.in_ok-commits.ensures.part g.K.Names.definitions c.feed_all.new.self c.in-Err.refused c.in-Err.ensures.refused

pub returns-in-Ok-clause-fed : goal.returns-in-Ok-clause-fed
returns-in-Ok-clause-fed g c = part_fed c.in_ok-commits.ensures.part g.K.Names.definitions c.feed_all.new.self c.feed_all.ensures.fed

pub returns-in-Ok-clause-stands : goal.returns-in-Ok-clause-stands
returns-in-Ok-clause-stands g c = part_stands c.in_ok-commits.ensures.part g.K.Names.definitions c.feed_all.new.self c.feed_all.ensures.fed

pub returns-in-Ok-clause-most : goal.returns-in-Ok-clause-most
returns-in-Ok-clause-most g c = part_most c.in_ok-commits.ensures.part c.feed_all.new.self c.feed_all.ensures.fed.begins

pub returns-in-Ok-clause-all : goal.returns-in-Ok-clause-all
returns-in-Ok-clause-all g c = part_all c.in_ok-commits.ensures.part c.feed_all.new.self c.in-Ok.ensures.all
