use Rattle.std.proofs.Common.{map}
use Rattle.ds_log.specs.Logs.{key_of}
use Rattle.ds_shard.specs.Histories.{written}
use Rattle.ds_shard.proofs.Writing.{among, back_on, fold_next}
use Rattle.ds_shard.proofs.contents.Contents.write_all.Goals as goal

pub returns-in_err-write-clause-leads_back : goal.returns-in_err-write-clause-leads_back
returns-in_err-write-clause-leads_back c =
    let ws = c.args.writes.now in
    let keys = map key_of ws in
    back_on c.args.stamp keys c.args.self.now c.loop-write.self c.write.new.self c.loop-write.invariant.leads_back
    (c.write.ensures.leads_back.0 keys (among ws c.loop-write.write-index c.write-item.result c.loop-write-test.true c.write-item.is))

pub loop-write-preserved : goal.loop-write-preserved
loop-write-preserved c =
    let ws = c.args.writes.now in
    let keys = map key_of ws in
    let w = c.write-item.result in
    let i = c.loop-write.write-index in
    record {
      entities = fold_next (written c.args.stamp) c.loop-write.self.entities ws i w c.loop-write-test.true c.write-item.is c.write.new.self.entities
          c.in_ok-write.ensures.entities _ c.loop-write.invariant.entities;
      kept = c.in_ok-write.ensures.kept;
      leads_back = back_on c.args.stamp keys c.args.self.now c.loop-write.self c.write.new.self c.loop-write.invariant.leads_back
          (c.write.ensures.leads_back.0 keys (among ws i w c.loop-write-test.true c.write-item.is));
      can_undo = c.write.ensures.leads_back.1;
    }
