use Rattle.ds_paxos.proofs.Sent.{sent_more}
use Rattle.ds_paxos.proofs.rules.to_all.Goals as goal

pub loop-to-preserved : goal.loop-to-preserved
loop-to-preserved c = let more = sent_more c.args.site.place c.args.site.ballot c.args.content.now c.loop-to.to in
    let items = c.in_ok-push.ensures.items in let same = c.in_ok-content.ensures.copied in cc
