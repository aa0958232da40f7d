use Rattle.ds_protocol.proofs.Words.{search_parts}
use Rattle.ds_protocol.proofs.Ends.{window_read}
use Rattle.ds_protocol.proofs.preparing.window_in.Goals as goal

pub returns-clause-ok : goal.returns-clause-ok
returns-clause-ok c = rw c.window_between.ensures (window_read c.args.branch.now (search_parts c.args.search.now) c.in_ok-start.start
    c.in_ok-end.end c.in_ok-start.ensures.ok.read c.in_ok-end.ensures.ok.read)
