use Rattle.ds_pages.specs.Places.{placed}
use Rattle.ds_branch.proofs.KeptLaws.{mark_put}
use Rattle.ds_branch.proofs.kept.put_by_mark.Goals as goal

pub returns-clause-rows : goal.returns-clause-rows
returns-clause-rows c = λ r.
    mark_put c.args.firsts.now.slots c.args.firsts.now.rows c.put.new.self.rows c.in_ok-row.row (placed c.args.columns.now r.row)
    c.len-before.result c.len.result (c.in_ok-row.ensures r) c.in_ok-put.ensures.rows c.len-before.ensures c.len.ensures
