use Rattle.ds_protocol.proofs.Words.{arith, search_parts}
use Rattle.ds_protocol.proofs.Ends.{window_unread}
use Rattle.ds_protocol.proofs.preparing.window_of.Goals.{in_default-via-then-branches-lt1}
use Rattle.ds_protocol.proofs.preparing.window_of.Goals.{in_default-via-else-branches-lt1+else-branches-lt2}
use Rattle.ds_protocol.proofs.preparing.window_of.Goals as goal

pub returns-in_default-clause-ok : goal.returns-in_default-clause-ok
returns-in_default-clause-ok c =
    rw c.window_between.ensures (window_unread c.args.branches.now (search_parts c.args.search.now) (λ one. elim c.in_default.branch [
      | in_default-via-then-branches-lt1 w ↦ grind (arith, one)
      | in_default-via-else-branches-lt1+else-branches-lt2 w ↦ grind (arith, one)
    ]))
