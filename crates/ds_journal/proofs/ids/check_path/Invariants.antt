use Rattle.std.proofs.Common.{◌≡◌, drop}
use Rattle.ds_log.specs.Ids.{first_unissued}
use Rattle.ds_journal.proofs.ids.check_path.Given as goal

-- the elements so far have no such id
abbrev pub invariant-loop-elem : goal.invariant-loop-elem
invariant-loop-elem l = first_unissued l.next l.path ≡ first_unissued l.next (drop l.elem-index l.path)
