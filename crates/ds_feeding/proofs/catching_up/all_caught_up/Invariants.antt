use Rattle.std.proofs.Common.{◌≡◌, ◌++◌, List}
use Rattle.std.specs.Prelude.{All}
use Rattle.ds_store.specs.Passes.{PassParts}
use Rattle.ds_feeding.specs.Feeding.{HasCaughtUp, HaveRead}
use Rattle.ds_feeding.proofs.catching_up.all_caught_up.Given as goal

-- the first passes have caught up, and the others are left
abbrev pub invariant-loop-pass : goal.invariant-loop-pass
invariant-loop-pass g l = record {
  done : List PassParts;
  whole : done ++ l.pass-iterator.rest.items ≡ l.fn.passes;
  read : HaveRead done l.later;
  caught_up : All (HasCaughtUp l.store.shards l.old) l.later;
}
