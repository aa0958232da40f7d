-- Lines that were answered over what a pass has seen are so over all that goes on from it.
use Rattle.std.specs.Prelude.{ℕ, List, Option}
use Rattle.ds_indexdef.specs.declared.IndexDef.{IndexDef}
use Rattle.ds_log.specs.declared.Commit.{Commit}
use Rattle.ds_reply.specs.declared.reply.Reply.{Reply}
use Rattle.ds_rounds.specs.Rounds.{NumberedLine}
use Rattle.ds_model.specs.Asked.{Reading}
use Rattle.ds_model.specs.Legal.{ClientSteps}
use Rattle.ds_model.specs.Sessions.{Session}
use Rattle.ds_model.specs.Worlds.{shard_lists, world_of}
use Rattle.ds_store.specs.Ending.{Begins}
use Rattle.ds_store.specs.Passes.{PassParts}
use Rattle.ds_session_state.specs.Sessions.{HasGrown, world_seen}
use Rattle.ds_session_state.proofs.GrowthLaws.{steps_over}

module _ (definitions : List IndexDef) (shards : ℕ) (window : Option ℕ) (reading : Reading) (p : PassParts) (s t : Session)
    (lines : List NumberedLine) (replies : List Reply)
    (steps : ClientSteps reading (world_seen definitions shards window p) s lines replies t) where
  -- over what the pass sees later
  pub steps_later : (q : PassParts) → HasGrown p q → ClientSteps reading (world_seen definitions shards window q) s lines replies t
  steps_later q grown = steps_over definitions shards window p q.journal q.lists grown.journal grown.lists reading s t lines replies steps

  -- over every journal that goes on from what it has seen, as the store's own does at its close
  pub steps_go_on : (journal : List Commit) → Begins shards journal p
      → ClientSteps reading (world_of definitions shards window journal) s lines replies t
  steps_go_on journal on =
      steps_over definitions shards window p journal (shard_lists shards journal) on.0 on.1 reading s t lines replies steps
