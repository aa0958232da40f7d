-- The rounds that were run so far, with what is kept of them.
use Rattle.std.specs.Prelude.{◌≡◌, ℕ, ◌<◌, ◌≤◌, List, ◌++◌, Some, length, flat_map, All}
use Rattle.ds_model.specs.Asked.{asked}
use Rattle.ds_model.specs.Legal.{acknowledged, drawn_in, answered_lines}
use Rattle.ds_model.specs.Sessions.{Session}
use Rattle.ds_reply.specs.declared.reply.Reply.{Reply}
use Rattle.ds_reply.specs.Replies.{replies_text}
use Rattle.ds_rounds.specs.Rounds.{NumberedLine}
use Rattle.ds_keep.specs.Keepers.{KeeperParts}
use Rattle.ds_store.specs.Passes.{PassParts}
use Rattle.ds_clients.specs.Sessions.{SessionParts}
use Rattle.ds_protocol.specs.Watermarks.{HaveCounts}
use Rattle.ds_clients.specs.Runs.{AreWritten, HasRun, seen_of}
use Rattle.ds_serving.specs.declared.settings.Setting.{Setting}
use Rattle.ds_keeping.specs.Holding.{AreCovered, StandsWith}

-- A run may go on: the sessions have counts of each shard and no reply left to be written; all that they committed and drew is kept; and
-- the keeper stands where the pass does that follows the journal, which waits for no entry.
pub record IsGoing (shards : ℕ) (keeper : KeeperParts) (sessions : List SessionParts) (pass : PassParts) (counts : List ℕ) : Type 0 where
  pub seen : HaveCounts shards (seen_of sessions)
  pub written : AreWritten sessions
  pub covered : AreCovered keeper.commits keeper.next sessions
  pub stands : StandsWith keeper pass
  pub many : length counts ≡ shards

-- Rounds were run from these first sessions. The text `held` is that of the last replies; so many commits and ids are kept that those which
-- the other replies tell are among them.
pub record HasRunKept (setting : Setting) (first : List Session) (commits next : ℕ) (held : List ℕ) (rounds : List (List NumberedLine))
    (now : List SessionParts) (text : List ℕ) : Type 0 where
  pub run : HasRun setting.defs setting.shards (Some setting.window) first rounds now text
  pub sent : List Reply
  pub held_back : List Reply
  pub split : run.replies ≡ sent ++ held_back
  pub held_is : replies_text held_back ≡ held
  pub committed : All (λ n. n ≤ commits) (flat_map acknowledged sent)
  pub drawn : All (λ id. id < next) (drawn_in (asked setting.shards) (answered_lines (asked setting.shards) rounds) sent)
