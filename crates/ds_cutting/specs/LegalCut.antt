-- What a legal run is over which the index definitions change.
use Rattle.std.specs.Prelude.{◌≡◌, ℕ, List, ◌++◌, Option, drop, flat_map, length, take, IsPermutation}
use Rattle.std.specs.List.{range_with_len}
use Rattle.ds_indexdef.specs.declared.IndexDef.{IndexDef}
use Rattle.ds_log.specs.declared.Commit.{Commit}
use Rattle.ds_reply.specs.declared.reply.Reply.{Reply}
use Rattle.ds_rounds.specs.Rounds.{NumberedLine}
use Rattle.ds_model.specs.Asked.{asked}
use Rattle.ds_model.specs.Legal.{IdsDrawn, RoundsSteps, acknowledged}
use Rattle.ds_model.specs.Sessions.{Session, first_sessions}
use Rattle.ds_model.specs.Worlds.{world_of}

-- One legal run over which the definitions change behind the first n rounds: the replies of these are steps of the sessions under the first
-- definitions, from the first sessions on, and those of the later rounds under the second ones, from where the clients then stand. All are
-- over one journal, with as many shards and one window. It holds the acknowledged commits, each once, and no other; and ids are drawn each
-- once. With fewer rounds it is a legal run under the first definitions.
pub record LegalCut (first second : List IndexDef) (shards : ℕ) (window : Option ℕ) (n : ℕ) (rounds : List (List NumberedLine))
    (journal : List Commit) (replies : List Reply) : Type 0 where
  pub early : List Reply
  pub late : List Reply
  pub all : replies ≡ early ++ late
  pub between : List Session
  pub after : List Session
  pub before_cut : RoundsSteps (asked shards) (world_of first shards window journal) (take n rounds) (first_sessions shards) early between
  pub behind_cut : RoundsSteps (asked shards) (world_of second shards window journal) (drop n rounds) between late after
  pub commits : IsPermutation (flat_map acknowledged replies) (range_with_len 1 (length journal))
  pub ids : IdsDrawn (asked shards) rounds replies
