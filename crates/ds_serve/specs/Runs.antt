-- What a run of the server is: the main theorem's words.
use Rattle.std.specs.Prelude.{◌≡◌, ℕ, List, Bool, true, Option, Some, IfSome, ⊤}
use Rattle.std.specs.Io.KnownBytes.{Consumes}
use Rattle.ds_rounds.specs.Rounds.{NumberedLine}
use Rattle.ds_reply.specs.declared.reply.Reply.{Reply}
use Rattle.ds_reply.specs.Replies.{replies_text}
use Rattle.ds_log.specs.declared.Commit.{Commit}
use Rattle.ds_model.specs.Legal.{Legal}
use Rattle.ds_words.specs.declared.status.Status.{Status}
use Rattle.ds_words.specs.declared.status.Status.TheVariants as status
use Rattle.ds_serving.specs.Runs.{WasSetUp, WereRun, Wrote}
use Rattle.ds_serving.specs.Settings.{IsSetting}
use Rattle.ds_serving.specs.declared.settings.Setting.{Setting}

-- ---- the main theorem

-- The bytes written, with the unsent rest, are the replies of one legal run, over the journal, of the rounds that were run; its index
-- definitions, number of shards and window are those that these words and the file that they name set up. The bytes that were read
-- are those that the source had in front of what it has left, and all that it had where its end was met; where it doesn't tell what it
-- has, there are such bytes.
pub record IsLegalRun (words : List (List ℕ)) (content : List ℕ → Option (List ℕ)) (how : Status) (left rest : Option (List ℕ))
    (journal : List Commit) (old new : Option (List ℕ)) (unsent : List ℕ) : Type 0 where
  pub read : List ℕ
  pub told : Consumes left rest read
  pub ended : Bool
  pub at_the_end : ended ≡ true → IfSome left (λ bytes. bytes ≡ read)
  pub rounds : List (List NumberedLine)
  pub replies : List Reply
  pub setting : Setting
  pub run : WereRun how ended read rounds
  pub set_up : WasSetUp how rounds (IsSetting words content setting)
  pub legal : Legal setting.defs setting.shards (Some setting.window) rounds journal replies
  pub written : Wrote old new unsent (replies_text replies)

-- ---- how a run ends

-- nothing was read or written
abbrev pub IsUntouched : Status → Type 0
IsUntouched status.Usage = ⊤
IsUntouched (status.IndexFile line) = ⊤
IsUntouched status.FileFault = ⊤
IsUntouched _ = ⊥
