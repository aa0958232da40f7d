-- What a legal run is that goes on from a kept journal.
use Rattle.std.specs.Prelude.{ℕ, ◌+◌, List, Option, None, length, replicate}
use Rattle.ds_base.specs.Limits.{greatest_client}
use Rattle.ds_indexdef.specs.declared.IndexDef.{IndexDef}
use Rattle.ds_log.specs.declared.Commit.{Commit}
use Rattle.ds_reply.specs.declared.reply.Reply.{Reply}
use Rattle.ds_rounds.specs.Rounds.{NumberedLine}
use Rattle.ds_model.specs.Sessions.{Session}
use Rattle.ds_kept_file.specs.Files.{Kept}
use Rattle.ds_serving.specs.Continued.{LegalBehind}

-- what a client has seen at the start: all of the kept journal, of each shard nothing that it counts, and the kept id counter
abbrev pub session_from : ℕ → Kept → Session
session_from shards kept =
    record { place = length kept.journal; counts = replicate shards 0; next_id = kept.next; transaction = None }

abbrev pub sessions_from : ℕ → Kept → List Session
sessions_from shards kept = replicate (greatest_client + 1) (session_from shards kept)

-- One legal run behind what is kept: the journal begins with the kept one; the replies of the rounds are steps over it of sessions that
-- have seen what is kept; the commits behind the kept ones are those that are acknowledged, each once; and ids are drawn each once, from
-- the kept counter on.
abbrev pub LegalFrom : List IndexDef → ℕ → Option ℕ → Kept → List (List NumberedLine) → List Commit → List Reply → Type 0
LegalFrom definitions shards window kept = LegalBehind definitions shards window kept.journal kept.next (sessions_from shards kept)
