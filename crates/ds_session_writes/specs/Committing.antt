-- The commit that a transaction asks for.
use Rattle.std.specs.Prelude.{◌≡◌, ℕ, Option, Some, None}
use Rattle.ds_log.specs.declared.Commit.{Commit}
use Rattle.ds_model.specs.Answers.{commit_of}
use Rattle.ds_model.specs.Sessions.{Transaction}

-- this client has a transaction open, and it asks for this commit
abbrev pub IsCommitOf : ℕ → Option Transaction → Commit → Type 0
IsCommitOf client None draft = ⊥
IsCommitOf client (Some t) draft = draft ≡ commit_of client t
