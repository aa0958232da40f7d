-- What writes and commits are told, in the parts in which replies to them are judged.
use Rattle.std.specs.Prelude.{◌≡◌, ℕ, ◌≤◌, Bool, [], ◌∷◌, length, Option, Some, None, ⊤}
use Rattle.std.specs.Option.{option_map}
use Rattle.ds_entity.specs.Entities.{EntityParts}
use Rattle.ds_base.specs.Keys.{KeyParts}
use Rattle.ds_base.specs.Limits.{most_groups, most_writes}
use Rattle.ds_log.specs.declared.Commit.{Commit}
use Rattle.ds_log.specs.declared.Write.{Write}
use Rattle.ds_log.specs.declared.Write.TheVariants.{Put, Delete}
use Rattle.ds_log.specs.Logs.{key_of}
use Rattle.ds_reply.specs.declared.reply.WriteAt.{WriteAt}
use Rattle.ds_reply.specs.declared.reply.Body.{Body}
use Rattle.ds_reply.specs.declared.reply.Body.TheVariants as body
use Rattle.ds_model.specs.Answers.{CommitAnswers, ConflictAnswers, PutAnswers, commit_of}
use Rattle.ds_model.specs.Groups.{touching, with_transaction, writing}
use Rattle.ds_model.specs.Sessions.{Session, Transaction, next_above, saw_next, saw_place}
use Rattle.ds_model.specs.Worlds.{World}
use Rattle.ds_protocol.specs.Transactions.{MayWrite}

-- ---- writes

-- the reply to a write of this kind
abbrev pub written_body : Write → WriteAt → Body
written_body (Put e) place = body.Put e.key place
written_body (Delete k) place = body.Delete k place

-- a write by itself is a commit that touched nothing
abbrev pub own_commit : ℕ → Write → Commit
own_commit client write = record { client = client; touched = []; writes = write ∷ [] }

-- inside a transaction the write's group may be touched, and there is room for the write
abbrev pub MayWriteIn : Option Transaction → KeyParts → Type 0
MayWriteIn None group = ⊤
MayWriteIn (Some t) group = MayWrite (Some t) group

-- what a client has seen once its write stands behind the others of its transaction, whose group was touched at this place
abbrev pub saw_write : Write → KeyParts → ℕ → Option Transaction → Session → Session
saw_write write group m t s =
    saw_next (next_above (key_of write).elems) (saw_place m (with_transaction (option_map (λ u. writing write (touching group m u)) t) s))

-- the entity is put, under its key or one with a drawn id
abbrev pub IsPut : World → ℕ → Session → Bool → EntityParts → Body → Session → Type 0
IsPut w client s incomplete e (body.Put printed place) after = PutAnswers w client s incomplete e.key e.properties printed place after
IsPut w client s incomplete e _ after = ⊥

-- ---- the end of a transaction

-- what the transaction, which there is, commits
abbrev pub IsDraftOf : ℕ → Option Transaction → Commit → Type 0
IsDraftOf client None draft = ⊥
IsDraftOf client (Some t) draft = draft ≡ commit_of client t

-- what it commits, if there is a transaction: at most 500 writes, of at most 25 groups
pub record IsDraftWithin (client : ℕ) (o : Option Transaction) (draft : Commit) : Type 0 where
  pub of : IsDraftOf client o draft
  pub writes : length draft.writes ≤ most_writes
  pub groups : length draft.touched ≤ most_groups

abbrev pub IsDraft : ℕ → Option Transaction → Option Commit → Type 0
IsDraft client o None = o ≡ None
IsDraft client o (Some draft) = IsDraftWithin client o draft

-- it is committed, or conflicts
abbrev pub IsCommit : World → ℕ → Session → Option Transaction → Body → Session → Type 0
IsCommit w client s (Some t) (body.Commit n) after = CommitAnswers w client s t n after
IsCommit w client s _ _ after = ⊥

abbrev pub IsConflict : World → Session → Option Transaction → Body → Session → Type 0
IsConflict w s (Some t) (body.Conflict commit group m) after = ConflictAnswers w s t commit group m after
IsConflict w s _ _ after = ⊥
