-- What a reply changes of the store and of its client's session.
use Rattle.std.specs.Prelude.{◌≡◌, ◌+◌, ◌≤◌, [], ◌∷◌, ◌++◌, Option, Some, None, length, All, ⊤}
use Rattle.std.specs.Option.{option_map}
use Rattle.ds_log.specs.declared.Commit.{Commit}
use Rattle.ds_log.specs.Conflicts.{conflict_of}
use Rattle.ds_log.specs.Ids.{first_unissued, AreIssued}
use Rattle.ds_log.specs.Logs.{key_of}
use Rattle.ds_model.specs.Answers.{begun}
use Rattle.ds_model.specs.Groups.{group_refusal, touching, touching_if, writing, with_transaction}
use Rattle.ds_model.specs.Sessions.{Session, Transaction, saw_place, saw_next, saw_entries, count_of, greater_counts}
use Rattle.ds_protocol.specs.Transactions.{MayWrite}
use Rattle.ds_protocol.specs.declared.seen.CountSeen.{CountSeen}
use Rattle.ds_protocol.specs.declared.seen.CountsSeen.{CountsSeen}
use Rattle.ds_effects.specs.declared.effect.Effect.{Effect}
use Rattle.ds_effects.specs.declared.effect.Effect.TheVariants as effect
use Rattle.ds_protocol.specs.declared.seen.GroupRead.{GroupRead}
use Rattle.ds_effects.specs.declared.effect.GroupWrite.{GroupWrite}
use Rattle.ds_effects.specs.declared.effect.WriteCommit.{WriteCommit}
use Rattle.ds_machine.specs.States.{StoreParts, StateParts, AreUpTo}

-- the store after
abbrev pub store_after : Effect → StoreParts → StoreParts
store_after (effect.CommitWrite w) st = record st { journal = st.journal ++ w.draft ∷ [] }
store_after (effect.CommitTransaction draft) st = record st { journal = st.journal ++ draft ∷ [] }
store_after _ st = st

-- a write behind the others of the transaction, which touches its group
abbrev pub with_write : GroupWrite → Option Transaction → Option Transaction
with_write w = option_map (λ t. writing w.write (touching w.group w.place t))

-- the session after, from the store before
abbrev pub session_after : Effect → StoreParts → Session → Session
session_after effect.Nothing st s = s
session_after (effect.SeeNext next) st s = saw_next next s
session_after (effect.Begin several_groups) st s = with_transaction (Some (begun several_groups)) s
session_after effect.End st s = with_transaction None s
session_after (effect.EndAt place) st s = saw_place place (with_transaction None s)
session_after (effect.CommitWrite w) st s = saw_next w.next (saw_place (length st.journal + 1) s)
session_after (effect.CommitTransaction draft) st s = saw_place (length st.journal + 1) (with_transaction None s)
session_after (effect.WriteGroup w) st s = saw_next w.next (saw_place w.place (with_transaction (with_write w s.transaction) s))
session_after (effect.ReadGroup r) st s =
    saw_entries r.shard r.entries (saw_place r.place (with_transaction (touching_if r.group r.place s.transaction) s))
session_after (effect.SeeCounts c) st s = saw_place c.commit (record s { counts = greater_counts s.counts c.counts })
session_after (effect.Settle place c) st s =
    saw_place c.commit (record (saw_place place s) { counts = greater_counts s.counts c.counts })
session_after (effect.SeeCount c) st s = saw_place c.commit (saw_entries c.shard c.count (saw_place c.place s))

-- a commit by itself: it touched nothing, and its ids are issued
pub record MayCommitWrite (w : WriteCommit) (st : StateParts) : Type 0 where
  pub shown : w.next ≤ st.store.next
  pub untouched : w.draft.touched ≡ []
  pub issued : AreIssued st.store.next w.draft.writes

-- a transaction's commit: it conflicts with nothing, touched what is there, and its ids are issued
pub record MayCommit (draft : Commit) (st : StateParts) : Type 0 where
  pub touched_before : All (λ touch. touch.place ≤ length st.store.journal) draft.touched
  pub issued : AreIssued st.store.next draft.writes
  pub serial : conflict_of st.store.journal draft.touched ≡ None

pub record MayWriteGroup (w : GroupWrite) (st : StateParts) (s : Session) : Type 0 where
  pub shown : w.next ≤ st.store.next
  pub place : w.place ≤ length st.store.journal
  pub issued : first_unissued st.store.next (key_of w.write).elems ≡ None
  pub allowed : MayWrite s.transaction w.group

pub record MayReadGroup (r : GroupRead) (st : StateParts) (s : Session) : Type 0 where
  pub place : r.place ≤ length st.store.journal
  pub entries : r.entries ≤ count_of st.applied.counts r.shard
  pub allowed : group_refusal s.transaction (Some r.group) ≡ None

pub record MaySeeCounts (c : CountsSeen) (st : StateParts) : Type 0 where
  pub commit : c.commit ≤ length st.store.journal
  pub counts : AreUpTo c.counts st.applied.counts

pub record MaySeeCount (c : CountSeen) (st : StateParts) : Type 0 where
  pub place : c.place ≤ length st.store.journal
  pub commit : c.commit ≤ length st.store.journal
  pub count : c.count ≤ count_of st.applied.counts c.shard

-- what must hold of the state and the session before: what is shown is there, and a commit conflicts with nothing
abbrev pub IsAllowed : Effect → StateParts → Session → Type 0
IsAllowed (effect.SeeNext next) st s = next ≤ st.store.next
IsAllowed (effect.EndAt place) st s = place ≤ length st.store.journal
IsAllowed (effect.CommitWrite w) st s = MayCommitWrite w st
IsAllowed (effect.CommitTransaction draft) st s = MayCommit draft st
IsAllowed (effect.WriteGroup w) st s = MayWriteGroup w st s
IsAllowed (effect.ReadGroup r) st s = MayReadGroup r st s
IsAllowed (effect.SeeCounts c) st s = MaySeeCounts c st
IsAllowed (effect.Settle place c) st s = (place ≤ length st.store.journal) × MaySeeCounts c st
IsAllowed (effect.SeeCount c) st s = MaySeeCount c st
IsAllowed _ st s = ⊤
