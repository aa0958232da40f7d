-- The table of steps: which step an open request waits for next, by what it has gathered and the step that was just taken.
use Rattle.std.specs.Prelude.{◌≡◌, ◌⊎◌, ℕ, ◌+◌, Bool, true, false, ◌&&◌, List, [], ◌∷◌, Option}
use Rattle.std.specs.Prelude.{Some, None, cond, is_some, nat_le, nat_lt, ⊤}
use Rattle.std.specs.Option.{option_map, option_or}
use Rattle.ds_base.specs.Keys.{KeyParts, root_of, renumbered}
use Rattle.ds_base.specs.Limits.{greatest_id}
use Rattle.ds_log.specs.declared.Commit.{Commit}
use Rattle.ds_log.specs.Shards.{shard_of}
use Rattle.ds_applied.specs.AppliedLists.{entries_by}
use Rattle.ds_reply.specs.declared.reply.Body.TheVariants as body
use Rattle.ds_model.specs.Groups.{place_in}
use Rattle.ds_model.specs.Sessions.{Session, count_of}
use Rattle.ds_protocol.specs.declared.operations.Operation.{Operation}
use Rattle.ds_protocol.specs.declared.operations.Operation.TheVariants as operation
use Rattle.ds_effects.specs.declared.effect.Due.{Due}
use Rattle.ds_effects.specs.declared.effect.Due.TheVariants as due
use Rattle.ds_effects.specs.declared.effect.Plan.{Plan}
use Rattle.ds_effects.specs.declared.gathered.Step.{Step}
use Rattle.ds_effects.specs.declared.gathered.Step.TheVariants as steps
use Rattle.ds_effects.specs.Gathered.{GatheredParts, first_unviewed, has_covered}
use Rattle.ds_machine.specs.States.{StateParts}
use Rattle.ds_effects.specs.Taken.{is_commit, is_issue, is_placed, is_view}

-- what steps show of a state: the number of shards, the commits, the id counter, and how many entries of each shard are applied
pub record Shown : Type 0 where
  pub shards : ℕ
  pub journal : List Commit
  pub next : ℕ
  pub counts : List ℕ

abbrev pub shown : StateParts → Shown
shown st = record { shards = st.store.shards; journal = st.store.journal; next = st.store.next; counts = st.applied.counts }

-- the step is missing, unless this holds
abbrev pub unless : Bool → Step → Option Step
unless true step = None
unless false step = Some step

-- so many ids are not left
abbrev pub are_exhausted : Shown → ℕ → Bool
are_exhausted st count = nat_lt greatest_id (st.next + count)

-- An Issue, and once there are ids what else is missing. An Issue that finds too few of them left ends the request.
abbrev pub missing_ids : Shown → ℕ → Option ℕ → Step → Option Step → Option Step
missing_ids st count None taken rest = unless (is_issue count taken && are_exhausted st count) (steps.Issue count)
missing_ids st count (Some first) taken rest = rest

-- a Commit outside a transaction, and inside one a Touch, unless it is known where the group stands
abbrev pub missing_write : Session → GatheredParts → KeyParts → Step → Option Step
missing_write s g group taken =
    cond (is_some s.transaction) (unless (is_placed s g group) steps.Touch) (unless (is_commit taken) steps.Commit)

-- the key of a put, completed by the drawn id
abbrev pub completed : KeyParts → Option ℕ → KeyParts
completed key None = key
completed key (Some id) = renumbered key id

-- an Issue where the key is incomplete, and then what a write needs
abbrev pub missing_put : Shown → Session → KeyParts → Bool → GatheredParts → Step → Option Step
missing_put st s key true g taken = missing_ids st 1 g.first taken (missing_write s g (root_of (completed key g.first)) taken)
missing_put st s key false g taken = missing_write s g (root_of key) taken

-- the shard has applied its entries up to the place
abbrev pub covers : Shown → ℕ → ℕ → Bool
covers st shard place = nat_le (entries_by st.journal st.shards shard place) (count_of st.counts shard)

-- a View of the shard as soon as it covers the place, and before it an Apply; the View ends the request
abbrev pub missing_view : Shown → ℕ → ℕ → Step → Option Step
missing_view st shard place taken =
    cond (covers st shard place) (unless (is_view shard taken) (steps.View shard)) (Some (steps.Apply shard))

-- where a group is read: at its touch place, else at the request's Touch
abbrev pub place_read : Session → GatheredParts → KeyParts → Option ℕ
place_read s g group = option_or (place_in s.transaction group) g.place

-- a Touch, and then a View that covers its place
abbrev pub missing_read : Shown → ℕ → Option ℕ → Step → Option Step
missing_read st shard None taken = Some steps.Touch
missing_read st shard (Some place) taken = missing_view st shard place taken

-- the first shard without a View that covers the place, counted from this number on
abbrev pub first_uncovered : Shown → ℕ → ℕ → List (Option ℕ) → Option ℕ
first_uncovered st place shard [] = None
first_uncovered st place shard (view ∷ views) =
    cond (has_covered (entries_by st.journal st.shards shard place) view) (first_uncovered st place (shard + 1) views) (Some shard)

-- a View of the shard as soon as it covers the place, and before it an Apply
abbrev pub view_or_apply : Shown → ℕ → ℕ → Step
view_or_apply st place shard = cond (covers st shard place) (steps.View shard) (steps.Apply shard)

-- a Touch, and then a View of each shard that covers its place
abbrev pub missing_settle : Shown → Option ℕ → List (Option ℕ) → Option Step
missing_settle st None views = Some steps.Touch
missing_settle st (Some place) views = option_map (view_or_apply st place) (first_uncovered st place 0 views)

-- the request's own Apply raised the count to one within these
abbrev pub is_within : ℕ → Option ℕ → Bool
is_within most None = false
is_within most (Some count) = nat_le count most

-- a Touch; and then an Apply, as long as the shard has an entry up to the place that isn't applied, and else a View of it
abbrev pub missing_apply : Shown → ℕ → Option ℕ → Option ℕ → Step → Option Step
missing_apply st shard None applied taken = Some steps.Touch
missing_apply st shard (Some place) applied taken =
    cond (is_within (entries_by st.journal st.shards shard place) applied) None (missing_view st shard place taken)

abbrev pub missing_search : Shown → Session → GatheredParts → Option KeyParts → Step → Option Step
missing_search st s g None taken = option_map (λ shard. steps.View shard) (first_unviewed 0 g.views)
missing_search st s g (Some ancestor) taken =
    missing_read st (shard_of (root_of ancestor) st.shards) (place_read s g (root_of ancestor)) taken

-- what is missing; none where the reply is due
abbrev pub missing : Shown → Session → Operation → GatheredParts → Step → Option Step
missing st s (operation.Put entity incomplete) g taken = missing_put st s entity.key incomplete g taken
missing st s (operation.Delete key) g taken = missing_write s g (root_of key) taken
missing st s (operation.Get key) g taken = missing_read st (shard_of (root_of key) st.shards) (place_read s g (root_of key)) taken
missing st s (operation.Find search) g taken = missing_search st s g search.query.ancestor taken
missing st s operation.Commit g taken = unless (is_commit taken) steps.Commit
missing st s operation.Settle g taken = missing_settle st g.place g.views
missing st s (operation.AllocateIds count) g taken = missing_ids st count g.first taken None
missing st s (operation.Apply shard) g taken = missing_apply st shard g.place g.applied taken
missing st s _ g taken = None

-- the request waits for the missing step; and it is replied to as soon as none is, or when out of memory
abbrev pub IsNext : Option Step → Due → Type 0
IsNext next (due.Waits step) = next ≡ Some step
IsNext next (due.Reply plan) = (next ≡ None) ⊎ (plan.body ≡ body.NoMemory)

-- the reply, if it is due
abbrev pub IfReply : Due → (Plan → Type 0) → Type 0
IfReply (due.Waits step) P = ⊤
IfReply (due.Reply plan) P = P plan
