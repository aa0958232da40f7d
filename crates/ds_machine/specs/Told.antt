-- The numbers that a reply tells are those that its request has gathered.
use Rattle.std.specs.Prelude.{◌≡◌, ◌⊎◌, ℕ, ◌+◌, Bool, true, false, ◌&&◌, ◌==◌, List, Some, None, length, map, ⊤, IsTrue}
use Rattle.ds_entity.specs.declared.results.Seen.{Seen}
use Rattle.ds_entity.specs.declared.results.Seen.TheVariants as seen
use Rattle.ds_base.specs.Keys.{KeyParts, is_key}
use Rattle.ds_reply.specs.declared.reply.Body.{Body}
use Rattle.ds_reply.specs.declared.reply.Body.TheVariants as body
use Rattle.ds_reply.specs.declared.reply.WriteAt.{WriteAt}
use Rattle.ds_reply.specs.declared.reply.WriteAt.TheVariants as at
use Rattle.ds_model.specs.Groups.{ReadsAt, group_refusal, place_in}
use Rattle.ds_model.specs.Sessions.{Session, count_of}
use Rattle.ds_effects.specs.declared.effect.Effect.{Effect}
use Rattle.ds_effects.specs.declared.effect.Effect.TheVariants as effect
use Rattle.ds_protocol.specs.declared.seen.GroupRead.{GroupRead}
use Rattle.ds_effects.specs.declared.gathered.Step.{Step}
use Rattle.ds_effects.specs.declared.gathered.Step.TheVariants as steps
use Rattle.ds_effects.specs.Gathered.{GatheredParts}
use Rattle.ds_protocol.specs.Refused.{tells_no_step}
use Rattle.ds_machine.specs.Effects.{store_after, session_after}
use Rattle.ds_machine.specs.Reads.{IsReached}
use Rattle.ds_machine.specs.States.{StateParts}
use Rattle.ds_machine.specs.Missing.{Shown, shown}

-- the place is that of the request's Touch, or one at which the client's transaction touched a group
abbrev pub IsTouchedPlace : Session → GatheredParts → ℕ → Type 0
IsTouchedPlace s g place = (g.place ≡ Some place) ⊎ ((group : KeyParts) × (place_in s.transaction group ≡ Some place))

-- the counts are those of the request's Views, one for each shard
abbrev pub AreViewsOf : GatheredParts → List ℕ → Type 0
AreViewsOf g counts = map (λ n. Some n) counts ≡ g.views

-- the journal takes the commit of this number by the step
abbrev pub IsCommitBy : Shown → Step → ℕ → Type 0
IsCommitBy st step n = (step ≡ steps.Commit) × (n ≡ length st.journal + 1)

-- where a write stands
abbrev pub IsWriteAt : Shown → Session → GatheredParts → Step → WriteAt → Type 0
IsWriteAt st s g step (at.Place m) = IsTouchedPlace s g m
IsWriteAt st s g step (at.Commit n) = IsCommitBy st step n

-- what a search saw
abbrev pub IsSeenBy : Session → GatheredParts → Seen → Type 0
IsSeenBy s g (seen.Place m) = IsTouchedPlace s g m
IsSeenBy s g (seen.Counts counts) = AreViewsOf g counts

-- The entries of a shard: with true as many as the request's own Apply left applied, and with false as many as are applied, which the step,
-- a View of the shard, shows.
abbrev pub IsCountBy : Shown → GatheredParts → Step → Bool → ℕ → ℕ → Type 0
IsCountBy st g step true count shard = g.applied ≡ Some count
IsCountBy st g step false count shard = (step ≡ steps.View shard) × (count ≡ count_of st.counts shard)

-- Each number that the body tells of the store is one that was gathered, or that the step shows, and an id counter is the one there is. The
-- id of a completed put stands with the drawn ids.
abbrev pub AreNumbersOf : Shown → Session → GatheredParts → Step → Body → Type 0
AreNumbersOf st s g step (body.Put key written) = IsWriteAt st s g step written
AreNumbersOf st s g step (body.Delete key written) = IsWriteAt st s g step written
AreNumbersOf st s g step (body.Get entity m) = IsTouchedPlace s g m
AreNumbersOf st s g step (body.Query select results looked cursor) = IsSeenBy s g looked
AreNumbersOf st s g step (body.Gql select results looked cursor) = IsSeenBy s g looked
AreNumbersOf st s g step (body.Commit n) = IsCommitBy st step n
AreNumbersOf st s g step (body.Conflict commit group m) = (step ≡ steps.Commit) × (m ≡ length st.journal)
AreNumbersOf st s g step (body.AllocateIds first count) = g.first ≡ Some first
AreNumbersOf st s g step (body.Settle m counts) = (g.place ≡ Some m) × AreViewsOf g counts
AreNumbersOf st s g step (body.Apply applied count m shard) = (g.place ≡ Some m) × IsCountBy st g step applied count shard
AreNumbersOf st s g step (body.IdNotIssued id next) = next ≡ st.next
AreNumbersOf st s g step (body.IdsExhausted next) = next ≡ st.next
AreNumbersOf st s g step _ = ⊤

-- What is said to an open request, and changed by it, by what it has gathered and the step just taken: its numbers are those; after it no
-- group is touched but at a place that was gathered or touched before; and the journal takes a commit by a Commit step alone.
pub record IsTold (st : StateParts) (s : Session) (g : GatheredParts) (step : Step) (said : Body) (change : Effect) : Type 0 where
  pub numbers : AreNumbersOf (shown st) s g step said
  pub touches : (group : KeyParts) (place : ℕ) → place_in (session_after change st.store s).transaction group ≡ Some place
      → IsTouchedPlace s g place
  pub commits : (step ≡ steps.Commit) ⊎ (store_after change st.store ≡ st.store)

-- the read of a group for an open request that misses nothing: it may be read there, its shard has applied its entries up to there, and the
-- place is a gathered one
pub record IsGroupRead (st : StateParts) (s : Session) (g : GatheredParts) (group : KeyParts) (r : GroupRead) : Type 0 where
  pub allowed : group_refusal s.transaction (Some group) ≡ None
  pub stands : ReadsAt st.store.journal s group r.place
  pub reached : IsReached st group r
  pub place : IsTouchedPlace s g r.place
  pub lawful : IsTrue (is_key group)

-- ---- refusals

-- nothing changes but the id counter that is shown, as by a refusal
abbrev pub is_refusal : Effect → Bool
is_refusal effect.Nothing = true
is_refusal (effect.SeeNext next) = true
is_refusal _ = false

-- the body tells of the store no number but the id counter that there is
abbrev pub tells_now : ℕ → Body → Bool
tells_now next (body.IdNotIssued id told) = told == next
tells_now next (body.IdsExhausted told) = told == next
tells_now next said = tells_no_step said

-- a refusal, which tells no number of a step and changes nothing but the id counter that is shown
abbrev pub is_silent : StateParts → Body → Effect → Bool
is_silent st said change = tells_now st.store.next said && is_refusal change

-- ---- what is told whatever is gathered, and whichever step is taken

abbrev pub ToldAlways : StateParts → Session → Body → Effect → Type 0
ToldAlways st s said change = (g : GatheredParts) (step : Step) → IsTold st s g step said change
