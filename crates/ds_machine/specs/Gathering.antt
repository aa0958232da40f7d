-- What a step gathers for an open request, and what it changes of the store.
use Rattle.std.specs.Prelude.{ℕ, ◌+◌, Bool, false, ◌&&◌, ◌==◌, List, Option, Some, None, cond, is_none, is_some, length, nat_le}
use Rattle.std.specs.Prelude.{nat_lt, slice_index_or, slice_set}
use Rattle.ds_base.specs.Limits.{greatest_id}
use Rattle.ds_log.specs.Logs.{shard_list}
use Rattle.ds_applied.specs.AppliedLists.{entries_by}
use Rattle.ds_model.specs.Sessions.{count_of, raised_at}
use Rattle.ds_protocol.specs.declared.operations.Operation.{Operation}
use Rattle.ds_protocol.specs.declared.operations.Operation.TheVariants as operation
use Rattle.ds_protocol.specs.Operations.{call_of, ids_asked}
use Rattle.ds_effects.specs.declared.gathered.Step.{Step}
use Rattle.ds_effects.specs.declared.gathered.Step.TheVariants as steps
use Rattle.ds_effects.specs.Gathered.{GatheredParts, first_place, has_covered}
use Rattle.ds_machine.specs.Missing.{Shown, covers, shown}
use Rattle.ds_machine.specs.States.{StateParts, StoreParts}

-- a shard has an entry that isn't applied
abbrev pub is_pending : Shown → ℕ → Bool
is_pending st shard = nat_lt (count_of st.counts shard) (length (shard_list st.journal shard st.shards))

-- the shard covers the place, and its View doesn't yet
abbrev pub settles : Shown → ℕ → Option ℕ → Option ℕ → Bool
settles st shard None view = false
settles st shard (Some place) view = cond (has_covered (entries_by st.journal st.shards shard place) view) false (covers st shard place)

-- the first View counts, and for a settle the first one that covers its place
abbrev pub gathers_view : Shown → Operation → GatheredParts → ℕ → Bool
gathers_view st operation.Settle g shard = settles st shard g.place (slice_index_or g.views shard None)
gathers_view st _ g shard = is_none (slice_index_or g.views shard None)

-- as many ids are asked for, none are drawn yet, and so many are left
abbrev pub draws : Shown → Operation → GatheredParts → ℕ → Bool
draws st o g count =
    nat_lt 0 count && (count == ids_asked (call_of o)) && is_none g.first && nat_le (st.next + count) greatest_id

-- an apply of the shard that has its place
abbrev pub gathers_entry : Operation → GatheredParts → ℕ → Bool
gathers_entry (operation.Apply own) g shard = (own == shard) && is_some g.place
gathers_entry _ g shard = false

-- what the request has gathered after the step
abbrev pub gathered_by : Shown → Operation → GatheredParts → Step → GatheredParts
gathered_by st o g steps.Commit = g
gathered_by st o g steps.Touch = record g { place = first_place (length st.journal) g.place }
gathered_by st o g (steps.View shard) =
    cond (nat_lt shard st.shards && gathers_view st o g shard)
    (record g { views = slice_set g.views shard (Some (count_of st.counts shard)) }) g
gathered_by st o g (steps.Issue count) = cond (draws st o g count) (record g { first = Some st.next }) g
gathered_by st o g (steps.Apply shard) =
    cond (nat_lt shard st.shards && is_pending st shard && gathers_entry o g shard)
    (record g { applied = Some (count_of st.counts shard + 1) }) g

-- the id counter after it: an Issue draws ids
abbrev pub next_by : Shown → Operation → GatheredParts → Step → ℕ
next_by st o g (steps.Issue count) = cond (draws st o g count) (st.next + count) st.next
next_by st o g _ = st.next

abbrev pub store_by : StateParts → Operation → GatheredParts → Step → StoreParts
store_by st o g step = record (st.store) { next = next_by (shown st) o g step }

-- the counts once a shard has applied its next entry, if there is one
abbrev pub counts_applied : Shown → ℕ → List ℕ
counts_applied st shard = cond (is_pending st shard) (raised_at shard (count_of st.counts shard + 1) st.counts) st.counts

-- the counts after it: an Apply applies the shard's next entry, if there is one
abbrev pub counts_by : Shown → Step → List ℕ
counts_by st (steps.Apply shard) = counts_applied st shard
counts_by st _ = st.counts

-- what there is after it, for an open request
abbrev pub shown_by : Shown → Operation → GatheredParts → Step → Shown
shown_by st o g step = record st { next = next_by st o g step; counts = counts_by st step }
