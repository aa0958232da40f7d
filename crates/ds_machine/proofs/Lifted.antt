-- From a plan to the reply: an answer over the journal is one over every longer journal.
use Rattle.ds_machine.proofs.Words.{ℕ, ◌+◌, List, [], ◌∷◌, ◌++◌, length, map, Option, Ok, range_with_len, Commit, shard_list}
use Rattle.ds_machine.proofs.Words.{shard_list-append, Call, Body, BodyAnswers, Session, shard_lists, Effect, IsDue, store_after}
use Rattle.ds_machine.proofs.Words.{session_after, StateParts, world, later_entries}
use Rattle.ds_model.proofs.LongerJournals.{AreLonger, body-grown}

-- the lists of a longer journal begin with those of the journal
pub lists-longer : (shards : ℕ) (journal more : List Commit) (numbers : List ℕ) →
    AreLonger (map (λ shard. shard_list journal shard shards) numbers) (map (λ shard. shard_list (journal ++ more) shard shards) numbers)
lists-longer shards journal more [] = tt
lists-longer shards journal more (shard ∷ others) = (
  (later_entries shard shards (1 + length journal) more, shard_list-append journal more shard shards),
  lists-longer shards journal more others,
)

-- what is due is an answer over every longer journal
pub due-said : (st : StateParts) (s : Session) (client : ℕ) (c : Call) (ids : List ℕ) (b : Body) (e : Effect) → IsDue st s client c ids b e
    → (window : Option ℕ) (more : List Commit)
    → BodyAnswers (world (record (store_after e st.store) { journal = (store_after e st.store).journal ++ more }) window) s
    (Ok (record { client = client; call = c })) b (session_after e st.store s)
due-said st s client c ids b e due window more =
    let new = store_after e st.store in
    body-grown (world new window) more (shard_lists new.shards (new.journal ++ more))
    (lists-longer new.shards new.journal more (range_with_len 0 new.shards))
    s (Ok (record { client = client; call = c })) b (session_after e st.store s) (due.answers window)
