-- What a client has seen, as a session outside a transaction; and how several clients' meet.
use Rattle.std.specs.Prelude.{◌≡◌, ℕ, max, List, None, All, fold, length, replicate}
use Rattle.ds_model.specs.Sessions.{Session, greater_counts}

-- a session that has seen nothing at all of so many shards, not even the first id
abbrev pub nothing_seen : ℕ → Session
nothing_seen shards = record { place = 0; counts = replicate shards 0; next_id = 0; transaction = None }

-- what the other has seen, this one has seen too
abbrev pub raised_by : Session → Session → Session
raised_by other s = record s {
  place = max s.place other.place;
  counts = greater_counts s.counts other.counts;
  next_id = max s.next_id other.next_id;
}

-- the greatest that any of the sessions has seen
abbrev pub greatest_of : ℕ → List Session → Session
greatest_of shards = fold (λ seen s. raised_by s seen) (nothing_seen shards)

-- each session has so many counts
abbrev pub HaveCounts : ℕ → List Session → Type 0
HaveCounts shards = All (λ s. length s.counts ≡ shards)
