-- What a client has seen: its replies so far raise it, and nothing lowers it.
use Rattle.std.specs.Prelude.{ℕ, zero, suc, ◌+◌, max, List, [], ◌∷◌, Bool, nat_le, cond, Option, None, unwrap_or}
use Rattle.std.specs.Prelude.{replicate, slice_get, take, fold, map}
use Rattle.ds_base.specs.Limits.{first_drawn_id, greatest_client}
use Rattle.ds_base.specs.declared.key.Ident.{Ident}
use Rattle.ds_base.specs.declared.key.Ident.TheVariants.{Id, Name}
use Rattle.ds_base.specs.declared.key.Elem.{Elem}
use Rattle.ds_log.specs.declared.Touch.{Touch}
use Rattle.ds_log.specs.declared.Write.{Write}
use Rattle.ds_log.specs.declared.Entry.{Entry}

-- an open transaction: its flag for several groups, its touched groups in order with their places, and its writes
pub record Transaction : Type 0 where
  pub several_groups : Bool
  pub touched : List Touch
  pub writes : List Write

-- a seen place in the journal, a seen count per shard, a shown id counter, and a transaction or none
pub record Session : Type 0 where
  pub place : ℕ
  pub counts : List ℕ
  pub next_id : ℕ
  pub transaction : Option Transaction

-- automatic ids are drawn from here on
abbrev pub first_id : ℕ
first_id = first_drawn_id

abbrev pub first_session : ℕ → Session
first_session shards = record { place = 0; counts = replicate shards 0; next_id = first_id; transaction = None }

-- one for each client, who are numbered from 0 up to the greatest number
abbrev pub first_sessions : ℕ → List Session
first_sessions shards = replicate (greatest_client + 1) (first_session shards)

-- a printed commit or place raises the place
abbrev pub saw_place : ℕ → Session → Session
saw_place m s = record s { place = max s.place m }

-- the commit of the last counted entry, 0 where there is none
abbrev pub last_commit : List Entry → ℕ
last_commit = fold (λ m entry. entry.commit) 0

-- the greatest commit of the shards' last counted entries
abbrev pub counted_place : List (List Entry) → List ℕ → ℕ
counted_place [] counts = 0
counted_place (entries ∷ lists) [] = 0
counted_place (entries ∷ lists) (count ∷ counts) = max (last_commit (take count entries)) (counted_place lists counts)

-- shard by shard the greater count
abbrev pub greater_counts : List ℕ → List ℕ → List ℕ
greater_counts [] counts = []
greater_counts (c ∷ cs) [] = c ∷ cs
greater_counts (c ∷ cs) (a ∷ counts) = max c a ∷ greater_counts cs counts

-- a printed count raises the shard's count, and the place to the commit of the last counted entry
abbrev pub saw_counts : List (List Entry) → List ℕ → Session → Session
saw_counts lists counts s = record s { place = max s.place (counted_place lists counts); counts = greater_counts s.counts counts }

-- ---- one shard

abbrev pub count_of : List ℕ → ℕ → ℕ
count_of counts shard = unwrap_or (slice_get counts shard) 0

abbrev pub list_of : List (List Entry) → ℕ → List Entry
list_of lists shard = unwrap_or (slice_get lists shard) []

-- the counts, that of one shard raised to a count
abbrev pub raised_at : ℕ → ℕ → List ℕ → List ℕ
raised_at shard count [] = []
raised_at zero count (c ∷ cs) = max c count ∷ cs
raised_at (suc shard) count (c ∷ cs) = c ∷ raised_at shard count cs

-- a printed count of one shard raises that shard's count, and the place to the commit of its last counted entry
abbrev pub saw_shard_count : List (List Entry) → ℕ → ℕ → Session → Session
saw_shard_count lists shard count s = record s {
  place = max s.place (last_commit (take count (list_of lists shard)));
  counts = raised_at shard count s.counts;
}

-- A strong read raises a shard's count to the number of its entries up to the read's place. The place itself is printed, and the
-- commit of the last of these entries isn't above it.
abbrev pub saw_entries : ℕ → ℕ → Session → Session
saw_entries shard entries s = record s { counts = raised_at shard entries s.counts }

-- ---- ids

-- a printed id counter raises the shown one
abbrev pub saw_next : ℕ → Session → Session
saw_next next s = record s { next_id = max s.next_id next }

-- an accepted written id of 2^52 or more raises the shown counter above it
abbrev pub next_above : List Elem → ℕ
next_above = fold (λ next e. max next (above e.ident)) 0 where
  above : Ident → ℕ
  above (Id n) = cond (nat_le first_id n) (n + 1) 0
  above (Name x) = 0

-- at the start of a round the sessions meet: each one's place, counts and shown id counter become the greatest of all
abbrev pub greatest_place : List Session → ℕ
greatest_place = fold (λ m s. max m s.place) 0

abbrev pub greatest_counts : List ℕ → List Session → List ℕ
greatest_counts = fold (λ counts s. greater_counts counts s.counts)

abbrev pub greatest_next : List Session → ℕ
greatest_next = fold (λ m s. max m s.next_id) 0

abbrev pub raised_to : List Session → Session → Session
raised_to all s = record s {
  place = greatest_place all;
  counts = greatest_counts s.counts all;
  next_id = greatest_next all;
}

abbrev pub met : List Session → List Session
met sessions = map (raised_to sessions) sessions
