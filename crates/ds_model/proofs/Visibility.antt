-- What a client finds of what was committed: a strong read tells nothing of commits behind its place and isn't below what its client has
-- seen; a settled commit is counted by every later query; and after the sessions have met each client has seen what any had.
use Rattle.std.proofs.Common.{◌≡◌, ℕ, zero, suc, ◌+◌, ◌≤◌, inl, inr, List, [], ◌∷◌, ◌++◌, length, take, drop, fold, refl, ap, sym, ◌∙◌}
use Rattle.std.proofs.Common.{subst}
use Rattle.std.proofs.Common.{arith, append_assoc, Bool, length-append, Option, Some, None}
use Rattle.std.specs.Prelude.{Result, Ok, Err, All, map, max, filter, ⊤, ◌==◌}
use Rattle.std.proofs.lemmas.List.{length-take-le, take-append-drop}
use Rattle.std.proofs.lemmas.List.Elements.{All-nil, All-cons, All-head, All-tail, filter-append}
use Rattle.std.proofs.Math.Seq.{take-append_seam}
use Rattle.ds_entity.specs.declared.results.Item.{Item}
use Rattle.ds_entity.specs.declared.results.Seen.TheVariants as seen
use Rattle.ds_base.specs.Keys.{KeyParts, root_of}
use Rattle.ds_entity.specs.Entities.{EntityParts}
use Rattle.ds_query.specs.declared.query.Select.{Select}
use Rattle.ds_log.specs.declared.Commit.{Commit}
use Rattle.ds_log.specs.declared.Entry.{Entry}
use Rattle.ds_log.specs.After.{after}
use Rattle.ds_log.specs.Logs.{shard_list, commit_entries, entries_from, writes_of}
use Rattle.ds_log.specs.Shards.{shard_of}
use Rattle.ds_request.specs.declared.call.Call.{Call}
use Rattle.ds_request.specs.declared.call.Call.TheVariants as call
use Rattle.ds_request.specs.declared.call.Request.{Request}
use Rattle.ds_reply.specs.declared.reply.Body.{Body}
use Rattle.ds_reply.specs.declared.reply.Body.TheVariants as body
use Rattle.ds_reply.specs.declared.reply.Reply.{Reply}
use Rattle.ds_rounds.specs.Rounds.{NumberedLine}
use Rattle.ds_model.specs.Answers.{Answers, CallAnswers, SearchAnswers, TransactionAnswers, FoundOver, Finds, GetAnswers, CountsWithin}
use Rattle.ds_model.specs.Asked.{Reading, Search, client_of}
use Rattle.ds_model.specs.Groups.{StandsAt, place_in}
use Rattle.ds_model.specs.Legal.{ClientSteps, RoundSteps}
use Rattle.ds_model.specs.Refusals.{Places}
use Rattle.ds_model.specs.Results.{entity_of}
use Rattle.ds_model.specs.Sessions.{Session, Transaction, greater_counts, greatest_counts, met, raised_to}
use Rattle.ds_model.specs.Views.{strong_view}
use Rattle.ds_model.specs.Worlds.{World, entries_up_to}
use Rattle.ds_model.proofs.OkReplies.{OkAnswers, ReadingRefuses, ok_answers}
use Rattle.ds_model.proofs.SeenGrows.{HasSeen, NoLower, no_lower-then, greater_no_lower, same_counts, seen_same, seen_then, never_shrinks}

-- ---- strong reads

-- the strong view at a place is the same whatever follows the place
pub view_stays : (journal other : List Commit) (m : ℕ) → m ≤ length journal → strong_view (take m journal ++ other) m ≡ strong_view journal m
view_stays journal other m within =
    let first : length (take m journal) ≡ m = length-take-le m journal within in
    ap (λ (cs : List Commit). after (writes_of cs))
    (ap (λ n. take n (take m journal ++ other)) (sym first) ∙ take-append_seam (take m journal) other)

within_journal : (journal : List Commit) (s : Session) (o : Option ℕ) (m : ℕ) → StandsAt journal s o m → m ≤ length journal
within_journal journal s None m h = h.within
within_journal journal s (Some place) m h = h.1

-- A get tells nothing of a commit behind its place: it would tell the same over any journal that goes on otherwise.
pub get_up_to_place : (w : World) (s : Session) (key : KeyParts) (found : Option EntityParts) (m : ℕ) (later : Session) → GetAnswers w s key found m later → (other : List Commit) →
    found ≡ entity_of (strong_view (take m w.journal ++ other) m) key
get_up_to_place w s key found m later a other =
    a.exact ∙ ap (λ es. entity_of es key) (sym (view_stays w.journal other m (within_journal w.journal s (place_in s.transaction (root_of key)) m a.place)))

-- So does a query with an ancestor.
pub query_up_to_place : (w : World) (s : Session) (search : Search) (places : Places) (ancestor : KeyParts) (selected : Select) (results : List Item) (m : ℕ) (told : Option (List ℕ)) (later : Session) →
    FoundOver w s search places (Some ancestor) selected results (seen.Place m) told later → (other : List Commit) →
    Finds search places (strong_view (take m w.journal ++ other) m) selected results told
query_up_to_place w s search places ancestor selected results m told later a other =
    subst (λ es. Finds search places es selected results told)
    (sym (view_stays w.journal other m (within_journal w.journal s (place_in s.transaction (root_of ancestor)) m a.0))) a.1

-- Outside a transaction a get stands no lower than what its client has seen, its own commits among it.
module _ (w : World) (s later : Session) (found : Option EntityParts) (m : ℕ) where
  stands : (o : Option Transaction) (g : KeyParts) → o ≡ None → StandsAt w.journal s (place_in o g) m → s.place ≤ m
  stands None g outside a = a.seen
  stands (Some t) g outside a = cc

  by_transaction : (client : ℕ) (t : Option Transaction) → TransactionAnswers w client s t (body.Get found m) later → ⊥
  by_transaction client None a = a
  by_transaction client (Some t) a = a

  by_call : (client : ℕ) (c : Call) → s.transaction ≡ None → CallAnswers w client s c (body.Get found m) later → s.place ≤ m
  by_call client (call.Get key) outside a = stands s.transaction (root_of key) outside a.place
  by_call client call.Commit outside a = absurd (by_transaction client s.transaction a)
  by_call client _ outside a = absurd a

  by_search : (c : Call) (search : Search) (places : Places) → SearchAnswers w s c search places (body.Get found m) later → ⊥
  by_search (call.Query namespace kind ancestor filters orders select offset limit start end cursor) search places a = a
  by_search (call.Gql namespace text args names start end cursor) search places a = a
  by_search _ search places a = a

  by_asked : (line : Result Request (ℕ × Body)) → s.transaction ≡ None → OkAnswers w s line (body.Get found m) later → s.place ≤ m
  by_asked (Err e) outside a = absurd a
  by_asked (Ok r) outside (inl a) = by_call r.client r.call outside a
  by_asked (Ok r) outside (inr (search, places, a)) = absurd (by_search r.call search places a)

  pub get_above_seen : (reading : Reading) → ReadingRefuses reading → (line : NumberedLine) (client number : ℕ) → s.transaction ≡ None →
      Answers reading w s line (record { client = client; line = number; body = body.Get found m }) later → s.place ≤ m
  get_above_seen reading refuses line client number outside a =
      by_asked (reading line.content) outside (ok_answers w s later reading refuses line (record { client = client; line = number; body = body.Get found m }) refl a)

-- ---- counts

-- of each shard, from the first one's number on, at least all entries of the first n commits
abbrev pub Covers : World → ℕ → ℕ → List ℕ → Type 0
Covers w n shard [] = ⊤
Covers w n shard (count ∷ counts) = (entries_up_to w n shard ≤ count) × Covers w n (shard + 1) counts

filter-length : (p : Entry → Bool) (xs ys : List Entry) → length (filter p xs) ≤ length (filter p (xs ++ ys))
filter-length p xs ys = omega (arith, ap (λ (es : List Entry). length es) (filter-append p xs ys), length-append (filter p xs) (filter p ys))

entries_from-append : (n : ℕ) (xs ys : List Commit) → (behind : List Entry) × (entries_from n (xs ++ ys) ≡ entries_from n xs ++ behind)
entries_from-append n [] ys = (entries_from n ys, refl)
entries_from-append n (x ∷ xs) ys =
    let rest = entries_from-append (n + 1) xs ys in
    let first = commit_entries n x in
    (rest.0, ap (λ es. first ++ es) rest.1 ∙ sym (append_assoc first (entries_from (n + 1) xs) rest.0))

take-less : (n m : ℕ) (cs : List Commit) → n ≤ m → take n (take m cs) ≡ take n cs
take-less zero m cs below = refl
take-less (suc n) zero cs below = absurd (omega (arith, below))
take-less (suc n) (suc m) [] below = refl
take-less (suc n) (suc m) (c ∷ cs) below = ap (λ ds. c ∷ ds) (take-less n m cs (omega (arith, below)))

-- of more commits a shard has no fewer entries
more_entries : (w : World) (n m shard : ℕ) → n ≤ m → entries_up_to w n shard ≤ entries_up_to w m shard
more_entries w n m shard below =
    let rest : List Commit = drop n (take m w.journal) in
    let split : take m w.journal ≡ take n w.journal ++ rest = sym (take-append-drop n (take m w.journal)) ∙ ap (λ cs. cs ++ rest) (take-less n m w.journal below) in
    let entries = entries_from-append 1 (take n w.journal) rest in
    let kept = filter-length (λ e. shard_of e.group w.shards == shard) (entries_from 1 (take n w.journal)) entries.0 in
    let same : entries_up_to w m shard ≡ length (filter (λ e. shard_of e.group w.shards == shard) (entries_from 1 (take n w.journal) ++ entries.0)) =
    ap (λ (cs : List Commit). length (shard_list cs shard w.shards)) split ∙ ap (λ (es : List Entry). length (filter (λ e. shard_of e.group w.shards == shard) es)) entries.1 in
    omega (arith, kept, same)

covers_fewer : (w : World) (n m shard : ℕ) (counts : List ℕ) → n ≤ m → Covers w m shard counts → Covers w n shard counts
covers_fewer w n m shard [] below covers = tt
covers_fewer w n m shard (count ∷ counts) below covers =
    (omega (arith, more_entries w n m shard below, covers.0), covers_fewer w n m (shard + 1) counts below covers.1)

covers_more : (w : World) (n shard : ℕ) (counts more : List ℕ) → NoLower counts more → Covers w n shard counts → Covers w n shard more
covers_more w n shard [] [] higher covers = tt
covers_more w n shard [] (m ∷ more) higher covers = absurd higher
covers_more w n shard (c ∷ counts) [] higher covers = absurd higher
covers_more w n shard (c ∷ counts) (m ∷ more) higher covers = (omega (arith, higher.0, covers.0), covers_more w n (shard + 1) counts more higher.1 covers.1)

within_covers : (w : World) (n shard : ℕ) (before : List ℕ) (lists : List (List Entry)) (counts : List ℕ) → CountsWithin (entries_up_to w n) shard before lists counts → Covers w n shard (greater_counts before counts)
within_covers w n shard [] [] [] within = tt
within_covers w n shard (c ∷ before) (entries ∷ lists) (count ∷ counts) within =
    (omega (arith, within.1), within_covers w n (shard + 1) before lists counts within.3)
within_covers w n shard _ _ _ within = absurd within

within_higher : (least : ℕ → ℕ) (shard : ℕ) (before : List ℕ) (lists : List (List Entry)) (counts : List ℕ) → CountsWithin least shard before lists counts → NoLower before counts
within_higher least shard [] [] [] within = tt
within_higher least shard (c ∷ before) (entries ∷ lists) (count ∷ counts) within = (within.0, within_higher least (shard + 1) before lists counts within.3)
within_higher least shard _ _ _ within = absurd within

-- the first entries of a shard are those of the first commits: to count as many is to see them all
pub first_entries : (w : World) (n shard : ℕ) → take (entries_up_to w n shard) (shard_list w.journal shard w.shards) ≡ shard_list (take n w.journal) shard w.shards
first_entries w n shard =
    let first : List Entry = entries_from 1 (take n w.journal) in
    let entries = entries_from-append 1 (take n w.journal) (drop n w.journal) in
    let whole : entries_from 1 w.journal ≡ first ++ entries.0 = ap (entries_from 1) (sym (take-append-drop n w.journal)) ∙ entries.1 in
    ap (take (entries_up_to w n shard)) (ap (filter (λ (e : Entry). shard_of e.group w.shards == shard)) whole ∙ filter-append (λ (e : Entry). shard_of e.group w.shards == shard) first entries.0)
    ∙ take-append_seam (filter (λ (e : Entry). shard_of e.group w.shards == shard) first) (filter (λ (e : Entry). shard_of e.group w.shards == shard) entries.0)

-- ---- a settle, and a later query

module _ (w : World) (s later : Session) where
  settle-transaction : (client : ℕ) (t : Option Transaction) (m : ℕ) (counts : List ℕ) → TransactionAnswers w client s t (body.Settle m counts) later → ⊥
  settle-transaction client None m counts a = a
  settle-transaction client (Some t) m counts a = a

  settle-call : (client : ℕ) (c : Call) (m : ℕ) (counts : List ℕ) → CallAnswers w client s c (body.Settle m counts) later → (s.place ≤ m) × Covers w m 0 later.counts
  settle-call client call.Settle m counts a =
      (a.place.seen, subst (λ (t : Session). Covers w m 0 t.counts) (sym a.seen) (within_covers w m 0 s.counts w.lists counts a.applied))
  settle-call client call.Commit m counts a = absurd (settle-transaction client s.transaction m counts a)
  settle-call client _ m counts a = absurd a

  settle-search : (c : Call) (search : Search) (places : Places) (m : ℕ) (counts : List ℕ) → SearchAnswers w s c search places (body.Settle m counts) later → ⊥
  settle-search (call.Query namespace kind ancestor filters orders select offset limit start end cursor) search places m counts a = a
  settle-search (call.Gql namespace text args names start end cursor) search places m counts a = a
  settle-search _ search places m counts a = a

  settle-asked : (line : Result Request (ℕ × Body)) (m : ℕ) (counts : List ℕ) → OkAnswers w s line (body.Settle m counts) later → (s.place ≤ m) × Covers w m 0 later.counts
  settle-asked (Err e) m counts a = absurd a
  settle-asked (Ok r) m counts (inl a) = settle-call r.client r.call m counts a
  settle-asked (Ok r) m counts (inr (search, places, a)) = absurd (settle-search r.call search places m counts a)

  -- After a settle the client has counted all that it had seen, and all up to the printed place.
  pub settled : (reading : Reading) → ReadingRefuses reading → (line : NumberedLine) (client number m : ℕ) (counts : List ℕ) →
      Answers reading w s line (record { client = client; line = number; body = body.Settle m counts }) later → (s.place ≤ m) × Covers w m 0 later.counts
  settled reading refuses line client number m counts a =
      settle-asked (reading line.content) m counts
      (ok_answers w s later reading refuses line (record { client = client; line = number; body = body.Settle m counts }) refl a)

  module _ (selected : Select) (results : List Item) (counts : List ℕ) (told : Option (List ℕ)) where
    found-counts : (search : Search) (places : Places) (ancestor : Option KeyParts) → FoundOver w s search places ancestor selected results (seen.Counts counts) told later → NoLower s.counts counts
    found-counts search places None a = within_higher (λ shard. 0) 0 s.counts w.lists counts a.0
    found-counts search places (Some ancestor) a = absurd a

    query-transaction : (client : ℕ) (t : Option Transaction) → TransactionAnswers w client s t (body.Query selected results (seen.Counts counts) told) later → ⊥
    query-transaction client None a = a
    query-transaction client (Some t) a = a

    query-call : (client : ℕ) (c : Call) → CallAnswers w client s c (body.Query selected results (seen.Counts counts) told) later → ⊥
    query-call client call.Commit a = query-transaction client s.transaction a
    query-call client _ a = a

    query-search : (c : Call) (search : Search) (places : Places) → SearchAnswers w s c search places (body.Query selected results (seen.Counts counts) told) later → NoLower s.counts counts
    query-search (call.Query namespace kind ancestor filters orders select offset limit start end cursor) search places a = found-counts search places search.query.ancestor a
    query-search _ search places a = absurd a

    query-asked : (line : Result Request (ℕ × Body)) → OkAnswers w s line (body.Query selected results (seen.Counts counts) told) later → NoLower s.counts counts
    query-asked (Err e) a = absurd a
    query-asked (Ok r) (inl a) = absurd (query-call r.client r.call a)
    query-asked (Ok r) (inr (search, places, a)) = query-search r.call search places a

    -- A query without an ancestor counts no less than its client has seen; so what was settled before is seen.
    pub query_counts : (reading : Reading) → ReadingRefuses reading → (line : NumberedLine) (client number n : ℕ) →
        Answers reading w s line (record { client = client; line = number; body = body.Query selected results (seen.Counts counts) told }) later →
        Covers w n 0 s.counts → Covers w n 0 counts
    query_counts reading refuses line client number n a covers =
        covers_more w n 0 s.counts counts
        (query-asked (reading line.content) (ok_answers w s later reading refuses line (record { client = client; line = number; body = body.Query selected results (seen.Counts counts) told }) refl a))
        covers

-- What a session covers every later one covers, and what covers more commits covers fewer.
pub later_covers : (w : World) (n m : ℕ) (s t : Session) → HasSeen s t → n ≤ m → Covers w m 0 s.counts → Covers w n 0 t.counts
later_covers w n m s t h below covers = covers_more w n 0 s.counts t.counts h.counts (covers_fewer w n m 0 s.counts below covers)

-- ---- the meeting of the sessions

place-least : (m : ℕ) (ss : List Session) → m ≤ fold (λ m (s : Session). max m s.place) m ss
place-least m [] = omega arith
place-least m (s ∷ ss) = omega (arith, place-least (max m s.place) ss)

place-all : (m : ℕ) (ss : List Session) → All (λ (s : Session). s.place ≤ fold (λ m (s : Session). max m s.place) m ss) ss
place-all m [] = All-nil (λ (s : Session). s.place ≤ m)
place-all m (s ∷ ss) =
    All-cons (λ (t : Session). t.place ≤ fold (λ m (s : Session). max m s.place) (max m s.place) ss) s ss (omega (arith, place-least (max m s.place) ss)) (place-all (max m s.place) ss)

next-least : (m : ℕ) (ss : List Session) → m ≤ fold (λ m (s : Session). max m s.next_id) m ss
next-least m [] = omega arith
next-least m (s ∷ ss) = omega (arith, next-least (max m s.next_id) ss)

next-all : (m : ℕ) (ss : List Session) → All (λ (s : Session). s.next_id ≤ fold (λ m (s : Session). max m s.next_id) m ss) ss
next-all m [] = All-nil (λ (s : Session). s.next_id ≤ m)
next-all m (s ∷ ss) =
    All-cons (λ (t : Session). t.next_id ≤ fold (λ m (s : Session). max m s.next_id) (max m s.next_id) ss) s ss (omega (arith, next-least (max m s.next_id) ss)) (next-all (max m s.next_id) ss)

greater-second : (cs counts : List ℕ) → length cs ≡ length counts → NoLower counts (greater_counts cs counts)
greater-second [] [] same = tt
greater-second [] (a ∷ counts) same = absurd (omega (arith, same))
greater-second (c ∷ cs) [] same = absurd (omega (arith, same))
greater-second (c ∷ cs) (a ∷ counts) same = (omega arith, greater-second cs counts (omega (arith, same)))

greater-length : (cs counts : List ℕ) → length (greater_counts cs counts) ≡ length cs
greater-length [] counts = refl
greater-length (c ∷ cs) [] = refl
greater-length (c ∷ cs) (a ∷ counts) = omega (arith, greater-length cs counts)

counts-least : (cs : List ℕ) (ss : List Session) → NoLower cs (greatest_counts cs ss)
counts-least cs [] = same_counts cs
counts-least cs (s ∷ ss) =
    no_lower-then cs (greater_counts cs s.counts) (greatest_counts (greater_counts cs s.counts) ss) (greater_no_lower cs s.counts) (counts-least (greater_counts cs s.counts) ss)

counts-all : (k : ℕ) (cs : List ℕ) (ss : List Session) → length cs ≡ k → All (λ (s : Session). length s.counts ≡ k) ss → All (λ (s : Session). NoLower s.counts (greatest_counts cs ss)) ss
counts-all k cs [] own all = All-nil (λ (s : Session). NoLower s.counts cs)
counts-all k cs (s ∷ ss) own all =
    let same : length s.counts ≡ k = All-head (λ (s : Session). length s.counts ≡ k) s ss all in
    All-cons (λ (t : Session). NoLower t.counts (greatest_counts (greater_counts cs s.counts) ss)) s ss
    (no_lower-then s.counts (greater_counts cs s.counts) (greatest_counts (greater_counts cs s.counts) ss) (greater-second cs s.counts (own ∙ sym same)) (counts-least (greater_counts cs s.counts) ss))
    (counts-all k (greater_counts cs s.counts) ss (greater-length cs s.counts ∙ own) (All-tail (λ (s : Session). length s.counts ≡ k) s ss all))

all_three : (u : Session) (ss : List Session) → All (λ (s : Session). s.place ≤ u.place) ss → All (λ (s : Session). NoLower s.counts u.counts) ss → All (λ (s : Session). s.next_id ≤ u.next_id) ss → All (λ (s : Session). HasSeen s u) ss
all_three u [] places counts nexts = All-nil (λ (s : Session). HasSeen s u)
all_three u (s ∷ ss) places counts nexts =
    All-cons (λ (s : Session). HasSeen s u) s ss (record {
      place = All-head (λ (s : Session). s.place ≤ u.place) s ss places;
      counts = All-head (λ (s : Session). NoLower s.counts u.counts) s ss counts;
      next = All-head (λ (s : Session). s.next_id ≤ u.next_id) s ss nexts;
    })
    (all_three u ss (All-tail (λ (s : Session). s.place ≤ u.place) s ss places) (All-tail (λ (s : Session). NoLower s.counts u.counts) s ss counts) (All-tail (λ (s : Session). s.next_id ≤ u.next_id) s ss nexts))

-- After the meeting at the start of a round each client has seen what any client had.
pub met_has_seen : (k : ℕ) (sessions : List Session) (t : Session) → All (λ (s : Session). length s.counts ≡ k) sessions → length t.counts ≡ k → All (λ (s : Session). HasSeen s (raised_to sessions t)) sessions
met_has_seen k sessions t all own =
    all_three (raised_to sessions t) sessions (place-all 0 sessions) (counts-all k t.counts sessions own all) (next-all 0 sessions)

-- ---- from round to round

-- what a client has seen never shrinks from line to line
pub steps_seen : (reading : Reading) (w : World) (s : Session) (lines : List NumberedLine) (replies : List Reply) (t : Session) → ClientSteps reading w s lines replies t → HasSeen s t
steps_seen reading w s [] [] t steps = subst (HasSeen s) (sym steps) (seen_same s)
steps_seen reading w s [] (r ∷ replies) t steps = absurd steps
steps_seen reading w s (l ∷ lines) [] t steps = absurd steps
steps_seen reading w s (l ∷ lines) (r ∷ replies) t (next, first, rest) =
    seen_then s next t (never_shrinks w s reading l r next first) (steps_seen reading w next lines replies t rest)

-- each session has seen what the one at its place had
abbrev pub HaveSeen : List Session → List Session → Type 0
HaveSeen [] [] = ⊤
HaveSeen (s ∷ ss) (t ∷ ts) = HasSeen s t × HaveSeen ss ts
HaveSeen _ _ = ⊥

pub round_seen : (reading : Reading) (w : World) (round : List NumberedLine) (client : ℕ) (sessions : List Session) (replies : List Reply) (after : List Session) →
    RoundSteps reading w round client sessions replies after → HaveSeen sessions after
round_seen reading w round client [] replies after steps = subst (HaveSeen []) (sym steps.1) tt
round_seen reading w round client (s ∷ sessions) replies [] steps = absurd steps
round_seen reading w round client (s ∷ sessions) replies (t ∷ after) (own, others, whole, first, rest) =
    (steps_seen reading w s (filter (λ line. client_of reading line.content == client) round) own t first, round_seen reading w round (client + 1) sessions others after rest)

same_length : (cs counts : List ℕ) → NoLower cs counts → length counts ≡ length cs
same_length [] [] higher = refl
same_length [] (a ∷ counts) higher = absurd higher
same_length (c ∷ cs) [] higher = absurd higher
same_length (c ∷ cs) (a ∷ counts) higher = omega (arith, same_length cs counts higher.1)

-- all sessions have one count for each of so many shards
abbrev HaveCounts : ℕ → List Session → Type 0
HaveCounts k = All (λ (s : Session). length s.counts ≡ k)

counts_kept : (k : ℕ) (ss ts : List Session) → HaveSeen ss ts → HaveCounts k ss → HaveCounts k ts
counts_kept k [] [] seen all = all
counts_kept k [] (t ∷ ts) seen all = absurd seen
counts_kept k (s ∷ ss) [] seen all = absurd seen
counts_kept k (s ∷ ss) (t ∷ ts) seen all =
    All-cons (λ (s : Session). length s.counts ≡ k) t ts (same_length s.counts t.counts seen.0.counts ∙ All-head (λ (s : Session). length s.counts ≡ k) s ss all)
    (counts_kept k ss ts seen.1 (All-tail (λ (s : Session). length s.counts ≡ k) s ss all))

met_have_counts : (k : ℕ) (sessions ss : List Session) → HaveCounts k sessions → HaveCounts k ss → HaveCounts k (map (raised_to sessions) ss)
met_have_counts k sessions [] all own = All-nil (λ (s : Session). length s.counts ≡ k)
met_have_counts k sessions (s ∷ ss) all own =
    All-cons (λ (s : Session). length s.counts ≡ k) (raised_to sessions s) (map (raised_to sessions) ss)
    (greatest-length s.counts sessions ∙ All-head (λ (s : Session). length s.counts ≡ k) s ss own)
    (met_have_counts k sessions ss all (All-tail (λ (s : Session). length s.counts ≡ k) s ss own)) where
      greatest-length : (cs : List ℕ) (all : List Session) → length (greatest_counts cs all) ≡ length cs
      greatest-length cs [] = refl
      greatest-length cs (t ∷ all) = greatest-length (greater_counts cs t.counts) all ∙ greater-length cs t.counts

-- each of these sessions has seen all that these had
abbrev pub AllHaveSeen : List Session → List Session → Type 0
AllHaveSeen sessions = All (λ (u : Session). All (λ (s : Session). HasSeen s u) sessions)

met_all : (k : ℕ) (sessions ss : List Session) → HaveCounts k sessions → HaveCounts k ss → AllHaveSeen sessions (map (raised_to sessions) ss)
met_all k sessions [] all own = All-nil (λ (u : Session). All (λ (s : Session). HasSeen s u) sessions)
met_all k sessions (t ∷ ss) all own =
    All-cons (λ (u : Session). All (λ (s : Session). HasSeen s u) sessions) (raised_to sessions t) (map (raised_to sessions) ss)
    (met_has_seen k sessions t all (All-head (λ (s : Session). length s.counts ≡ k) t ss own)) (met_all k sessions ss all (All-tail (λ (s : Session). length s.counts ≡ k) t ss own))

seen_more : (sessions : List Session) (u v : Session) → HasSeen u v → All (λ (s : Session). HasSeen s u) sessions → All (λ (s : Session). HasSeen s v) sessions
seen_more [] u v h all = All-nil (λ (s : Session). HasSeen s v)
seen_more (s ∷ sessions) u v h all =
    All-cons (λ (s : Session). HasSeen s v) s sessions (seen_then s u v (All-head (λ (s : Session). HasSeen s u) s sessions all) h)
    (seen_more sessions u v h (All-tail (λ (s : Session). HasSeen s u) s sessions all))

all_later : (sessions us vs : List Session) → HaveSeen us vs → AllHaveSeen sessions us → AllHaveSeen sessions vs
all_later sessions [] [] seen all = all
all_later sessions [] (v ∷ vs) seen all = absurd seen
all_later sessions (u ∷ us) [] seen all = absurd seen
all_later sessions (u ∷ us) (v ∷ vs) seen all =
    All-cons (λ (u : Session). All (λ (s : Session). HasSeen s u) sessions) v vs
    (seen_more sessions u v seen.0 (All-head (λ (u : Session). All (λ (s : Session). HasSeen s u) sessions) u us all))
    (all_later sessions us vs seen.1 (All-tail (λ (u : Session). All (λ (s : Session). HasSeen s u) sessions) u us all))

-- After a round each client has seen what any client had seen before it.
pub round_all_seen : (reading : Reading) (w : World) (k : ℕ) (round : List NumberedLine) (sessions : List Session) (replies : List Reply) (after : List Session) → HaveCounts k sessions →
    RoundSteps reading w round 0 (met sessions) replies after → AllHaveSeen sessions after × HaveCounts k after
round_all_seen reading w k round sessions replies after counts steps =
    let seen = round_seen reading w round 0 (met sessions) replies after steps in
    (all_later sessions (met sessions) after seen (met_all k sessions sessions counts counts), counts_kept k (met sessions) after seen (met_have_counts k sessions sessions counts counts))

-- ---- what a client finds of its own commits, and of others' that it was shown

-- A commit whose number a reply told isn't above the place of the client's next get outside a transaction, whatever stands between.
pub commit_then_get : (reading : Reading) → ReadingRefuses reading → (w : World) (t u later : Session) (n m : ℕ) (found : Option EntityParts) (line : NumberedLine) (client number : ℕ) → n ≤ t.place → HasSeen t u → u.transaction ≡ None →
    Answers reading w u line (record { client = client; line = number; body = body.Get found m }) later → n ≤ m
commit_then_get reading refuses w t u later n m found line client number shown between outside a =
    omega (arith, shown, between.place, get_above_seen w u later found m reading refuses line client number outside a)

-- After a settle it is counted by every later query without an ancestor: also by another client's, once the sessions have met.
pub commit_then_settle : (reading : Reading) → ReadingRefuses reading → (w : World) (t u settled_at v later : Session) (n m : ℕ) (line other : NumberedLine) (client number second third : ℕ) (counts told : List ℕ)
    (selected : Select) (results : List Item) (cursor : Option (List ℕ)) → n ≤ t.place → HasSeen t u →
    Answers reading w u line (record { client = client; line = number; body = body.Settle m counts }) settled_at → HasSeen settled_at v →
    Answers reading w v other (record { client = second; line = third; body = body.Query selected results (seen.Counts told) cursor }) later → Covers w n 0 told
commit_then_settle reading refuses w t u settled_at v later n m line other client number second third counts told selected results cursor shown between settle after query =
    let all = settled w u settled_at reading refuses line client number m counts settle in
    let below : n ≤ m = omega (arith, shown, between.place, all.0) in
    query_counts w v later selected results told cursor reading refuses other second third n query (later_covers w n m settled_at v after below all.1)
