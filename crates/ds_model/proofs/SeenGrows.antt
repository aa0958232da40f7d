-- What a client has seen never shrinks: no reply lowers its place, one of its counts, or its shown id counter.
use Rattle.std.proofs.Common.{◌≡◌, ℕ, zero, suc, ◌≤◌, List, [], ◌∷◌, sym, subst, arith, Option, Some, None}
use Rattle.std.specs.Prelude.{Result, Ok, Err, ⊤}
use Rattle.ds_entity.specs.declared.results.Item.{Item}
use Rattle.ds_entity.specs.declared.results.Seen.{Seen}
use Rattle.ds_entity.specs.declared.results.Seen.TheVariants as seen
use Rattle.ds_base.specs.Keys.{KeyParts, root_of}
use Rattle.ds_query.specs.declared.query.Select.{Select}
use Rattle.ds_log.specs.declared.Entry.{Entry}
use Rattle.ds_log.specs.declared.Write.{Write}
use Rattle.ds_log.specs.Shards.{shard_of}
use Rattle.ds_request.specs.declared.call.Call.{Call}
use Rattle.ds_request.specs.declared.call.Call.TheVariants as call
use Rattle.ds_request.specs.declared.call.Request.{Request}
use Rattle.ds_reply.specs.declared.reply.WriteAt.{WriteAt}
use Rattle.ds_reply.specs.declared.reply.WriteAt.TheVariants as at
use Rattle.ds_reply.specs.declared.reply.Body.{Body}
use Rattle.ds_reply.specs.declared.reply.Body.TheVariants as body
use Rattle.ds_reply.specs.declared.reply.Reply.{Reply}
use Rattle.ds_rounds.specs.Rounds.{NumberedLine}
use Rattle.ds_model.specs.Answers.{WriteAnswers, ExpiredAnswers, ExpiredUnder, TransactionAnswers, CallAnswers, FoundOver, SearchAnswers}
use Rattle.ds_model.specs.Answers.{UnlessRefused, RequestAnswers, AskedAnswers, BodyAnswers, Answers, saw_group, begun}
use Rattle.ds_model.specs.Asked.{Search, Reading, search_of}
use Rattle.ds_model.specs.Groups.{touching, touching_if, writing, with_transaction}
use Rattle.ds_model.specs.Refusals.{Places}
use Rattle.ds_model.specs.Sessions.{Session, Transaction, saw_place, saw_counts, saw_shard_count, saw_entries, saw_next, next_above}
use Rattle.ds_model.specs.Sessions.{greater_counts, raised_at}
use Rattle.ds_model.specs.Worlds.{World, entries_up_to}

-- count by count, the second list is no lower
abbrev pub NoLower : List ℕ → List ℕ → Type 0
NoLower [] [] = ⊤
NoLower (c ∷ cs) (a ∷ counts) = (c ≤ a) × NoLower cs counts
NoLower _ _ = ⊥

-- the second session has seen all that the first had
pub record HasSeen (s t : Session) : Type 0 where
  pub place : s.place ≤ t.place
  pub counts : NoLower s.counts t.counts
  pub next : s.next_id ≤ t.next_id

pub same_counts : (cs : List ℕ) → NoLower cs cs
same_counts [] = tt
same_counts (c ∷ cs) = (omega arith, same_counts cs)

pub no_lower-then : (xs ys zs : List ℕ) → NoLower xs ys → NoLower ys zs → NoLower xs zs
no_lower-then [] [] zs first second = second
no_lower-then [] (y ∷ ys) zs first second = absurd first
no_lower-then (x ∷ xs) [] zs first second = absurd first
no_lower-then (x ∷ xs) (y ∷ ys) [] first second = absurd second
no_lower-then (x ∷ xs) (y ∷ ys) (z ∷ zs) first second = (omega (arith, first.0, second.0), no_lower-then xs ys zs first.1 second.1)

pub greater_no_lower : (cs counts : List ℕ) → NoLower cs (greater_counts cs counts)
greater_no_lower [] counts = tt
greater_no_lower (c ∷ cs) [] = same_counts (c ∷ cs)
greater_no_lower (c ∷ cs) (a ∷ counts) = (omega arith, greater_no_lower cs counts)

raised_no_lower : (shard count : ℕ) (cs : List ℕ) → NoLower cs (raised_at shard count cs)
raised_no_lower shard count [] = tt
raised_no_lower zero count (c ∷ cs) = (omega arith, same_counts cs)
raised_no_lower (suc shard) count (c ∷ cs) = (omega arith, raised_no_lower shard count cs)

-- ---- what raises a session

pub seen_same : (s : Session) → HasSeen s s
seen_same s = record { place = omega arith; counts = same_counts s.counts; next = omega arith }

pub seen_then : (s t u : Session) → HasSeen s t → HasSeen t u → HasSeen s u
seen_then s t u first second = record {
  place = omega (arith, first.place, second.place);
  counts = no_lower-then s.counts t.counts u.counts first.counts second.counts;
  next = omega (arith, first.next, second.next);
}

then_transaction : (s t : Session) (o : Option Transaction) → HasSeen s t → HasSeen s (with_transaction o t)
then_transaction s t o h = record { place = h.place; counts = h.counts; next = h.next }

then_place : (s t : Session) (m : ℕ) → HasSeen s t → HasSeen s (saw_place m t)
then_place s t m h = record { place = omega (arith, h.place); counts = h.counts; next = h.next }

then_next : (s t : Session) (next : ℕ) → HasSeen s t → HasSeen s (saw_next next t)
then_next s t next h = record { place = h.place; counts = h.counts; next = omega (arith, h.next) }

then_counts : (lists : List (List Entry)) (counts : List ℕ) (s t : Session) → HasSeen s t → HasSeen s (saw_counts lists counts t)
then_counts lists counts s t h = seen_then s t (saw_counts lists counts t) h (record { place = omega arith; counts = greater_no_lower t.counts counts; next = omega arith })

then_count : (lists : List (List Entry)) (shard count : ℕ) (s t : Session) → HasSeen s t → HasSeen s (saw_shard_count lists shard count t)
then_count lists shard count s t h = seen_then s t (saw_shard_count lists shard count t) h (record { place = omega arith; counts = raised_no_lower shard count t.counts; next = omega arith })

then_entries : (shard entries : ℕ) (s t : Session) → HasSeen s t → HasSeen s (saw_entries shard entries t)
then_entries shard entries s t h = seen_then s t (saw_entries shard entries t) h (record { place = omega arith; counts = raised_no_lower shard entries t.counts; next = omega arith })

is_seen : (s t later : Session) → later ≡ t → HasSeen s t → HasSeen s later
is_seen s t later same h = subst (HasSeen s) (sym same) h

-- ---- each answer

module _ (w : World) (s : Session) where
  placed : (m : ℕ) (o : Option Transaction) → HasSeen s (saw_place m (with_transaction o s))
  placed m o = then_place s (with_transaction o s) m (then_transaction s s o (seen_same s))

  by_write : (client : ℕ) (t : Option Transaction) (write : Write) (key : KeyParts) (place : WriteAt) (later : Session) → WriteAnswers w client s t write key place later → HasSeen s later
  by_write client None write key (at.Commit n) later a =
      is_seen s _ later a.1 (then_next s (saw_place n s) (next_above key.elems) (then_place s s n (seen_same s)))
  by_write client (Some t) write key (at.Place m) later a =
      is_seen s _ later a.1 (then_next s _ (next_above key.elems) (placed m (Some (writing write (touching (root_of key) m t)))))
  by_write client None write key (at.Place m) later a = absurd a
  by_write client (Some t) write key (at.Commit n) later a = absurd a

  by_group : (g : KeyParts) (m : ℕ) → HasSeen s (saw_group w g m s)
  by_group g m = then_entries (shard_of g w.shards) (entries_up_to w m (shard_of g w.shards)) s _ (placed m (touching_if g m s.transaction))

  by_expired : (g : KeyParts) (applied m snapshot : ℕ) (later : Session) → ExpiredAnswers w s g applied m snapshot later → HasSeen s later
  by_expired g applied m snapshot later a = is_seen s _ later a.seen (then_count w.lists (shard_of g w.shards) applied s _ (placed m None))

  by_transaction : (client : ℕ) (t : Option Transaction) (said : Body) (later : Session) → TransactionAnswers w client s t said later → HasSeen s later
  by_transaction client (Some t) (body.Commit n) later a = is_seen s _ later a.ended (placed n None)
  by_transaction client (Some t) (body.Conflict commit group m) later a = is_seen s _ later a.ended (placed m None)
  by_transaction client _ _ later a = absurd a

  by_call : (client : ℕ) (c : Call) (said : Body) (later : Session) → CallAnswers w client s c said later → HasSeen s later
  by_call client (call.Put key incomplete properties) (body.Put printed place) later a = by_write client s.transaction _ printed place later a.written
  by_call client (call.Put key incomplete properties) (body.IdNotIssued id next) later a = is_seen s _ later a.raised (then_next s s next (seen_same s))
  by_call client (call.Put key incomplete properties) (body.IdsExhausted next) later a = is_seen s _ later a.2.raised (then_next s s next (seen_same s))
  by_call client (call.Delete key) (body.Delete printed place) later a = by_write client s.transaction _ key place later a.1
  by_call client (call.Delete key) (body.IdNotIssued id next) later a = is_seen s _ later a.raised (then_next s s next (seen_same s))
  by_call client (call.Get key) (body.Get found m) later a = is_seen s _ later a.seen (by_group (root_of key) m)
  by_call client (call.Get key) (body.Expired applied m snapshot) later a = by_expired (root_of key) applied m snapshot later a
  by_call client (call.Begin several_groups) body.Begin later a = is_seen s _ later a (then_transaction s s (Some (begun several_groups)) (seen_same s))
  by_call client call.Commit said later a = by_transaction client s.transaction said later a
  by_call client call.Rollback body.Rollback later a = is_seen s _ later a (then_transaction s s None (seen_same s))
  by_call client call.Settle (body.Settle m counts) later a = is_seen s _ later a.seen (then_counts w.lists counts s _ (then_place s s m (seen_same s)))
  by_call client (call.AllocateIds count) (body.AllocateIds first printed) later a = is_seen s _ later a.1.raised (then_next s s _ (seen_same s))
  by_call client (call.AllocateIds count) (body.IdsExhausted next) later a = is_seen s _ later a.raised (then_next s s next (seen_same s))
  by_call client (call.Apply shard) (body.Apply applied count m printed) later a =
      is_seen s _ later a.1.seen (then_count w.lists shard count s _ (then_place s s m (seen_same s)))
  by_call client _ _ later a = absurd a

  by_found : (search : Search) (places : Places) (ancestor : Option KeyParts) (selected : Select) (results : List Item) (saw : Seen) (told : Option (List ℕ)) (later : Session) →
      FoundOver w s search places ancestor selected results saw told later → HasSeen s later
  by_found search places None selected results (seen.Counts counts) told later a = is_seen s _ later a.2 (then_counts w.lists counts s s (seen_same s))
  by_found search places (Some ancestor) selected results (seen.Place m) told later a = is_seen s _ later a.2 (by_group (root_of ancestor) m)
  by_found search places None selected results (seen.Place m) told later a = absurd a
  by_found search places (Some ancestor) selected results (seen.Counts counts) told later a = absurd a

  by_under : (ancestor : Option KeyParts) (applied m snapshot : ℕ) (later : Session) → ExpiredUnder w s ancestor applied m snapshot later → HasSeen s later
  by_under None applied m snapshot later a = absurd a
  by_under (Some ancestor) applied m snapshot later a = by_expired (root_of ancestor) applied m snapshot later a

  by_search : (c : Call) (search : Search) (places : Places) (said : Body) (later : Session) → SearchAnswers w s c search places said later → HasSeen s later
  by_search (call.Query namespace kind ancestor filters orders select offset limit start end cursor) search places (body.Query selected results saw told) later a =
      by_found search places search.query.ancestor selected results saw told later a
  by_search (call.Gql namespace text args names start end cursor) search places (body.Gql selected results saw told) later a =
      by_found search places search.query.ancestor selected results saw told later a
  by_search c search places (body.Expired applied m snapshot) later a = by_under search.query.ancestor applied m snapshot later a
  by_search _ search places _ later a = absurd a

  unless : {A : Type 0} (o : Option Body) (said : Body) (later : Session) → (A → HasSeen s later) → UnlessRefused o s said later A → HasSeen s later
  unless None said later f a = f a
  unless (Some refusal) said later f a = is_seen s s later a.1 (seen_same s)

  by_request : (client : ℕ) (c : Call) (o : Option (Result Search Body)) (said : Body) (later : Session) → RequestAnswers w client s c o said later → HasSeen s later
  by_request client c None said later a = unless _ said later (by_call client c said later) a
  by_request client c (Some (Err refusal)) said later a = is_seen s s later a.1 (seen_same s)
  by_request client c (Some (Ok search)) said later a = unless _ said later (by_search c search a.places said later) a.answered

  by_asked : (line : Result Request (ℕ × Body)) (said : Body) (later : Session) → AskedAnswers w s line said later → HasSeen s later
  by_asked (Err e) said later a = is_seen s s later a.1 (seen_same s)
  by_asked (Ok r) said later a = by_request r.client r.call (search_of r.call) said later a

  by_body : (line : Result Request (ℕ × Body)) (said : Body) (later : Session) → BodyAnswers w s line said later → HasSeen s later
  by_body line body.NoMemory later a = is_seen s s later a (seen_same s)
  by_body line said later a = by_asked line said later a

  pub never_shrinks : (reading : Reading) (line : NumberedLine) (reply : Reply) (later : Session) → Answers reading w s line reply later → HasSeen s later
  never_shrinks reading line reply later a = by_body (reading line.content) reply.body later a.said
