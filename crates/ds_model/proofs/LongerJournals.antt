-- An answer over a journal and its shards' lists is one over every journal and lists that begin with these.
use Rattle.std.proofs.Common.{◌≡◌, ℕ, zero, suc, ◌+◌, ◌-◌, ◌<◌, ◌≤◌, List, [], ◌∷◌, ◌++◌, length, take, refl, ap, sym, ◌∙◌, subst, Bool}
use Rattle.std.proofs.Common.{arith}
use Rattle.std.proofs.Common.{length-append, Option, Some, None}
use Rattle.std.specs.Prelude.{slice_get, max, Result, Ok, Err, unwrap_or, ⊤}
use Rattle.std.proofs.lemmas.List.{take-append-le}
use Rattle.std.proofs.lemmas.Option.{slice_get_within}
use Rattle.ds_entity.specs.declared.results.Item.{Item}
use Rattle.ds_entity.specs.declared.results.Seen.{Seen}
use Rattle.ds_entity.specs.declared.results.Seen.TheVariants as seen
use Rattle.ds_base.specs.Keys.{KeyParts, root_of}
use Rattle.ds_entity.specs.Entities.{EntityParts}
use Rattle.ds_query.specs.declared.query.Select.{Select}
use Rattle.ds_log.specs.declared.Commit.{Commit}
use Rattle.ds_log.specs.declared.Entry.{Entry}
use Rattle.ds_log.specs.declared.Write.{Write}
use Rattle.ds_log.specs.After.{after}
use Rattle.ds_log.specs.Conflicts.{conflict_of, IsCommitted}
use Rattle.ds_log.specs.Logs.{shard_list, writes_of, entry_writes}
use Rattle.ds_log.specs.Shards.{shard_of}
use Rattle.ds_request.specs.declared.call.Call.{Call}
use Rattle.ds_request.specs.declared.call.Call.TheVariants as call
use Rattle.ds_request.specs.declared.call.Request.{Request}
use Rattle.ds_reply.specs.declared.reply.WriteAt.{WriteAt}
use Rattle.ds_reply.specs.declared.reply.WriteAt.TheVariants as at
use Rattle.ds_reply.specs.declared.reply.Body.{Body}
use Rattle.ds_reply.specs.declared.reply.Body.TheVariants as body
use Rattle.ds_reply.specs.declared.reply.Reply.{Reply}
use Rattle.ds_rounds.specs.Rounds.{NumberedLine}
use Rattle.ds_model.specs.Answers.{CommitsAlone, WriteAnswers, GetAnswers, ExpiredAnswers, ExpiredUnder, CountsWithin, SettleAnswers}
use Rattle.ds_model.specs.Answers.{AppliedCount, ApplyAnswers, CommitAnswers, ConflictAnswers, TransactionAnswers, CallAnswers, commit_of}
use Rattle.ds_model.specs.Answers.{Finds, FoundOver, SearchAnswers, UnlessRefused, RequestAnswers, AskedAnswers, BodyAnswers}
use Rattle.ds_model.specs.Answers.{Answers, saw_group}
use Rattle.ds_model.specs.Asked.{Search, Reading, search_of}
use Rattle.ds_model.specs.Groups.{IsSeenPlace, StandsAt, place_in, touching_if, with_transaction}
use Rattle.ds_model.specs.Refusals.{Places}
use Rattle.ds_model.specs.Results.{entity_of}
use Rattle.ds_model.specs.Sessions.{Session, Transaction, last_commit, list_of, counted_place, greater_counts, raised_at, saw_shard_count}
use Rattle.ds_model.specs.Sessions.{saw_counts}
use Rattle.ds_model.specs.Sessions.{saw_entries, saw_place}
use Rattle.ds_model.specs.Views.{strong_view, counted}
use Rattle.ds_model.specs.Worlds.{World, entries_up_to}

-- each list begins with the one at its place
abbrev pub AreLonger : List (List Entry) → List (List Entry) → Type 0
AreLonger [] [] = ⊤
AreLonger (entries ∷ lists) (longer ∷ others) = ((behind : List Entry) × (longer ≡ entries ++ behind)) × AreLonger lists others
AreLonger _ _ = ⊥

-- the world with a journal and lists that go on
abbrev pub grown : World → List Commit → List (List Entry) → World
grown w more lists = record w { journal = w.journal ++ more; lists = lists }

-- ---- the journal

take-grown : (m : ℕ) (journal more : List Commit) → m ≤ length journal → take m (journal ++ more) ≡ take m journal
take-grown m journal more within = take-append-le {A = Commit} m journal more within

slice-grown : (journal more : List Commit) (i : ℕ) (c : Commit) → slice_get journal i ≡ Some c → slice_get (journal ++ more) i ≡ Some c
slice-grown [] more i c is = cc
slice-grown (d ∷ journal) more zero c is = is
slice-grown (d ∷ journal) more (suc i) c is = slice-grown journal more i c is

up_to-grown : (w : World) (more : List Commit) (lists : List (List Entry)) (m shard : ℕ) → m ≤ length w.journal → entries_up_to (grown w more lists) m shard ≡ entries_up_to w m shard
up_to-grown w more lists m shard within = ap (λ (cs : List Commit). length (shard_list cs shard w.shards)) (take-grown m w.journal more within)

seen-grown : (journal more : List Commit) (s : Session) (m : ℕ) → IsSeenPlace journal s m → IsSeenPlace (journal ++ more) s m
seen-grown journal more s m h = record { seen = h.seen; within = omega (arith, h.within, length-append journal more) }

stands-grown : (journal more : List Commit) (s : Session) (o : Option ℕ) (m : ℕ) → StandsAt journal s o m → StandsAt (journal ++ more) s o m
stands-grown journal more s None m h = seen-grown journal more s m h
stands-grown journal more s (Some place) m h = (h.0, omega (arith, h.1, length-append journal more))

stands-within : (journal : List Commit) (s : Session) (o : Option ℕ) (m : ℕ) → StandsAt journal s o m → m ≤ length journal
stands-within journal s None m h = h.within
stands-within journal s (Some place) m h = h.1

-- ---- the lists

list-grown : (lists longer : List (List Entry)) (shard : ℕ) → AreLonger lists longer → (behind : List Entry) × (list_of longer shard ≡ list_of lists shard ++ behind)
list-grown [] [] shard h = ([], refl)
list-grown [] (f ∷ longer) shard h = absurd h
list-grown (e ∷ lists) [] shard h = absurd h
list-grown (e ∷ lists) (f ∷ longer) zero h = h.0
list-grown (e ∷ lists) (f ∷ longer) (suc shard) h = list-grown lists longer shard h.1

list-within : (lists longer : List (List Entry)) (shard count : ℕ) → AreLonger lists longer → count ≤ length (list_of lists shard) → count ≤ length (list_of longer shard)
list-within lists longer shard count h within =
    let more = list-grown lists longer shard h in
    omega (arith, within, ap (λ (es : List Entry). length es) more.1, length-append (list_of lists shard) more.0)

saw-grown : (lists longer : List (List Entry)) (shard count : ℕ) (s : Session) → AreLonger lists longer → count ≤ length (list_of lists shard) → saw_shard_count longer shard count s ≡ saw_shard_count lists shard count s
saw-grown lists longer shard count s h within =
    let more = list-grown lists longer shard h in
    let same : take count (list_of longer shard) ≡ take count (list_of lists shard) =
    ap (λ (es : List Entry). take count es) more.1 ∙ take-append-le {A = Entry} count (list_of lists shard) more.0 within in
    ap (λ (es : List Entry). record s { place = max s.place (last_commit es); counts = raised_at shard count s.counts }) same

counts-grown : (least : ℕ → ℕ) (shard : ℕ) (lists longer : List (List Entry)) (cs counts : List ℕ) → AreLonger lists longer → CountsWithin least shard cs lists counts → CountsWithin least shard cs longer counts
counts-grown least shard [] [] cs counts h within = within
counts-grown least shard [] (f ∷ longer) cs counts h within = absurd h
counts-grown least shard (e ∷ lists) [] cs counts h within = absurd h
counts-grown least shard (e ∷ lists) (f ∷ longer) (c ∷ cs) (a ∷ counts) h within = (
  within.0,
  within.1,
  omega (arith, within.2, ap (λ (es : List Entry). length es) h.0.1, length-append e h.0.0),
  counts-grown least (shard + 1) lists longer cs counts h.1 within.3,
)
counts-grown least shard (e ∷ lists) (f ∷ longer) _ _ h within = absurd within

-- the counted entries are the same
take-same : (count : ℕ) (entries longer : List Entry) → (behind : List Entry) × (longer ≡ entries ++ behind) → count ≤ length entries → take count longer ≡ take count entries
take-same count entries longer more within = ap (λ (es : List Entry). take count es) more.1 ∙ take-append-le {A = Entry} count entries more.0 within

counted-grown : (least : ℕ → ℕ) (shard : ℕ) (lists longer : List (List Entry)) (cs counts : List ℕ) → AreLonger lists longer → CountsWithin least shard cs lists counts → counted longer counts ≡ counted lists counts
counted-grown least shard [] [] cs counts h within = refl
counted-grown least shard [] (f ∷ longer) cs counts h within = absurd h
counted-grown least shard (e ∷ lists) [] cs counts h within = absurd h
counted-grown least shard (e ∷ lists) (f ∷ longer) (c ∷ cs) (a ∷ counts) h within =
    ap (λ es. es ++ counted longer counts) (take-same a e f h.0 within.2)
    ∙ ap (λ es. take a e ++ es) (counted-grown least (shard + 1) lists longer cs counts h.1 within.3)
counted-grown least shard (e ∷ lists) (f ∷ longer) _ _ h within = absurd within

place-grown : (least : ℕ → ℕ) (shard : ℕ) (lists longer : List (List Entry)) (cs counts : List ℕ) → AreLonger lists longer → CountsWithin least shard cs lists counts → counted_place longer counts ≡ counted_place lists counts
place-grown least shard [] [] cs counts h within = refl
place-grown least shard [] (f ∷ longer) cs counts h within = absurd h
place-grown least shard (e ∷ lists) [] cs counts h within = absurd h
place-grown least shard (e ∷ lists) (f ∷ longer) (c ∷ cs) (a ∷ counts) h within =
    ap (λ es. max (last_commit es) (counted_place longer counts)) (take-same a e f h.0 within.2)
    ∙ ap (λ n. max (last_commit (take a e)) n) (place-grown least (shard + 1) lists longer cs counts h.1 within.3)
place-grown least shard (e ∷ lists) (f ∷ longer) _ _ h within = absurd within

saw_all-grown : (least : ℕ → ℕ) (lists longer : List (List Entry)) (counts : List ℕ) (s t : Session) → AreLonger lists longer → CountsWithin least 0 s.counts lists counts → saw_counts longer counts t ≡ saw_counts lists counts t
saw_all-grown least lists longer counts s t h within =
    ap (λ n. record t { place = max t.place n; counts = greater_counts t.counts counts }) (place-grown least 0 lists longer s.counts counts h within)

-- ---- each answer

module _ (w : World) (more : List Commit) (lists : List (List Entry)) (h : AreLonger w.lists lists) where
  alone-grown : (client : ℕ) (s : Session) (write : Write) (n : ℕ) → CommitsAlone w client s write n → CommitsAlone (grown w more lists) client s write n
  alone-grown client s write n a = record { later = a.later; committed = slice-grown w.journal more (n - 1) _ a.committed }

  write-grown : (client : ℕ) (s : Session) (t : Option Transaction) (write : Write) (key : KeyParts) (place : WriteAt) (later : Session) → WriteAnswers w client s t write key place later → WriteAnswers (grown w more lists) client s t write key place later
  write-grown client s None write key (at.Commit n) later a = (alone-grown client s write n a.0, a.1)
  write-grown client s (Some t) write key (at.Place m) later a = (stands-grown w.journal more s (place_in (Some t) (root_of key)) m a.0, a.1)
  write-grown client s None write key (at.Place m) later a = absurd a
  write-grown client s (Some t) write key (at.Commit n) later a = absurd a

  group-grown : (g : KeyParts) (m : ℕ) (s : Session) → m ≤ length w.journal → saw_group (grown w more lists) g m s ≡ saw_group w g m s
  group-grown g m s within =
      ap (λ n. saw_entries (shard_of g w.shards) n (saw_place m (with_transaction (touching_if g m s.transaction) s)))
      (up_to-grown w more lists m (shard_of g w.shards) within)

  view-grown : (m : ℕ) → m ≤ length w.journal → strong_view (w.journal ++ more) m ≡ strong_view w.journal m
  view-grown m within = ap (λ (cs : List Commit). after (writes_of cs)) (take-grown m w.journal more within)

  get-grown : (s : Session) (key : KeyParts) (found : Option EntityParts) (m : ℕ) (later : Session) → GetAnswers w s key found m later → GetAnswers (grown w more lists) s key found m later
  get-grown s key found m later a =
      let within = stands-within w.journal s (place_in s.transaction (root_of key)) m a.place in record {
        place = stands-grown w.journal more s (place_in s.transaction (root_of key)) m a.place;
        exact = a.exact ∙ ap (λ es. entity_of es key) (sym (view-grown m within));
        seen = a.seen ∙ sym (group-grown (root_of key) m s within);
      }

  expired-grown : (s : Session) (g : KeyParts) (applied m snapshot : ℕ) (later : Session) → ExpiredAnswers w s g applied m snapshot later → ExpiredAnswers (grown w more lists) s g applied m snapshot later
  expired-grown s g applied m snapshot later a = record {
    inside = a.inside;
    has = a.has;
    place = stands-grown w.journal more s (place_in s.transaction g) m a.place;
    entries = a.entries ∙ sym (up_to-grown w more lists m (shard_of g w.shards) (stands-within w.journal s (place_in s.transaction g) m a.place));
    window = a.window;
    windowed = a.windowed;
    gone = a.gone;
    no_lower = a.no_lower;
    applied_within = list-within w.lists lists (shard_of g w.shards) applied h a.applied_within;
    seen = a.seen ∙ sym (saw-grown w.lists lists (shard_of g w.shards) applied (saw_place m (with_transaction None s)) h a.applied_within);
  }

  settle-grown : (s : Session) (m : ℕ) (counts : List ℕ) (later : Session) → SettleAnswers w s m counts later → SettleAnswers (grown w more lists) s m counts later
  settle-grown s m counts later a = record {
    place = seen-grown w.journal more s m a.place;
    applied = subst (λ least. CountsWithin least 0 s.counts lists counts) (λ i shard. (sym (up_to-grown w more lists m shard a.place.within)) i)
        (counts-grown (entries_up_to w m) 0 w.lists lists s.counts counts h a.applied);
    seen = a.seen ∙ sym (saw_all-grown (entries_up_to w m) w.lists lists counts s (saw_place m s) h a.applied);
  }

  apply-grown : (s : Session) (shard : ℕ) (applied : Bool) (count m : ℕ) (later : Session) → ApplyAnswers w s shard applied count m later → ApplyAnswers (grown w more lists) s shard applied count m later
  apply-grown s shard applied count m later a = record {
    place = seen-grown w.journal more s m a.place;
    counted = subst (λ up_to. AppliedCount applied (unwrap_or (slice_get s.counts shard) 0) up_to count) (sym (up_to-grown w more lists m shard a.place.within)) a.counted;
    within = list-within w.lists lists shard count h a.within;
    seen = a.seen ∙ sym (saw-grown w.lists lists shard count (saw_place m s) h a.within);
  }

  commit-grown : (client : ℕ) (s : Session) (t : Transaction) (n : ℕ) (later : Session) → CommitAnswers w client s t n later → CommitAnswers (grown w more lists) client s t n later
  commit-grown client s t n later a =
      let below : n - 1 < length w.journal = slice_get_within w.journal (n - 1) (commit_of client t) a.committed in
      let within : n - 1 ≤ length w.journal = omega arith in record {
        later = a.later;
        committed = slice-grown w.journal more (n - 1) (commit_of client t) a.committed;
        serial = subst (λ cs. IsCommitted cs (commit_of client t)) (sym (take-grown (n - 1) w.journal more within)) a.serial;
        ended = a.ended;
      }

  conflict-grown : (s : Session) (t : Transaction) (commit : ℕ) (group : KeyParts) (m : ℕ) (later : Session) → ConflictAnswers w s t commit group m later → ConflictAnswers (grown w more lists) s t commit group m later
  conflict-grown s t commit group m later a = record {
    place = seen-grown w.journal more s m a.place;
    turn = a.turn;
    conflict = ap (λ cs. conflict_of cs t.touched) (take-grown m w.journal more a.place.within) ∙ a.conflict;
    touched = a.touched;
    named = a.named;
    ended = a.ended;
  }

  transaction-grown : (client : ℕ) (s : Session) (t : Option Transaction) (said : Body) (later : Session) → TransactionAnswers w client s t said later → TransactionAnswers (grown w more lists) client s t said later
  transaction-grown client s (Some t) (body.Commit n) later a = commit-grown client s t n later a
  transaction-grown client s (Some t) (body.Conflict commit group m) later a = conflict-grown s t commit group m later a
  transaction-grown client s _ _ later a = absurd a

  call-grown : (client : ℕ) (s : Session) (c : Call) (said : Body) (later : Session) → CallAnswers w client s c said later → CallAnswers (grown w more lists) client s c said later
  call-grown client s (call.Put key incomplete properties) (body.Put printed place) later a = record {
    completed = a.completed;
    written = write-grown client s s.transaction _ printed place later a.written;
  }
  call-grown client s (call.Put key incomplete properties) (body.IdNotIssued id next) later a = a
  call-grown client s (call.Put key incomplete properties) (body.IdsExhausted next) later a = a
  call-grown client s (call.Delete key) (body.Delete printed place) later a = (a.0, write-grown client s s.transaction _ key place later a.1)
  call-grown client s (call.Delete key) (body.IdNotIssued id next) later a = a
  call-grown client s (call.Get key) (body.Get found m) later a = get-grown s key found m later a
  call-grown client s (call.Get key) (body.Expired applied m snapshot) later a = expired-grown s (root_of key) applied m snapshot later a
  call-grown client s (call.Begin several_groups) body.Begin later a = a
  call-grown client s call.Commit said later a = transaction-grown client s s.transaction said later a
  call-grown client s call.Rollback body.Rollback later a = a
  call-grown client s call.Settle (body.Settle m counts) later a = settle-grown s m counts later a
  call-grown client s (call.AllocateIds count) (body.AllocateIds first printed) later a = a
  call-grown client s (call.AllocateIds count) (body.IdsExhausted next) later a = a
  call-grown client s (call.Apply shard) (body.Apply applied count m printed) later a = (a.0, apply-grown s shard applied count m later a.1)
  call-grown client s _ _ later a = absurd a

  -- ---- queries

  found-grown : (s : Session) (search : Search) (places : Places) (ancestor : Option KeyParts) (selected : Select) (results : List Item) (saw : Seen) (told : Option (List ℕ)) (later : Session) →
      FoundOver w s search places ancestor selected results saw told later → FoundOver (grown w more lists) s search places ancestor selected results saw told later
  found-grown s search places None selected results (seen.Counts counts) told later a = (
    counts-grown (λ shard. 0) 0 w.lists lists s.counts counts h a.0,
    subst (λ (es : List Entry). Finds search places (after (entry_writes es)) selected results told) (sym (counted-grown (λ shard. 0) 0 w.lists lists s.counts counts h a.0)) a.1,
    a.2 ∙ sym (saw_all-grown (λ shard. 0) w.lists lists counts s s h a.0),
  )
  found-grown s search places (Some ancestor) selected results (seen.Place m) told later a =
      let within = stands-within w.journal s (place_in s.transaction (root_of ancestor)) m a.0 in (
        stands-grown w.journal more s (place_in s.transaction (root_of ancestor)) m a.0,
        subst (λ es. Finds search places es selected results told) (sym (view-grown m within)) a.1,
        a.2 ∙ sym (group-grown (root_of ancestor) m s within),
      )
  found-grown s search places None selected results (seen.Place m) told later a = absurd a
  found-grown s search places (Some ancestor) selected results (seen.Counts counts) told later a = absurd a

  under-grown : (s : Session) (ancestor : Option KeyParts) (applied m snapshot : ℕ) (later : Session) → ExpiredUnder w s ancestor applied m snapshot later → ExpiredUnder (grown w more lists) s ancestor applied m snapshot later
  under-grown s None applied m snapshot later a = absurd a
  under-grown s (Some ancestor) applied m snapshot later a = expired-grown s (root_of ancestor) applied m snapshot later a

  search-grown : (s : Session) (c : Call) (search : Search) (places : Places) (said : Body) (later : Session) → SearchAnswers w s c search places said later → SearchAnswers (grown w more lists) s c search places said later
  search-grown s (call.Query namespace kind ancestor filters orders select offset limit start end cursor) search places (body.Query selected results saw told) later a =
      found-grown s search places search.query.ancestor selected results saw told later a
  search-grown s (call.Gql namespace text args names start end cursor) search places (body.Gql selected results saw told) later a =
      found-grown s search places search.query.ancestor selected results saw told later a
  search-grown s c search places (body.Expired applied m snapshot) later a = under-grown s search.query.ancestor applied m snapshot later a
  search-grown s _ search places _ later a = absurd a

  unless-grown : {A B : Type 0} (o : Option Body) (s : Session) (said : Body) (later : Session) → (A → B) → UnlessRefused o s said later A → UnlessRefused o s said later B
  unless-grown None s said later f a = f a
  unless-grown (Some refusal) s said later f a = a

  -- ---- one reply

  request-grown : (client : ℕ) (s : Session) (c : Call) (o : Option (Result Search Body)) (said : Body) (later : Session) → RequestAnswers w client s c o said later → RequestAnswers (grown w more lists) client s c o said later
  request-grown client s c None said later a = unless-grown _ s said later (call-grown client s c said later) a
  request-grown client s c (Some (Err refusal)) said later a = a
  request-grown client s c (Some (Ok search)) said later a = record {
    places = a.places;
    read = a.read;
    answered = unless-grown _ s said later (search-grown s c search a.places said later) a.answered;
  }

  asked-grown : (s : Session) (line : Result Request (ℕ × Body)) (said : Body) (later : Session) → AskedAnswers w s line said later → AskedAnswers (grown w more lists) s line said later
  asked-grown s (Err e) said later a = a
  asked-grown s (Ok r) said later a = request-grown r.client s r.call (search_of r.call) said later a

  pub body-grown : (s : Session) (line : Result Request (ℕ × Body)) (said : Body) (later : Session) → BodyAnswers w s line said later → BodyAnswers (grown w more lists) s line said later
  body-grown s line body.NoMemory later a = a
  body-grown s line said later a = asked-grown s line said later a

  pub answers-grown : (reading : Reading) (s : Session) (line : NumberedLine) (reply : Reply) (later : Session) → Answers reading w s line reply later → Answers reading (grown w more lists) s line reply later
  answers-grown reading s line reply later a = record {
    numbered = a.numbered;
    addressed = a.addressed;
    said = body-grown s (reading line.content) reply.body later a.said;
  }
