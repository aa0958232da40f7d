-- The journal of a legal run is one serial history: each of its commits is acknowledged, and nothing before one wrote a group that it
-- touched after the group's touch place. So each reads what stood just before it, and of two transactions that touch one group at one place
-- and write it at most one commits. Each line has one reply.
use Rattle.std.proofs.Common.{◌≡◌, ℕ, zero, suc, ◌+◌, ◌-◌, ◌<◌, ◌≤◌, inl, inr, List, [], ◌∷◌, ◌++◌, length, take, drop, refl, ap, sym, ◌∙◌}
use Rattle.std.proofs.Common.{subst}
use Rattle.std.proofs.Common.{arith, Bool, true, false, cond, Option, Some, None}
use Rattle.std.specs.Prelude.{Result, Ok, Err, All, map, max, flat_map, filter, slice_get, ◌==◌, ◌||◌}
use Rattle.std.specs.List.{range_with_len}
use Rattle.std.proofs.lemmas.Grind.{flat_map-append}
use Rattle.std.proofs.lemmas.List.{map-append}
use Rattle.std.proofs.lemmas.List.Elements.{All-nil, All-cons, All-head, All-tail, All-append, filter-append}
use Rattle.std.proofs.lemmas.List.Sorted.{All-permutation}
use Rattle.std.proofs.lemmas.Option.{slice_get_within}
use Rattle.ds_base.specs.Keys.{KeyParts}
use Rattle.ds_base.specs.KeyOrder.{same_key}
use Rattle.ds_indexdef.specs.declared.IndexDef.{IndexDef}
use Rattle.ds_log.specs.declared.Commit.{Commit}
use Rattle.ds_log.specs.declared.Touch.{Touch}
use Rattle.ds_log.specs.declared.Write.{Write}
use Rattle.ds_log.specs.Conflicts.{IsCommitted, IsSerial, writes_group}
use Rattle.ds_log.specs.Logs.{group_of, group_writes, group_log, writes_of}
use Rattle.ds_request.specs.declared.call.Call.{Call}
use Rattle.ds_request.specs.declared.call.Call.TheVariants as call
use Rattle.ds_request.specs.declared.call.Request.{Request}
use Rattle.ds_reply.specs.declared.reply.WriteAt.{WriteAt}
use Rattle.ds_reply.specs.declared.reply.WriteAt.TheVariants as at
use Rattle.ds_reply.specs.declared.reply.Body.{Body}
use Rattle.ds_reply.specs.declared.reply.Body.TheVariants as body
use Rattle.ds_reply.specs.declared.reply.Reply.{Reply}
use Rattle.ds_rounds.specs.Rounds.{NumberedLine}
use Rattle.ds_model.specs.Answers.{Answers, CommitsAlone, WriteAnswers, CommitAnswers, TransactionAnswers, CallAnswers, SearchAnswers}
use Rattle.ds_model.specs.Answers.{commit_of}
use Rattle.ds_model.specs.Asked.{Reading, Search, asked, client_of}
use Rattle.ds_model.specs.Legal.{ClientSteps, RoundSteps, RoundsSteps, Legal, acknowledged, acknowledged_in, by_client, answered_lines}
use Rattle.ds_model.specs.Refusals.{Places}
use Rattle.ds_model.specs.Sessions.{Session, Transaction, first_sessions, met, raised_to}
use Rattle.ds_model.specs.Views.{strong_view}
use Rattle.ds_model.specs.Worlds.{World, world_of}
use Rattle.ds_model.proofs.GroupViews.{cut, nothing_between, transaction_reads}
use Rattle.ds_model.proofs.OkReplies.{is_ok, OkAnswers, ReadingRefuses, asked-refuses, ok_answers}

-- ---- what an acknowledged commit is

module _ (w : World) (s later : Session) (P : ℕ → Type 0)
    (alone : (client : ℕ) (write : Write) (n : ℕ) → CommitsAlone w client s write n → n ≤ later.place → P n)
    (committed : (client : ℕ) (t : Transaction) (n : ℕ) → CommitAnswers w client s t n later → P n) where
  one : (n : ℕ) → P n → All P (n ∷ [])
  one n p = All-cons P n [] p (All-nil P)

  by_write : (client : ℕ) (t : Option Transaction) (write : Write) (key printed : KeyParts) (place : WriteAt) → WriteAnswers w client s t write key place later → All P (acknowledged_in (body.Put printed place))
  by_write client None write key printed (at.Commit n) a =
      let shown : later.place ≡ max s.place n = ap (λ (v : Session). v.place) a.1 in
      one n (alone client write n a.0 (omega (arith, shown)))
  by_write client (Some t) write key printed (at.Place m) a = All-nil P
  by_write client None write key printed (at.Place m) a = absurd a
  by_write client (Some t) write key printed (at.Commit n) a = absurd a

  by_transaction : (client : ℕ) (t : Option Transaction) (said : Body) → TransactionAnswers w client s t said later → All P (acknowledged_in said)
  by_transaction client (Some t) (body.Commit n) a = one n (committed client t n a)
  by_transaction client (Some t) (body.Conflict commit group m) a = All-nil P
  by_transaction client _ _ a = absurd a

  by_call : (client : ℕ) (c : Call) (said : Body) → CallAnswers w client s c said later → All P (acknowledged_in said)
  by_call client (call.Put key incomplete properties) (body.Put printed place) a = by_write client s.transaction _ printed printed place a.written
  by_call client (call.Put key incomplete properties) (body.IdNotIssued id next) a = All-nil P
  by_call client (call.Put key incomplete properties) (body.IdsExhausted next) a = All-nil P
  by_call client (call.Delete key) (body.Delete printed place) a = by_write client s.transaction _ key printed place a.1
  by_call client (call.Delete key) (body.IdNotIssued id next) a = All-nil P
  by_call client (call.Get key) (body.Get found m) a = All-nil P
  by_call client (call.Get key) (body.Expired applied m snapshot) a = All-nil P
  by_call client (call.Begin several_groups) body.Begin a = All-nil P
  by_call client call.Commit said a = by_transaction client s.transaction said a
  by_call client call.Rollback body.Rollback a = All-nil P
  by_call client call.Settle (body.Settle m counts) a = All-nil P
  by_call client (call.AllocateIds count) (body.AllocateIds first printed) a = All-nil P
  by_call client (call.AllocateIds count) (body.IdsExhausted next) a = All-nil P
  by_call client (call.Apply shard) (body.Apply applied count m printed) a = All-nil P
  by_call client _ _ a = absurd a

  by_search : (c : Call) (search : Search) (places : Places) (said : Body) → SearchAnswers w s c search places said later → All P (acknowledged_in said)
  by_search (call.Query namespace kind ancestor filters orders selected offset limit start end told) search places (body.Query select results saw cursor) a = All-nil P
  by_search (call.Gql namespace text args names start end told) search places (body.Gql select results saw cursor) a = All-nil P
  by_search c search places (body.Expired applied m snapshot) a = All-nil P
  by_search _ search places _ a = absurd a

  by_asked : (line : Result Request (ℕ × Body)) (said : Body) → OkAnswers w s line said later → All P (acknowledged_in said)
  by_asked (Err e) said a = absurd a
  by_asked (Ok r) said (inl a) = by_call r.client r.call said a
  by_asked (Ok r) said (inr (search, places, a)) = by_search r.call search places said a

  nothing_told : (said : Body) → is_ok said ≡ false → All P (acknowledged_in said)
  nothing_told (body.Put key place) refused = cc
  nothing_told (body.Delete key place) refused = cc
  nothing_told (body.Commit n) refused = cc
  nothing_told _ refused = All-nil P

  -- what is said of each commit that a reply acknowledges
  pub of_acknowledged : (reading : Reading) → ReadingRefuses reading → (line : NumberedLine) (reply : Reply) → Answers reading w s line reply later → All P (acknowledged reply)
  of_acknowledged reading refuses line reply a = by (is_ok reply.body) refl where
    by : (ok : Bool) → is_ok reply.body ≡ ok → All P (acknowledged reply)
    by true ok = by_asked (reading line.content) reply.body (ok_answers w s later reading refuses line reply ok a)
    by false refused = nothing_told reply.body refused

-- the journal holds the commit, and nothing before it conflicts with it
abbrev pub IsHeld : List Commit → ℕ → Type 0
IsHeld journal n = (c : Commit) × (slice_get journal (n - 1) ≡ Some c) × IsCommitted (take (n - 1) journal) c

alone_held : (w : World) (client : ℕ) (s : Session) (write : Write) (n : ℕ) → CommitsAlone w client s write n → IsHeld w.journal n
alone_held w client s write n a = (
  record { client = client; touched = []; writes = write ∷ [] },
  a.committed,
  record {
    few = omega arith;
    touched_before = All-nil (λ (t : Touch). t.place ≤ length (take (n - 1) w.journal));
    serial = refl;
  },
)

-- A write outside a transaction and a transaction's commit are held by the journal.
pub reply_held : (w : World) (s later : Session) (reading : Reading) → ReadingRefuses reading → (line : NumberedLine) (reply : Reply) → Answers reading w s line reply later → All (IsHeld w.journal) (acknowledged reply)
reply_held w s later reading refuses line reply a =
    of_acknowledged w s later (IsHeld w.journal) (λ client write n alone shown. alone_held w client s write n alone)
    (λ client t n c. (commit_of client t, c.committed, c.serial)) reading refuses line reply a

-- The client has then seen it.
pub reply_shown : (w : World) (s later : Session) (reading : Reading) → ReadingRefuses reading → (line : NumberedLine) (reply : Reply) → Answers reading w s line reply later → All (λ n. n ≤ later.place) (acknowledged reply)
reply_shown w s later reading refuses line reply a =
    of_acknowledged w s later (λ n. n ≤ later.place) (λ client write n alone shown. shown)
    (λ client t n c. let shown : later.place ≡ max s.place n = ap (λ (v : Session). v.place) c.ended in omega (arith, shown)) reading refuses line reply a

-- ---- a whole run

module _ (reading : Reading) (refuses : ReadingRefuses reading) (w : World) where
  steps-held : (s : Session) (lines : List NumberedLine) (replies : List Reply) (after : Session) → ClientSteps reading w s lines replies after → All (IsHeld w.journal) (flat_map acknowledged replies)
  steps-held s [] [] after steps = All-nil (IsHeld w.journal)
  steps-held s [] (r ∷ replies) after steps = absurd steps
  steps-held s (l ∷ lines) [] after steps = absurd steps
  steps-held s (l ∷ lines) (r ∷ replies) after (next, first, rest) =
      All-append (IsHeld w.journal) (acknowledged r) (flat_map acknowledged replies) (reply_held w s next reading refuses l r first) (steps-held next lines replies after rest)

  both-held : (own others replies : List Reply) → replies ≡ own ++ others → All (IsHeld w.journal) (flat_map acknowledged own) → All (IsHeld w.journal) (flat_map acknowledged others) → All (IsHeld w.journal) (flat_map acknowledged replies)
  both-held own others replies whole first rest =
      subst (All (IsHeld w.journal)) (sym (ap (flat_map acknowledged) whole ∙ flat_map-append acknowledged own others))
      (All-append (IsHeld w.journal) (flat_map acknowledged own) (flat_map acknowledged others) first rest)

  round-held : (round : List NumberedLine) (client : ℕ) (sessions : List Session) (replies : List Reply) (after : List Session) → RoundSteps reading w round client sessions replies after → All (IsHeld w.journal) (flat_map acknowledged replies)
  round-held round client [] replies after steps = subst (λ rs. All (IsHeld w.journal) (flat_map acknowledged rs)) (sym steps.0) (All-nil (IsHeld w.journal))
  round-held round client (s ∷ sessions) replies [] steps = absurd steps
  round-held round client (s ∷ sessions) replies (t ∷ after) (own, others, whole, first, rest) =
      both-held own others replies whole (steps-held s (filter (λ line. client_of reading line.content == client) round) own t first) (round-held round (client + 1) sessions others after rest)

  rounds-held : (rounds : List (List NumberedLine)) (sessions : List Session) (replies : List Reply) (after : List Session) → RoundsSteps reading w rounds sessions replies after → All (IsHeld w.journal) (flat_map acknowledged replies)
  rounds-held [] sessions replies after steps = subst (λ rs. All (IsHeld w.journal) (flat_map acknowledged rs)) (sym steps.0) (All-nil (IsHeld w.journal))
  rounds-held (round ∷ rounds) sessions replies after (own, others, between, whole, first, rest) =
      both-held own others replies whole (round-held round 0 (met sessions) own between first) (rounds-held rounds between others after rest)

at_range : (P : ℕ → Type 0) (first n i : ℕ) → All P (range_with_len first n) → i < n → P (first + i)
at_range P first zero i all within = absurd (omega (arith, within))
at_range P first (suc n) zero all within =
    let same : first ≡ first + 0 = omega arith in subst P same (All-head P first (range_with_len (first + 1) n) all)
at_range P first (suc n) (suc i) all within =
    let same : first + 1 + i ≡ first + suc i = omega arith in
    subst P same (at_range P (first + 1) n i (All-tail P first (range_with_len (first + 1) n) all) (omega (arith, within)))

module _ {definitions : List IndexDef} {shards : ℕ} {window : Option ℕ} {rounds : List (List NumberedLine)} {journal : List Commit} {replies : List Reply}
    (legal : Legal definitions shards window rounds journal replies) where
  -- The journal of a legal run is one serial history.
  pub legal_serial : IsSerial journal
  legal_serial i c is =
      let within : i < length journal = slice_get_within journal i c is in
      let all = All-permutation (IsHeld journal) (flat_map acknowledged replies) (range_with_len 1 (length journal)) legal.commits
      (rounds-held (asked shards) (asked-refuses shards) (world_of definitions shards window journal) rounds (first_sessions shards) replies legal.after legal.steps) in
      let held : IsHeld journal (1 + i) = at_range (IsHeld journal) 1 (length journal) i all within in
      let same : 1 + i - 1 ≡ i = omega arith in
      let found : Some held.0 ≡ Some c = sym held.1 ∙ ap (slice_get journal) same ∙ is in
      let one : held.0 ≡ c = cc in
      subst (IsCommitted (take i journal)) one (subst (λ k. IsCommitted (take k journal) held.0) same held.2)

  -- Each transaction read each of its groups as the group stood just before its commit.
  pub legal_reads : (i : ℕ) (c : Commit) (j : ℕ) (t : Touch) → slice_get journal i ≡ Some c → slice_get c.touched j ≡ Some t → cut t.group (strong_view journal t.place) ≡ cut t.group (strong_view journal i)
  legal_reads i c j t is touched = transaction_reads journal i c j t legal_serial is touched

-- ---- two transactions

written-group : (g : KeyParts) (ws : List Write) → writes_group g ws ≡ true → group_writes g ws ≡ [] → ⊥
written-group g [] wrote none = cc
written-group g (w ∷ ws) wrote none = by (same_key (group_of w) g) (written-group g ws) wrote none where
  by : (b : Bool) → (writes_group g ws ≡ true → group_writes g ws ≡ [] → ⊥) → (b || writes_group g ws) ≡ true → cond b (w ∷ group_writes g ws) (group_writes g ws) ≡ [] → ⊥
  by true rest wrote none = cc
  by false rest wrote none = rest wrote none

both_empty : (xs ys : List Write) → xs ++ ys ≡ [] → (xs ≡ []) × (ys ≡ [])
both_empty [] ys none = (refl, none)
both_empty (x ∷ xs) ys none = cc

-- where a commit wrote the group, the group's log has something behind each place before it
log_of : (g : KeyParts) (cs : List Commit) (place i : ℕ) (c : Commit) → slice_get cs i ≡ Some c → place ≤ i → writes_group g c.writes ≡ true → group_log (drop place cs) g ≡ [] → ⊥
log_of g [] place i c is within wrote none = cc
log_of g (d ∷ cs) zero zero c is within wrote none =
    let same : d ≡ c = cc in
    written-group g d.writes (ap (λ (e : Commit). writes_group g e.writes) same ∙ wrote)
    (both_empty (group_writes g d.writes) (group_log cs g) (sym (filter-append (λ w. same_key (group_of w) g) d.writes (writes_of cs)) ∙ none)).0
log_of g (d ∷ cs) zero (suc i) c is within wrote none =
    log_of g cs zero i c is (omega arith) wrote
    (both_empty (group_writes g d.writes) (group_log cs g) (sym (filter-append (λ w. same_key (group_of w) g) d.writes (writes_of cs)) ∙ none)).1
log_of g (d ∷ cs) (suc place) zero c is within wrote none = absurd (omega (arith, within))
log_of g (d ∷ cs) (suc place) (suc i) c is within wrote none = log_of g cs place i c is (omega (arith, within)) wrote none

slice-take : (cs : List Commit) (i j : ℕ) (c : Commit) → slice_get cs i ≡ Some c → i < j → slice_get (take j cs) i ≡ Some c
slice-take [] i j c is before = cc
slice-take (d ∷ cs) i zero c is before = absurd (omega (arith, before))
slice-take (d ∷ cs) zero (suc j) c is before = is
slice-take (d ∷ cs) (suc i) (suc j) c is before = slice-take cs i j c is (omega (arith, before))

touched_within : (n : ℕ) (ts : List Touch) (j : ℕ) (t : Touch) → All (λ (u : Touch). u.place ≤ n) ts → slice_get ts j ≡ Some t → t.place ≤ n
touched_within n [] j t all is = cc
touched_within n (u ∷ ts) zero t all is =
    let same : u ≡ t = cc in subst (λ (v : Touch). v.place ≤ n) same (All-head (λ (v : Touch). v.place ≤ n) u ts all)
touched_within n (u ∷ ts) (suc j) t all is = touched_within n ts j t (All-tail (λ (v : Touch). v.place ≤ n) u ts all) is

-- No commit that touched a group follows one that wrote the group after the touch place.
pub none_after_write : (journal : List Commit) → IsSerial journal → (i j : ℕ) (c d : Commit) (turn : ℕ) (t : Touch) → slice_get journal i ≡ Some c → slice_get journal j ≡ Some d → i < j →
    slice_get d.touched turn ≡ Some t → t.place ≤ i → writes_group t.group c.writes ≡ true → ⊥
none_after_write journal serial i j c d turn t first second before touched place wrote =
    log_of t.group (take j journal) t.place i c (slice-take journal i j c first before) place wrote (nothing_between (take j journal) d turn t (serial j d second) touched)

-- Two commits that touched one group at one place don't both write it: the first that did lets no other follow.
pub one_of_two : (journal : List Commit) → IsSerial journal → (i j : ℕ) (c d : Commit) (turn other : ℕ) (t u : Touch) → slice_get journal i ≡ Some c → slice_get journal j ≡ Some d → i < j →
    slice_get c.touched turn ≡ Some t → slice_get d.touched other ≡ Some u → u ≡ t → writes_group t.group c.writes ≡ true → ⊥
one_of_two journal serial i j c d turn other t u first second before touched again same wrote =
    let committed = serial i c first in
    let at_most : t.place ≤ length (take i journal) = touched_within (length (take i journal)) c.touched turn t committed.touched_before touched in
    let place : u.place ≡ t.place = ap (λ (v : Touch). v.place) same in
    none_after_write journal serial i j c d other u first second before again (omega (arith, at_most, place, length-take-within i journal))
    (subst (λ (v : Touch). writes_group v.group c.writes ≡ true) (sym same) wrote) where
      length-take-within : (n : ℕ) (cs : List Commit) → length (take n cs) ≤ n
      length-take-within zero cs = omega arith
      length-take-within (suc n) [] = omega arith
      length-take-within (suc n) (x ∷ cs) = omega (arith, length-take-within n cs)

-- ---- one reply per line

abbrev reply_numbers : List Reply → List ℕ
reply_numbers = map (λ (r : Reply). r.line)

abbrev line_numbers : List NumberedLine → List ℕ
line_numbers = map (λ (l : NumberedLine). l.number)

abbrev of_client : Reading → List NumberedLine → ℕ → List NumberedLine
of_client reading round client = filter (λ line. client_of reading line.content == client) round

module _ (reading : Reading) (w : World) where
  steps-numbered : (s : Session) (lines : List NumberedLine) (replies : List Reply) (after : Session) → ClientSteps reading w s lines replies after → reply_numbers replies ≡ line_numbers lines
  steps-numbered s [] [] after steps = refl
  steps-numbered s [] (r ∷ replies) after steps = absurd steps
  steps-numbered s (l ∷ lines) [] after steps = absurd steps
  steps-numbered s (l ∷ lines) (r ∷ replies) after (next, first, rest) = λ i. first.numbered i ∷ steps-numbered next lines replies after rest i

  round-numbered : (round : List NumberedLine) (client : ℕ) (sessions : List Session) (replies : List Reply) (after : List Session) → RoundSteps reading w round client sessions replies after →
      (reply_numbers replies ≡ line_numbers (flat_map (of_client reading round) (range_with_len client (length sessions)))) × (length after ≡ length sessions)
  round-numbered round client [] replies after steps = (ap reply_numbers steps.0, ap (λ (ss : List Session). length ss) steps.1)
  round-numbered round client (s ∷ sessions) replies [] steps = absurd steps
  round-numbered round client (s ∷ sessions) replies (t ∷ after) (own, others, whole, first, rest) =
      let later = round-numbered round (client + 1) sessions others after rest in (
        ap reply_numbers whole ∙ map-append (λ (r : Reply). r.line) own others
            ∙ ap (λ ns. ns ++ reply_numbers others) (steps-numbered s (of_client reading round client) own t first)
            ∙ ap (λ ns. line_numbers (of_client reading round client) ++ ns) later.0
            ∙ sym (map-append (λ (l : NumberedLine). l.number) (of_client reading round client) (flat_map (of_client reading round) (range_with_len (client + 1) (length sessions)))),
        omega (arith, later.1),
      )

  length-map : (f : Session → Session) (ss : List Session) → length (map f ss) ≡ length ss
  length-map f [] = refl
  length-map f (s ∷ ss) = omega (arith, length-map f ss)

  rounds-numbered : (rounds : List (List NumberedLine)) (sessions : List Session) (replies : List Reply) (after : List Session) → RoundsSteps reading w rounds sessions replies after →
      length sessions ≡ 16 → reply_numbers replies ≡ line_numbers (answered_lines reading rounds)
  rounds-numbered [] sessions replies after steps sixteen = ap reply_numbers steps.0
  rounds-numbered (round ∷ rounds) sessions replies after (own, others, between, whole, first, rest) sixteen =
      let all : length (met sessions) ≡ 16 = length-map (raised_to sessions) sessions ∙ sixteen in
      let now = round-numbered round 0 (met sessions) own between first in
      ap reply_numbers whole ∙ map-append (λ (r : Reply). r.line) own others
      ∙ ap (λ ns. ns ++ reply_numbers others) (now.0 ∙ ap (λ n. line_numbers (flat_map (of_client reading round) (range_with_len 0 n))) all)
      ∙ ap (λ ns. line_numbers (by_client reading round) ++ ns) (rounds-numbered rounds between others after rest (now.1 ∙ all))
      ∙ sym (map-append (λ (l : NumberedLine). l.number) (by_client reading round) (answered_lines reading rounds))

-- Of a legal run the replies are one for each line that is answered, in the order of the lines by round, then client, then line.
pub one_reply_each : {definitions : List IndexDef} {shards : ℕ} {window : Option ℕ} {rounds : List (List NumberedLine)} {journal : List Commit} {replies : List Reply} →
    Legal definitions shards window rounds journal replies → reply_numbers replies ≡ line_numbers (answered_lines (asked shards) rounds)
one_reply_each {definitions} {shards} {window} {rounds} {journal} {replies} legal =
    rounds-numbered (asked shards) (world_of definitions shards window journal) rounds (first_sessions shards) replies legal.after legal.steps refl
