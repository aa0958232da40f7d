-- Rounds that were run one after another.
use Rattle.std.proofs.Common.{◌≡◌, ℕ, suc, ◌+◌, ◌<◌, ◌≤◌, List, [], ◌∷◌, ◌++◌, length, refl, ap, sym, ◌∙◌, subst, append_assoc, arith}
use Rattle.std.proofs.Common.{Option, map}
use Rattle.std.proofs.Common.{length-append}
use Rattle.std.specs.Prelude.{flat_map, All, IsPermutation}
use Rattle.std.specs.List.{range_with_len}
use Rattle.std.proofs.lemmas.List.{append-nil}
use Rattle.std.proofs.lemmas.Grind.{flat_map-append}
use Rattle.std.proofs.lemmas.List.Elements.{All-nil, All-cons, All-head, All-tail, All-append, All-weaker}
use Rattle.std.proofs.lemmas.List.Sorted.{IsPermutation-refl, IsPermutation-trans, IsPermutation-append_comm}
use Rattle.std.proofs.lemmas.List.Sorted.{IsPermutation-append_left, IsPermutation-append_right}
use Rattle.ds_base.specs.Limits.{greatest_client}
use Rattle.ds_indexdef.specs.declared.IndexDef.{IndexDef}
use Rattle.ds_log.specs.declared.Commit.{Commit}
use Rattle.ds_reply.specs.declared.reply.Reply.{Reply}
use Rattle.ds_reply.specs.Replies.{replies_text}
use Rattle.ds_rounds.specs.Rounds.{NumberedLine}
use Rattle.ds_model.specs.Asked.{Reading, asked}
use Rattle.ds_model.specs.Legal.{RoundSteps, RoundsSteps, acknowledged, accepted, printed_next, answered_lines, by_client, drawn_in}
use Rattle.ds_model.specs.Sessions.{Session, met, raised_to}
use Rattle.ds_model.specs.Worlds.{World, world_of}
use Rattle.ds_store.specs.Ending.{Begins}
use Rattle.ds_store.specs.Passes.{PassParts}
use Rattle.ds_client.specs.Answering.{HasAnswered}
use Rattle.ds_client.specs.GoingOnLaws.{steps_go_on}
use Rattle.ds_clients.specs.Runs.{HasMet, HaveMet, HaveAnswered, HaveRun, HasRun, AllBegin, AreWritten, IsIdle, seen_of}
use Rattle.ds_asked.specs.AskedLines.{lines_of_client}
use Rattle.ds_clients.specs.Runs.{texts_of}
use Rattle.ds_client.specs.Sessions.{SessionParts}
use Rattle.ds_client.proofs.GrowthLaws.{begins_before, grown_by_reading}
use Rattle.ds_client.proofs.LineLaws.{texts-append, drawn-append}

-- ---- meeting

-- the clients have then seen what the definitions of sessions say
seen-met : (all : List Session) (before after : List SessionParts) → HaveMet all before after
    → seen_of after ≡ map (raised_to all) (seen_of before)
seen-met all [] [] h = refl
seen-met all [] (t ∷ after) h = absurd h
seen-met all (s ∷ before) [] h = absurd h
seen-met all (s ∷ before) (t ∷ after) h =
    ap (λ x. x ∷ seen_of after) h.0.seen ∙ ap (λ xs. raised_to all s.seen ∷ xs) (seen-met all before after h.1)

length-met : (all : List Session) (before after : List SessionParts) → HaveMet all before after → length after ≡ length before
length-met all [] [] h = refl
length-met all [] (t ∷ after) h = absurd h
length-met all (s ∷ before) [] h = absurd h
length-met all (s ∷ before) (t ∷ after) h = ap suc (length-met all before after h.1)

module _ (f : PassParts → List ℕ) (same : (all : List Session) (s t : SessionParts) → HasMet all s t → f t.pass ≡ f s.pass) where
  kept-met : (all : List Session) (before after : List SessionParts) → HaveMet all before after
      → flat_map (λ t. f t.pass) after ≡ flat_map (λ s. f s.pass) before
  kept-met all [] [] h = refl
  kept-met all [] (t ∷ after) h = absurd h
  kept-met all (s ∷ before) [] h = absurd h
  kept-met all (s ∷ before) (t ∷ after) h =
      ap (λ ns. ns ++ flat_map (λ u. f u.pass) after) (same all s t h.0) ∙ ap (λ ns. f s.pass ++ ns) (kept-met all before after h.1)

-- what goes on from what all have seen then, goes on from what they had seen before
begin-met : (shards : ℕ) (journal : List Commit) (all : List Session) (before after : List SessionParts) → HaveMet all before after
    → AllBegin shards journal after → AllBegin shards journal before
begin-met shards journal all [] [] h on = on
begin-met shards journal all [] (t ∷ after) h on = absurd h
begin-met shards journal all (s ∷ before) [] h on = absurd h
begin-met shards journal all (s ∷ before) (t ∷ after) h on =
    All-cons (λ u. Begins shards journal u.pass) s before
    (begins_before shards journal s.pass t.pass (grown_by_reading s.pass t.pass h.0.read) (All-head (λ u. Begins shards journal u.pass) t
    after on))
    (begin-met shards journal all before after h.1 (All-tail (λ u. Begins shards journal u.pass) t after on))

bound-met : (all : List Session) (before after : List SessionParts) (bound : ℕ) → HaveMet all before after
    → All (λ s. s.pass.next ≤ bound) after
    → All (λ s. s.pass.next ≤ bound) before
bound-met all [] [] bound h below = All-nil (λ s. s.pass.next ≤ bound)
bound-met all [] (t ∷ after) bound h below = absurd h
bound-met all (s ∷ before) [] bound h below = absurd h
bound-met all (s ∷ before) (t ∷ after) bound h below =
    let here : t.pass.next ≤ bound = All-head (λ u. u.pass.next ≤ bound) t after below in
    let risen : s.pass.next ≤ t.pass.next = h.0.read.next in
    All-cons (λ u. u.pass.next ≤ bound) s before (omega arith)
    (bound-met all before after bound h.1 (All-tail (λ u. u.pass.next ≤ bound) t after below))

written-met : (all : List Session) (before after : List SessionParts) → HaveMet all before after → AreWritten after
written-met all [] [] h = tt
written-met all [] (t ∷ after) h = absurd h
written-met all (s ∷ before) [] h = absurd h
written-met all (s ∷ before) (t ∷ after) h = (h.0.text, written-met all before after h.1)

-- ---- numbers in another order

-- what stands in front, and what stands behind
pushed : (xs ys us vs : List ℕ) → IsPermutation ((xs ++ ys) ++ (us ++ vs)) ((xs ++ us) ++ (ys ++ vs))
pushed xs ys us vs =
    subst (λ l. IsPermutation l ((xs ++ us) ++ (ys ++ vs))) (sym (append_assoc xs ys (us ++ vs)))
    (subst (λ l. IsPermutation (xs ++ (ys ++ (us ++ vs))) l) (sym (append_assoc xs us (ys ++ vs)))
    (IsPermutation-append_right xs (ys ++ (us ++ vs)) (us ++ (ys ++ vs))
    (subst (λ l. IsPermutation l (us ++ (ys ++ vs))) (append_assoc ys us vs)
    (subst (λ l. IsPermutation ((ys ++ us) ++ vs) l) (append_assoc us ys vs)
    (IsPermutation-append_left vs (ys ++ us) (us ++ ys) (IsPermutation-append_comm ys us))))))

-- one client's numbers, and those of the others
joined : (xs ys us vs whole own others : List ℕ) → own ≡ xs ++ us → whole ≡ us ++ vs → IsPermutation (ys ++ vs) others
    → IsPermutation ((xs ++ ys) ++ whole) (own ++ others)
joined xs ys us vs whole own others is split same =
    subst (λ l. IsPermutation ((xs ++ ys) ++ l) (own ++ others)) (sym split)
    (subst (λ l. IsPermutation ((xs ++ ys) ++ (us ++ vs)) (l ++ others)) (sym is)
    (IsPermutation-trans ((xs ++ ys) ++ (us ++ vs)) ((xs ++ us) ++ (ys ++ vs)) ((xs ++ us) ++ others) (pushed xs ys us vs)
    (IsPermutation-append_right (xs ++ us) (ys ++ vs) others same)))

-- the numbers of earlier rounds, and of one more
continued : (earlier later whole before between after : List ℕ) → whole ≡ earlier ++ later → IsPermutation earlier before → between ≡ before
    → IsPermutation (between ++ later) after → IsPermutation whole after
continued earlier later whole before between after split same kept more =
    subst (λ l. IsPermutation l after) (sym split)
    (IsPermutation-trans (earlier ++ later) (before ++ later) after (IsPermutation-append_left later earlier before same)
    (subst (λ l. IsPermutation (l ++ later) after) kept more))

-- ---- the clients of a round

-- the lines of so many clients from one on
abbrev lines_from : ℕ → List NumberedLine → ℕ → ℕ → List NumberedLine
lines_from shards round client count = flat_map (λ c. lines_of_client shards c round) (range_with_len client count)

-- What the clients of a round have answered, from one of them on.
record Answered (definitions : List IndexDef) (shards : ℕ) (window : Option ℕ) (round : List NumberedLine) (client : ℕ)
    (before after : List SessionParts) : Type 0 where
  replies : List Reply
  clients : length after ≡ length before
  grown : (journal : List Commit) → AllBegin shards journal after → AllBegin shards journal before
  steps : (journal : List Commit) → AllBegin shards journal after
      → RoundSteps (asked shards) (world_of definitions shards window journal) round client (seen_of before) replies (seen_of after)
  counted : length replies ≡ length (lines_from shards round client (length before))
  printed : texts_of after ≡ replies_text replies
  commits : IsPermutation (flat_map (λ s. s.pass.commits) before ++ flat_map acknowledged replies) (flat_map (λ s. s.pass.commits) after)
  draws : IsPermutation (flat_map (λ s. s.pass.draws) before ++ drawn_in (asked shards) (lines_from shards round client (length before))
      replies)
      (flat_map (λ s. s.pass.draws) after)
  bounds : (bound : ℕ) → All (λ s. s.pass.next ≤ bound) after → All (λ s. s.pass.next ≤ bound) before
  accepts : (bound : ℕ) → All (λ s. s.pass.next ≤ bound) after → All (λ id. id < bound) (flat_map accepted replies)
  prints : (bound : ℕ) → All (λ s. s.pass.next ≤ bound) after → All (λ next. next ≤ bound) (flat_map printed_next replies)

module _ (definitions : List IndexDef) (shards : ℕ) (window : Option ℕ) (round : List NumberedLine) where
  no_clients : (client : ℕ) → Answered definitions shards window round client [] []
  no_clients client = record {
    replies = [];
    clients = refl;
    grown = λ journal on. on;
    steps = λ journal on. (refl, refl);
    counted = refl;
    printed = refl;
    commits = IsPermutation-refl [];
    draws = IsPermutation-refl [];
    bounds = λ bound below. below;
    accepts = λ bound below. All-nil (λ id. id < bound);
    prints = λ bound below. All-nil (λ next. next ≤ bound);
  }

  one_client : (client : ℕ) (s t : SessionParts) (before after : List SessionParts) → s.text ≡ []
      → HasAnswered definitions shards window s t (lines_of_client shards client round)
      → Answered definitions shards window round (client + 1) before after
      → Answered definitions shards window round client (s ∷ before) (t ∷ after)
  one_client client s t before after written own others = record {
    replies = own.replies ++ others.replies;
    clients = ap suc others.clients;
    grown = λ journal on.
        All-cons (λ u. Begins shards journal u.pass) s before
        (begins_before shards journal s.pass t.pass own.grown (All-head (λ u. Begins shards journal u.pass) t after on))
        (others.grown journal (All-tail (λ u. Begins shards journal u.pass) t after on));
    steps = λ journal on. (
      own.replies,
      others.replies,
      refl,
      steps_go_on definitions shards window (asked shards) t.pass s.seen t.seen (lines_of_client shards client round) own.replies
          own.steps journal (All-head (λ u. Begins shards journal u.pass) t after on),
      others.steps journal (All-tail (λ u. Begins shards journal u.pass) t after on),
    );
    counted = length-append own.replies others.replies ∙ ap (λ n. n + length others.replies) own.counted
        ∙ ap (λ n. length (lines_of_client shards client round) + n) others.counted
        ∙ sym (length-append (lines_of_client shards client round) (lines_from shards round (client + 1) (length before)));
    printed = ap (λ bs. bs ++ texts_of after) (own.printed ∙ ap (λ bs. bs ++ replies_text own.replies) written)
        ∙ ap (λ bs. replies_text own.replies ++ bs) others.printed ∙ sym (texts-append own.replies others.replies);
    commits = joined s.pass.commits (flat_map (λ u. u.pass.commits) before) (flat_map acknowledged own.replies)
        (flat_map acknowledged others.replies) (flat_map acknowledged (own.replies ++ others.replies)) t.pass.commits
        (flat_map (λ u. u.pass.commits) after) own.commits (flat_map-append acknowledged own.replies others.replies) others.commits;
    draws = joined s.pass.draws (flat_map (λ u. u.pass.draws) before)
        (drawn_in (asked shards) (lines_of_client shards client round) own.replies)
        (drawn_in (asked shards) (lines_from shards round (client + 1) (length before)) others.replies)
        (drawn_in (asked shards) (lines_of_client shards client round ++ lines_from shards round (client + 1) (length before))
        (own.replies ++ others.replies))
        t.pass.draws (flat_map (λ u. u.pass.draws) after) own.draws
        (drawn-append (asked shards) (lines_of_client shards client round) (lines_from shards round (client + 1) (length before))
        own.replies others.replies own.counted)
        others.draws;
    bounds = λ bound below.
        let here : t.pass.next ≤ bound = All-head (λ u. u.pass.next ≤ bound) t after below in
        let risen : s.pass.next ≤ t.pass.next = own.grown.next in
        All-cons (λ u. u.pass.next ≤ bound) s before (omega arith)
        (others.bounds bound (All-tail (λ u. u.pass.next ≤ bound) t after below));
    accepts = λ bound below.
        let here : t.pass.next ≤ bound = All-head (λ u. u.pass.next ≤ bound) t after below in
        subst (All (λ id. id < bound)) (sym (flat_map-append accepted own.replies others.replies))
        (All-append (λ id. id < bound) (flat_map accepted own.replies) (flat_map accepted others.replies)
        (All-weaker (λ id. id < t.pass.next) (λ id. id < bound) (λ id less. omega (arith, less, here)) (flat_map accepted own.replies)
        own.accepts)
        (others.accepts bound (All-tail (λ u. u.pass.next ≤ bound) t after below)));
    prints = λ bound below.
        let here : t.pass.next ≤ bound = All-head (λ u. u.pass.next ≤ bound) t after below in
        subst (All (λ next. next ≤ bound)) (sym (flat_map-append printed_next own.replies others.replies))
        (All-append (λ next. next ≤ bound) (flat_map printed_next own.replies) (flat_map printed_next others.replies)
        (All-weaker (λ next. next ≤ t.pass.next) (λ next. next ≤ bound) (λ next less. omega (arith, less, here))
        (flat_map printed_next own.replies) own.prints)
        (others.prints bound (All-tail (λ u. u.pass.next ≤ bound) t after below)));
  }

  all_clients : (client : ℕ) (before after : List SessionParts) → AreWritten before
      → HaveAnswered definitions shards window round client before after → Answered definitions shards window round client before after
  all_clients client [] [] written h = no_clients client
  all_clients client [] (t ∷ after) written h = absurd h
  all_clients client (s ∷ before) [] written h = absurd h
  all_clients client (s ∷ before) (t ∷ after) written h =
      one_client client s t before after written.0 h.0 (all_clients (client + 1) before after written.1 h.1)

-- ---- rounds

rounds-push : (reading : Reading) (w : World) (rounds : List (List NumberedLine)) (round : List NumberedLine)
    (first before after : List Session)
    (replies own : List Reply) → RoundsSteps reading w rounds first replies before
    → RoundSteps reading w round 0 (met before) own after → RoundsSteps reading w (rounds ++ round ∷ []) first (replies ++ own) after
rounds-push reading w [] round first before after replies own (none, same) last = (
  own,
  [],
  after,
  ap (λ rs. rs ++ own) none
      ∙ sym (append-nil own),
  subst (λ ss. RoundSteps reading w round 0 (met ss) own after) same last,
  (refl, refl),
)
rounds-push reading w (r ∷ rounds) round first before after replies own (now, later, between, is, step, steps) last = (
  now,
  later ++ own,
  between,
  ap (λ rs. rs ++ own) is ∙ append_assoc now later own,
  step,
  rounds-push reading w rounds round between before after later own steps last,
)

answered-push : (reading : Reading) (rounds : List (List NumberedLine)) (round : List NumberedLine)
    → answered_lines reading (rounds ++ round ∷ []) ≡ answered_lines reading rounds ++ by_client reading round
answered-push reading rounds round =
    flat_map-append (by_client reading) rounds (round ∷ [])
    ∙ ap (λ ls. answered_lines reading rounds ++ ls) (append-nil (by_client reading round))

idle-flat : (f : PassParts → List ℕ) → ((p : PassParts) → IsIdle p → f p ≡ []) → (sessions : List SessionParts)
    → All (λ s. IsIdle s.pass) sessions
    → flat_map (λ s. f s.pass) sessions ≡ []
idle-flat f each [] all = refl
idle-flat f each (s ∷ sessions) all =
    ap (λ ns. ns ++ flat_map (λ t. f t.pass) sessions) (each s.pass (All-head (λ t. IsIdle t.pass) s sessions all))
    ∙ idle-flat f each sessions (All-tail (λ t. IsIdle t.pass) s sessions all)

module _ (definitions : List IndexDef) (shards : ℕ) (window : Option ℕ) where
  -- before the first round
  pub run_nothing : (first : List SessionParts) → length first ≡ greatest_client + 1 → All (λ s. IsIdle s.pass) first
      → HasRun definitions shards window (seen_of first) [] first []
  run_nothing first many idle = record {
    replies = [];
    clients = many;
    steps = λ journal on. (refl, refl);
    counted = refl;
    printed = refl;
    commits = subst (IsPermutation []) (sym (idle-flat (λ p. p.commits) (λ p is. is.commits) first idle)) (IsPermutation-refl []);
    draws = subst (IsPermutation []) (sym (idle-flat (λ p. p.draws) (λ p is. is.draws) first idle)) (IsPermutation-refl []);
    accepts = λ bound below. All-nil (λ id. id < bound);
    prints = λ bound below. All-nil (λ next. next ≤ bound);
  }

  -- one more round, whose texts are written behind the others
  pub run_more : (first : List Session) (rounds : List (List NumberedLine)) (round : List NumberedLine) (before after : List SessionParts)
      (text : List ℕ) → HasRun definitions shards window first rounds before text → HaveRun definitions shards window round before after
      → HasRun definitions shards window first (rounds ++ round ∷ []) after (text ++ texts_of after)
  run_more first rounds round before after text run more = record {
    replies = run.replies ++ own.replies;
    clients = own.clients ∙ between_clients;
    steps = λ journal on.
        rounds-push (asked shards) (world_of definitions shards window journal) rounds round first (seen_of before)
        (seen_of after) run.replies own.replies
        (run.steps journal (begin-met shards journal (seen_of before) before more.between more.met (own.grown journal on)))
        (subst (λ ss. RoundSteps (asked shards) (world_of definitions shards window journal) round 0 ss own.replies (seen_of after))
        (seen-met (seen_of before) before more.between more.met) (own.steps journal on));
    counted = length-append run.replies own.replies ∙ ap (λ n. n + length own.replies) run.counted
        ∙ ap (λ n. length (answered_lines (asked shards) rounds) + n) (own.counted
        ∙ ap (λ n. length (lines_from shards round 0 n)) between_clients)
        ∙ sym (length-append (answered_lines (asked shards) rounds) (by_client (asked shards) round))
        ∙ ap (λ (ls : List NumberedLine). length ls) (sym (answered-push (asked shards) rounds round));
    printed = ap (λ bs. bs ++ texts_of after) run.printed ∙ ap (λ bs. replies_text run.replies ++ bs) own.printed
        ∙ sym (texts-append run.replies own.replies);
    commits = continued (flat_map acknowledged run.replies) (flat_map acknowledged own.replies)
        (flat_map acknowledged (run.replies ++ own.replies))
        (flat_map (λ s. s.pass.commits) before) (flat_map (λ s. s.pass.commits) more.between) (flat_map (λ s. s.pass.commits) after)
        (flat_map-append acknowledged run.replies own.replies) run.commits
        (kept-met (λ p. p.commits) (λ all s t h. h.read.commits) (seen_of before) before more.between more.met) own.commits;
    draws = continued (drawn_in (asked shards) (answered_lines (asked shards) rounds) run.replies)
        (drawn_in (asked shards) (lines_from shards round 0 (length more.between)) own.replies)
        (drawn_in (asked shards) (answered_lines (asked shards) (rounds ++ round ∷ [])) (run.replies ++ own.replies))
        (flat_map (λ s. s.pass.draws) before) (flat_map (λ s. s.pass.draws) more.between) (flat_map (λ s. s.pass.draws) after)
        drawn run.draws (kept-met (λ p. p.draws) (λ all s t h. h.read.draws) (seen_of before) before more.between more.met) own.draws;
    accepts = λ bound below.
        subst (All (λ id. id < bound)) (sym (flat_map-append accepted run.replies own.replies))
        (All-append (λ id. id < bound) (flat_map accepted run.replies) (flat_map accepted own.replies)
        (run.accepts bound (earlier bound below)) (own.accepts bound below));
    prints = λ bound below.
        subst (All (λ next. next ≤ bound)) (sym (flat_map-append printed_next run.replies own.replies))
        (All-append (λ next. next ≤ bound) (flat_map printed_next run.replies) (flat_map printed_next own.replies)
        (run.prints bound (earlier bound below)) (own.prints bound below));
  } where
    own : Answered definitions shards window round 0 more.between after
    own = all_clients definitions shards window round 0 more.between after (written-met (seen_of before) before more.between more.met)
        more.answered

    between_clients : length more.between ≡ greatest_client + 1
    between_clients = length-met (seen_of before) before more.between more.met ∙ run.clients

    earlier : (bound : ℕ) → All (λ s. s.pass.next ≤ bound) after → All (λ s. s.pass.next ≤ bound) before
    earlier bound below = bound-met (seen_of before) before more.between bound more.met (own.bounds bound below)

    drawn : drawn_in (asked shards) (answered_lines (asked shards) (rounds ++ round ∷ [])) (run.replies ++ own.replies)
        ≡ drawn_in (asked shards) (answered_lines (asked shards) rounds) run.replies
        ++ drawn_in (asked shards) (lines_from shards round 0 (length more.between)) own.replies
    drawn =
        ap (λ ls. drawn_in (asked shards) ls (run.replies ++ own.replies)) (answered-push (asked shards) rounds round)
        ∙ drawn-append (asked shards) (answered_lines (asked shards) rounds) (by_client (asked shards) round) run.replies own.replies
        run.counted
        ∙ ap (λ n. drawn_in (asked shards) (answered_lines (asked shards) rounds) run.replies ++ drawn_in (asked shards)
        (lines_from shards round 0 n) own.replies)
        (sym between_clients)

  -- its replies stand behind those before
  pub run_more_begins : (first : List Session) (rounds : List (List NumberedLine)) (round : List NumberedLine)
      (before after : List SessionParts) (text : List ℕ) (run : HasRun definitions shards window first rounds before text)
      (more : HaveRun definitions shards window round before after)
      → (own : List Reply) × ((run_more first rounds round before after text run more).replies ≡ run.replies ++ own)
  unfolding run_more
  run_more_begins first rounds round before after text run more = (_, refl)
