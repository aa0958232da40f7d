-- The run that is legal over which the definitions change, once both stores have ended.
use Rattle.std.proofs.Common.{◌≡◌, ℕ, zero, suc, ◌+◌, ◌-◌, ◌<◌, ◌≤◌, List, [], ◌∷◌}
use Rattle.std.proofs.Common.{◌++◌, length, map, take, drop, Option, refl, ap, sym, ◌∙◌}
use Rattle.std.proofs.Common.{subst, arith}
use Rattle.std.specs.Prelude.{All, IsPermutation, flat_map}
use Rattle.std.specs.List.{range_with_len}
use Rattle.std.proofs.Math.Seq.{take-append_seam, drop-append_seam}
use Rattle.std.proofs.lemmas.List.{append-nil, drop_all, take_all}
use Rattle.std.proofs.lemmas.List.FromFn.{length-range_with_len}
use Rattle.std.proofs.lemmas.Grind.{flat_map-append}
use Rattle.std.proofs.lemmas.List.Elements.{All-append, All-cons, All-head, All-nil, All-tail, All-weaker}
use Rattle.std.proofs.lemmas.List.Sorted.{All-permutation, IsPermutation-append, IsPermutation-append_comm}
use Rattle.std.proofs.lemmas.List.Sorted.{IsPermutation-sym, IsPermutation-trans, length_permutation}
use mathlib.Core.List.{IsPrefix}
use Rattle.ds_base.specs.Limits.{first_drawn_id}
use Rattle.ds_draw.specs.Draws.{numbers}
use Rattle.ds_hub.specs.Growing.{AreLonger}
use Rattle.ds_indexdef.specs.declared.IndexDef.{IndexDef}
use Rattle.ds_log.specs.declared.Commit.{Commit}
use Rattle.ds_log.specs.Logs.{shard_list}
use Rattle.ds_log.specs.ShardLaws.{later_entries, shard_list-append}
use Rattle.ds_model.specs.Asked.{asked}
use Rattle.ds_model.specs.Legal.{IdsDrawn, Legal, RoundsSteps, accepted, acknowledged, answered_lines, by_client, drawn_in, printed_next}
use Rattle.ds_model.specs.Sessions.{first_sessions}
use Rattle.ds_model.specs.Worlds.{shard_lists, world_of}
use Rattle.ds_reply.specs.declared.reply.Reply.{Reply}
use Rattle.ds_rounds.specs.Rounds.{NumberedLine}
use Rattle.ds_clients.specs.Runs.{AllBegin, HasRun, IsIdle, passes_of, seen_of}
use Rattle.ds_clients.specs.Sessions.{SessionParts}
use Rattle.ds_clients.proofs.GrowthLaws.{longer_through}
use Rattle.ds_clients.proofs.LineLaws.{drawn-append}
use Rattle.ds_serving.proofs.Alike.{all_sessions}
use Rattle.ds_store.specs.Ending.{Begins, HaveEnded}
use Rattle.ds_store.specs.Loads.{loaded}
use Rattle.ds_store.specs.Passes.{HasRead, PassParts}
use Rattle.ds_store_passes.proofs.Growing.{begins_through, begins_whole}
use Rattle.ds_row_limit.specs.ManyRows.{HaveFewRows}
use Rattle.ds_cutting.specs.LegalCut.{LegalCut}
use Rattle.ds_cutting.proofs.RowLaws.{front_taken}

-- The run is legal over which the definitions change; this place is that of the last commit before the cut, and no commit up to it has too
-- many rows.
pub record IsCutLegal (first second : List IndexDef) (shards : ℕ) (window : Option ℕ) (n place : ℕ) (rounds : List (List NumberedLine))
    (journal : List Commit) (replies : List Reply) : Type 0 where
  pub legal : LegalCut first second shards window n rounds journal replies
  pub place_is : place ≡ length (flat_map acknowledged legal.early)
  pub few : HaveFewRows second (take place journal)

-- ---- passes of a store that has ended

module _ (P : PassParts → Type 0) where
  pub front_of : (ps qs : List PassParts) → All P (ps ++ qs) → All P ps
  front_of [] qs all = All-nil P
  front_of (p ∷ ps) qs all = All-cons P p ps (All-head P p (ps ++ qs) all) (front_of ps qs (All-tail P p (ps ++ qs) all))

  pub back_of : (ps qs : List PassParts) → All P (ps ++ qs) → All P qs
  back_of [] qs all = all
  back_of (p ∷ ps) qs all = back_of ps qs (All-tail P p (ps ++ qs) all)

module _ (f : PassParts → List ℕ) (none : (p : PassParts) → IsIdle p → f p ≡ []) where
  none-idle : (idle : List PassParts) → All IsIdle idle → flat_map f idle ≡ []
  none-idle [] all = refl
  none-idle (p ∷ idle) all =
      ap (λ ns. ns ++ flat_map f idle) (none p (All-head IsIdle p idle all)) ∙ none-idle idle (All-tail IsIdle p idle all)

  of-sessions : (now : List SessionParts) → flat_map f (passes_of now) ≡ flat_map (λ s. f s.pass) now
  of-sessions [] = refl
  of-sessions (s ∷ now) = ap (λ ns. f s.pass ++ ns) (of-sessions now)

  -- with others that did nothing
  pub with_idle : (idle : List PassParts) (now : List SessionParts) → All IsIdle idle
      → flat_map f (idle ++ passes_of now) ≡ flat_map (λ s. f s.pass) now
  with_idle idle now all =
      flat_map-append f idle (passes_of now) ∙ ap (λ ns. ns ++ flat_map f (passes_of now)) (none-idle idle all) ∙ of-sessions now

  -- and with the one that loaded
  pub with_loader : (idle : List PassParts) (now : List SessionParts) (loader : PassParts) → All IsIdle idle
      → flat_map f ((idle ++ passes_of now) ++ loader ∷ []) ≡ flat_map (λ s. f s.pass) now ++ f loader
  with_loader idle now loader all =
      flat_map-append f (idle ++ passes_of now) (loader ∷ []) ∙ ap (λ ns. ns ++ (f loader ++ [])) (with_idle idle now all)
      ∙ ap (λ ns. flat_map (λ s. f s.pass) now ++ ns) (append-nil (f loader))

-- ---- the first store's journal and counter

-- numbers that are all at most this one are no more than it
range_bound : (a n m : ℕ) → All (λ x. x ≤ m) (range_with_len a (suc n)) → a + suc n ≤ m + 1
range_bound a zero m all = let first : a ≤ m = All-head (λ x. x ≤ m) a [] all in omega (arith, first)
range_bound a (suc n) m all =
    let rest = range_bound (a + 1) n m (All-tail (λ x. x ≤ m) a (range_with_len (a + 1) (suc n)) all) in omega (arith, rest)

-- where each of so many numbers is one of these, none of which is above m, they are at most m
pub at_most : (n m : ℕ) (own : List ℕ) → IsPermutation (numbers 1 (n + 1)) own → All (λ x. x ≤ m) own → n ≤ m
at_most zero m own once all = omega arith
at_most (suc n) m own once all =
    let n_is : suc n + 1 - 1 ≡ suc n = omega arith in
    let whole = All-permutation (λ x. x ≤ m) own (range_with_len 1 (suc n))
    (IsPermutation-sym (range_with_len 1 (suc n)) own (subst (λ k. IsPermutation (range_with_len 1 k) own) n_is once)) all in
    let most = range_bound 1 n m whole in omega (arith, most)

-- the counter isn't above one that is above each drawn id
pub counter_at_most : (first x m : ℕ) (own : List ℕ) → IsPermutation (numbers first x) own → All (λ id. id < m) own → first ≤ m → x ≤ m
counter_at_most first x m own once all least = by (x - first) refl where
  by : (k : ℕ) → x - first ≡ k → x ≤ m
  by zero none = omega (arith, none, least)
  by (suc k) some =
      let once_more = IsPermutation-sym (range_with_len first (suc k)) own
      (subst (λ n. IsPermutation (range_with_len first n) own) some once) in
      let first_one : first < m =
      All-head (λ id. id < m) first (range_with_len (first + 1) k)
      (All-permutation (λ id. id < m) own (range_with_len first (suc k)) once_more all) in
      let below = All-weaker (λ id. id < m) (λ id. id ≤ m - 1) (λ id lt. omega (arith, lt)) own all in
      let whole = All-permutation (λ id. id ≤ m - 1) own (range_with_len first (suc k)) once_more below in
      let most = range_bound first k (m - 1) whole in omega (arith, some, most, first_one)

-- ---- a longer journal

each-longer : (shards : ℕ) (js more : List Commit) (numbers : List ℕ)
    → AreLonger (map (λ shard. shard_list js shard shards) numbers) (map (λ shard. shard_list (js ++ more) shard shards) numbers)
each-longer shards js more [] = tt
each-longer shards js more (shard ∷ numbers) =
    ((later_entries shard shards (1 + length js) more, sym (shard_list-append js more shard shards)), each-longer shards js more numbers)

-- what begins a journal begins one that goes on from it
pub begins_later : (shards : ℕ) (js whole : List Commit) (p : PassParts) → IsPrefix js whole → Begins shards js p → Begins shards whole p
begins_later shards js whole p begins h =
    subst (λ (all : List Commit). Begins shards all p) begins.1 (
      begins_through p.journal js (js ++ begins.0) h.0 (begins.0, refl),
      longer_through p.lists (shard_lists shards js) (shard_lists shards (js ++ begins.0)) h.1
          (each-longer shards js begins.0 (range_with_len 0 shards)),
    )

-- ---- ids

answered-append : (shards : ℕ) (rounds later : List (List NumberedLine))
    → answered_lines (asked shards) (rounds ++ later) ≡ answered_lines (asked shards) rounds ++ answered_lines (asked shards) later
answered-append shards rounds later = flat_map-append (by_client (asked shards)) rounds later

-- what was done first, and what was done later, and all of it
both : (early late first own loaded all whole : List ℕ) → IsPermutation early first → IsPermutation late own → IsPermutation all first
    → loaded ≡ all → IsPermutation whole (own ++ loaded) → IsPermutation (early ++ late) whole
both early late first own loaded all whole of_early of_late once same sum =
    IsPermutation-trans (early ++ late) (loaded ++ own) whole
    (IsPermutation-append early loaded late own
    (subst (IsPermutation early) (sym same) (IsPermutation-trans early first all of_early (IsPermutation-sym all first once))) of_late)
    (IsPermutation-trans (loaded ++ own) (own ++ loaded) whole (IsPermutation-append_comm loaded own)
    (IsPermutation-sym whole (own ++ loaded) sum))

all-flat : (P : ℕ → Type 0) (f : PassParts → List ℕ) (now : List SessionParts) → All (λ s. All P (f s.pass)) now
    → All P (flat_map (λ s. f s.pass) now)
all-flat P f [] all = All-nil P
all-flat P f (s ∷ now) all =
    All-append P (f s.pass) (flat_map (λ t. f t.pass) now) (All-head (λ t. All P (f t.pass)) s now all)
    (all-flat P f now (All-tail (λ t. All P (f t.pass)) s now all))

-- ---- no cut

-- a legal run of no more rounds has no cut
abbrev pub legal_uncut : (first second : List IndexDef) (shards : ℕ) (window : Option ℕ) (n : ℕ) (rounds : List (List NumberedLine))
    (journal : List Commit) (replies : List Reply) → length rounds ≤ n → Legal first shards window rounds journal replies
    → LegalCut first second shards window n rounds journal replies
legal_uncut first second shards window n rounds journal replies few legal = record {
  early = replies;
  late = [];
  all = sym (append-nil replies);
  between = legal.after;
  after = legal.after;
  before_cut = subst
      (λ (rs : List (List NumberedLine)). RoundsSteps (asked shards) (world_of first shards window journal) rs (first_sessions shards)
      replies legal.after) (sym (take_all n rounds few)) legal.steps;
  behind_cut = subst
      (λ (rs : List (List NumberedLine)). RoundsSteps (asked shards) (world_of second shards window journal) rs legal.after [] legal.after)
      (sym (drop_all n rounds few)) (refl, refl);
  commits = legal.commits;
  ids = legal.ids;
}

-- ---- the legal run

module _ (first second : List IndexDef) (shards : ℕ) (window : Option ℕ) (rounds later : List (List NumberedLine))
    (now after : List SessionParts) (text more : List ℕ) (feeder loader : PassParts) (idle others : List PassParts)
    (before whole : List Commit) (next last : ℕ)
    (run : HasRun first shards window (first_sessions shards) rounds now text)
    (behind : HasRun second shards window (seen_of now) later after more)
    (all_idle : All IsIdle (idle ++ feeder ∷ [])) (closed : HaveEnded shards ((idle ++ feeder ∷ []) ++ passes_of now) before next)
    (others_idle : All IsIdle others) (ended : HaveEnded shards ((others ++ passes_of after) ++ loader ∷ []) whole last)
    (fed : HasRead (loaded shards feeder.journal feeder.next) loader) (stands : feeder.place ≡ length feeder.journal)
    (least : first_drawn_id ≤ feeder.next) (own_below : All (λ s. All (λ n. n ≤ feeder.place) s.pass.commits) now)
    (drawn_below : All (λ s. All (λ id. id < feeder.next) s.pass.draws) now) where
  of_feeder : (P : PassParts → Type 0) → All P ((idle ++ feeder ∷ []) ++ passes_of now) → P feeder
  of_feeder P all = All-head P feeder [] (back_of P idle (feeder ∷ []) (front_of P (idle ++ feeder ∷ []) (passes_of now) all))

  of_loader : (P : PassParts → Type 0) → All P ((others ++ passes_of after) ++ loader ∷ []) → P loader
  of_loader P all = All-head P loader [] (back_of P (others ++ passes_of after) (loader ∷ []) all)

  abbrev own : List ℕ
  own = flat_map (λ s. s.pass.commits) now

  abbrev drawn : List ℕ
  drawn = flat_map (λ s. s.pass.draws) now

  own_once : IsPermutation (numbers 1 (length before + 1)) own
  own_once = subst (IsPermutation (numbers 1 (length before + 1)))
      (with_idle (λ p. p.commits) (λ p is. is.commits) (idle ++ feeder ∷ []) now all_idle) closed.commits

  drawn_once : IsPermutation (numbers first_drawn_id next) drawn
  drawn_once = subst (IsPermutation (numbers first_drawn_id next))
      (with_idle (λ p. p.draws) (λ p is. is.draws) (idle ++ feeder ∷ []) now all_idle) closed.draws

  -- the feeder has seen all commits of the first store, and its counter
  seen_all : feeder.journal ≡ before
  seen_all =
      let few = at_most (length before) feeder.place own own_once (all-flat (λ n. n ≤ feeder.place) (λ p. p.commits) now own_below) in
      begins_whole feeder.journal before (of_feeder (Begins shards before) closed.begin).0 (omega (arith, few, stands))

  shown_all : next ≡ feeder.next
  shown_all =
      let most = counter_at_most first_drawn_id next feeder.next drawn drawn_once
      (all-flat (λ id. id < feeder.next) (λ p. p.draws) now drawn_below) least in
      let high = of_feeder (λ p. p.next ≤ next) closed.counters in
      omega (arith, most, high)

  goes_on : IsPrefix before whole
  goes_on = subst (λ (js : List Commit). IsPrefix js whole) seen_all
      (begins_through feeder.journal loader.journal whole fed.journal (of_loader (Begins shards whole) ended.begin).0)

  early_begin : AllBegin shards whole now
  early_begin = all_sessions (Begins shards whole) now
      (All-weaker (Begins shards before) (Begins shards whole) (λ p h. begins_later shards before whole p goes_on h) (passes_of now)
      (back_of (Begins shards before) (idle ++ feeder ∷ []) (passes_of now) closed.begin))

  late_begin : AllBegin shards whole after
  late_begin = all_sessions (Begins shards whole) after
      (back_of (Begins shards whole) others (passes_of after)
      (front_of (Begins shards whole) (others ++ passes_of after) (loader ∷ []) ended.begin))

  counted : length before + 1 - 1 ≡ length before
  counted = omega arith

  all_counted : length whole + 1 - 1 ≡ length whole
  all_counted = omega arith

  commits_once : IsPermutation (flat_map acknowledged run.replies ++ flat_map acknowledged behind.replies) (range_with_len 1 (length whole))
  commits_once =
      both (flat_map acknowledged run.replies) (flat_map acknowledged behind.replies) own (flat_map (λ s. s.pass.commits) after)
      loader.commits (range_with_len 1 (length before)) (range_with_len 1 (length whole)) run.commits behind.commits
      (subst (λ k. IsPermutation (range_with_len 1 k) own) counted own_once)
      (fed.commits ∙ ap (λ (js : List Commit). range_with_len 1 (length js)) seen_all)
      (subst (λ k. IsPermutation (range_with_len 1 k) (flat_map (λ s. s.pass.commits) after ++ loader.commits)) all_counted
      (subst (IsPermutation (numbers 1 (length whole + 1))) (with_loader (λ p. p.commits) (λ p is. is.commits)
      others after loader others_idle)
      ended.commits))

  draws_once : IsPermutation
      (drawn_in (asked shards) (answered_lines (asked shards) rounds) run.replies
      ++ drawn_in (asked shards) (answered_lines (asked shards) later) behind.replies)
      (range_with_len first_drawn_id (last - first_drawn_id))
  draws_once =
      both (drawn_in (asked shards) (answered_lines (asked shards) rounds) run.replies)
      (drawn_in (asked shards) (answered_lines (asked shards) later) behind.replies) drawn (flat_map (λ s. s.pass.draws) after)
      loader.draws (range_with_len first_drawn_id (next - first_drawn_id)) (range_with_len first_drawn_id (last - first_drawn_id))
      run.draws behind.draws drawn_once (fed.draws ∙ ap (λ n. range_with_len first_drawn_id (n - first_drawn_id)) (sym shown_all))
      (subst (IsPermutation (numbers first_drawn_id last)) (with_loader (λ p. p.draws) (λ p is. is.draws) others after loader others_idle)
      ended.draws)

  loader_below : feeder.next ≤ last
  loader_below = let within = of_loader (λ p. p.next ≤ last) ended.counters in omega (arith, within, fed.next)

  early_below : All (λ s. s.pass.next ≤ last) now
  early_below = all_sessions (λ p. p.next ≤ last) now
      (All-weaker (λ p. p.next ≤ next) (λ p. p.next ≤ last) (λ p le. omega (arith, le, shown_all, loader_below)) (passes_of now)
      (back_of (λ p. p.next ≤ next) (idle ++ feeder ∷ []) (passes_of now) closed.counters))

  late_below : All (λ s. s.pass.next ≤ last) after
  late_below = all_sessions (λ p. p.next ≤ last) after
      (back_of (λ p. p.next ≤ last) others (passes_of after)
      (front_of (λ p. p.next ≤ last) (others ++ passes_of after) (loader ∷ []) ended.counters))

  front_is : (n : ℕ) (all : List (List NumberedLine)) → length rounds ≡ n → all ≡ rounds ++ later → take n all ≡ rounds
  front_is n all many are =
      ap (take n) are ∙ ap (λ k. take k (rounds ++ later)) (sym many) ∙ take-append_seam rounds later

  back_is : (n : ℕ) (all : List (List NumberedLine)) → length rounds ≡ n → all ≡ rounds ++ later → drop n all ≡ later
  back_is n all many are =
      ap (drop n) are ∙ ap (λ k. drop k (rounds ++ later)) (sym many) ∙ drop-append_seam rounds later

  all_drawn : (all : List (List NumberedLine)) → all ≡ rounds ++ later
      → drawn_in (asked shards) (answered_lines (asked shards) all) (run.replies ++ behind.replies)
      ≡ drawn_in (asked shards) (answered_lines (asked shards) rounds) run.replies
      ++ drawn_in (asked shards) (answered_lines (asked shards) later) behind.replies
  all_drawn all are =
      ap (λ (rs : List (List NumberedLine)). drawn_in (asked shards) (answered_lines (asked shards) rs) (run.replies ++ behind.replies)) are
      ∙ ap (λ (ls : List NumberedLine). drawn_in (asked shards) ls (run.replies ++ behind.replies)) (answered-append shards rounds later)
      ∙ drawn-append (asked shards) (answered_lines (asked shards) rounds) (answered_lines (asked shards) later) run.replies behind.replies
      run.counted

  ids_drawn : (all : List (List NumberedLine)) → all ≡ rounds ++ later → IdsDrawn (asked shards) all (run.replies ++ behind.replies)
  ids_drawn all are = record {
    bound = last;
    from_first = omega (arith, least, loader_below);
    each_once = subst (λ ns. IsPermutation ns (range_with_len first_drawn_id (last - first_drawn_id))) (sym (all_drawn all are)) draws_once;
    accepted_below = subst (All (λ id. id < last)) (sym (flat_map-append accepted run.replies behind.replies))
        (All-append (λ id. id < last) (flat_map accepted run.replies) (flat_map accepted behind.replies) (run.accepts last early_below)
        (behind.accepts last late_below));
    printed_within = subst (All (λ n. n ≤ last)) (sym (flat_map-append printed_next run.replies behind.replies))
        (All-append (λ n. n ≤ last) (flat_map printed_next run.replies) (flat_map printed_next behind.replies) (run.prints last early_below)
        (behind.prints last late_below));
  }

  all_acknowledged : IsPermutation (flat_map acknowledged (run.replies ++ behind.replies)) (range_with_len 1 (length whole))
  all_acknowledged = subst (λ ns. IsPermutation ns (range_with_len 1 (length whole)))
      (sym (flat_map-append acknowledged run.replies behind.replies)) commits_once

  abbrev legal_cut : (n : ℕ) (all : List (List NumberedLine)) → length rounds ≡ n → all ≡ rounds ++ later
      → LegalCut first second shards window n all whole (run.replies ++ behind.replies)
  legal_cut n all many are = record {
    early = run.replies;
    late = behind.replies;
    all = refl;
    between = seen_of now;
    after = seen_of after;
    before_cut = subst
        (λ (rs : List (List NumberedLine)). RoundsSteps (asked shards) (world_of first shards window whole) rs (first_sessions shards)
        run.replies (seen_of now)) (sym (front_is n all many are)) (run.steps whole early_begin);
    behind_cut = subst
        (λ (rs : List (List NumberedLine)). RoundsSteps (asked shards) (world_of second shards window whole) rs (seen_of now) behind.replies
        (seen_of after)) (sym (back_is n all many are)) (behind.steps whole late_begin);
    commits = all_acknowledged;
    ids = ids_drawn all are;
  }

  -- so many commits did the rounds before the cut make
  early_many : feeder.place ≡ length (flat_map acknowledged run.replies)
  early_many =
      let same = length_permutation (flat_map acknowledged run.replies) own run.commits in
      let many = length_permutation (numbers 1 (length before + 1)) own own_once in
      let all = length-range_with_len 1 (length before + 1 - 1) in
      let long : length feeder.journal ≡ length before = ap (λ (js : List Commit). length js) seen_all in
      omega (arith, same, many, all, long, stands)

  pub cut_legal : (n : ℕ) (all : List (List NumberedLine)) → length rounds ≡ n → all ≡ rounds ++ later → HaveFewRows second feeder.journal
      → IsCutLegal first second shards window n feeder.place all whole (run.replies ++ behind.replies)
  cut_legal n all many are few = record {
    legal = legal_cut n all many are;
    place_is = early_many;
    few = subst (HaveFewRows second) (sym (ap (λ k. take k whole) stands
        ∙ front_taken feeder.journal whole (subst (λ (js : List Commit). IsPrefix js whole) (sym seen_all) goes_on))) few;
  }
