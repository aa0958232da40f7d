-- What the last reply of a load tells, where it tells that all items were counted.
use Rattle.std.proofs.Common.{◌≡◌, ℕ, zero, suc, ◌+◌, ◌<◌, ◌≤◌, ◌^◌, List, [], ◌∷◌, ◌++◌, refl, ap, sym, ◌∙◌, arith, true}
use Rattle.std.proofs.Common.{cond, inl, inr, map, length, Option, None, subst, ◌⊎◌, append-nil, append_assoc, ne_eqb}
use Rattle.std.proofs.Common.{eq-eqb}
use Rattle.std.specs.Prelude.{◌==◌, ◌&&◌, ◌%◌, filter, flat_map, fold, codes}
use Rattle.std.specs.List.{AllByRecursion, range_with_len}
use Rattle.std.specs.List.Sorted.{IsPermutation}
use Rattle.std.specs.Ordering.{nat_cmp, match_ordering}
use Rattle.std.specs.declared.cmp.Ordering.{Ordering}
use Rattle.std.specs.declared.cmp.Ordering.TheVariants.{Less, Equal, Greater}
use Rattle.std.proofs.lemmas.Bool.{cases_eq}
use Rattle.std.proofs.lemmas.Grind.{flat_map-append}
use Rattle.std.proofs.lemmas.List.Sorted.{All-permutation, IsPermutation-map, length_permutation}
use Rattle.ds_entity.specs.declared.results.Item.{Item}
use Rattle.ds_entity.specs.declared.results.Seen.TheVariants as seen
use Rattle.ds_query.specs.declared.query.Select.TheVariants as select
use Rattle.ds_indexdef.specs.declared.IndexDef.{IndexDef}
use Rattle.ds_log.specs.declared.Commit.{Commit}
use Rattle.ds_reply.specs.declared.reply.Body.{Body}
use Rattle.ds_reply.specs.declared.reply.Body.TheVariants as body
use Rattle.ds_reply.specs.declared.reply.Reply.{Reply}
use Rattle.ds_rounds.specs.Lines.{Kept, lines_in}
use Rattle.ds_rounds.specs.Drafts.{IsUnbroken}
use Rattle.ds_rounds.specs.Rounds.{NumberedLine, rounds_from, rounds_in, rounds_of_input}
use Rattle.ds_rounds.proofs.LineLaws.{lines_in-newline, lines_in-nothing}
use Rattle.ds_model.specs.Answers.{CountsWithin}
use Rattle.ds_model.specs.Asked.{asked, client_asked}
use Rattle.ds_model.specs.Legal.{Legal, RoundsSteps, acknowledged, answered_lines}
use Rattle.ds_model.specs.Results.{items_of, result}
use Rattle.ds_model.specs.Sessions.{first_sessions}
use Rattle.ds_model.specs.Views.{global_view}
use Rattle.ds_model.specs.Worlds.{World, world_of}
use Rattle.ds_model.proofs.OkReplies.{asked-refuses}
use Rattle.ds_load.specs.Input.{load_text, line_of, put_text, puts_text, query_text, settle_text}
use Rattle.ds_load.specs.Items.{item_of}
use Rattle.ds_load.specs.Matches.{matching}
use Rattle.ds_load.specs.Telling.{sum_of}
use Rattle.ds_load.proofs.Counts.{SameTimes, SameTimes-permutation, put_same, placed, range_rises, rise-once, times}
use Rattle.ds_load.proofs.Ends.{IsRefusal}
use Rattle.ds_load.proofs.Ends as ends
use Rattle.ds_load.proofs.Found.{columns, found_items, matches, normal, told_of, window}
use Rattle.ds_load.proofs.Journals.{all_counted, entry_number, few_counted, indexes, puts, spread, spread_same, viewed}
use Rattle.ds_load.proofs.LineData.{put_line, put_read, query_line, query_read, settle_line, settle_read}
use Rattle.ds_load.proofs.Puts.{EndsWith, IsPut, IsPutAt, IsPutLine, ends_with, index_asked, index_at, index_of, index_told, same_lines}
use Rattle.ds_load.proofs.Rounds.{HasRounds, IsLine, ended, has_rounds, joined, lines_ended, numbered_from}
use Rattle.ds_load.proofs.Shares.{all_hold, few, told_each}

-- ---- which items match

same_test : (i : ℕ) → matches i ≡ (i % 70 == 23)
same_test i = by (cases_eq (i % 70) 23) where
  by : ((i % 70 ≡ 23) ⊎ (i % 70 ≡ 23 → ⊥)) → matches i ≡ (i % 70 == 23)
  by (inl is) =
      let ten : i % 10 ≡ 3 = omega (arith, is) in
      let seven : i % 7 ≡ 2 = omega (arith, is) in
      rw (ten, seven, is) refl
  by (inr not_so) = by_ten (cases_eq (i % 10) 3) where
    by_ten : ((i % 10 ≡ 3) ⊎ (i % 10 ≡ 3 → ⊥)) → matches i ≡ (i % 70 == 23)
    by_ten (inr other) = ap (λ b. b && (i % 7 == 2)) (ne_eqb (i % 10) 3 other) ∙ sym (ne_eqb (i % 70) 23 not_so)
    by_ten (inl ten) =
        let seven : i % 7 ≡ 2 → ⊥ = λ e. not_so (omega (arith, ten, e)) in
        ap (λ b. b && (i % 7 == 2)) (eq-eqb (i % 10) 3 ten) ∙ ne_eqb (i % 7) 2 seven ∙ sym (ne_eqb (i % 70) 23 not_so)

same_numbers : (is : List ℕ) → filter matches is ≡ filter (λ i. i % 70 == 23) is
same_numbers [] = refl
same_numbers (i ∷ is) =
    ap (λ b. cond b (i ∷ filter matches is) (filter matches is)) (same_test i)
    ∙ ap (λ js. cond (i % 70 == 23) (i ∷ js) js) (same_numbers is)

-- ---- the rounds

abbrev texts : List ℕ → List (List ℕ)
texts = map put_text

abbrev pub AreSmall : List ℕ → Type 0
AreSmall = AllByRecursion (λ i. i < 2 ^ 62)

pub range_small : (a n : ℕ) → a + n ≤ 2 ^ 62 → AreSmall (range_with_len a n)
range_small a zero le = tt
range_small a (suc n) le = (omega (arith, le), range_small (a + 1) n (omega (arith, le)))

all_lines : (is : List ℕ) → AreSmall is → AllByRecursion IsLine (texts is)
all_lines [] small = tt
all_lines (i ∷ is) small = (put_line i small.0, all_lines is small.1)

all_unbroken : (lines : List (List ℕ)) → AllByRecursion IsLine lines → AllByRecursion IsUnbroken lines
all_unbroken [] all = tt
all_unbroken (line ∷ lines) all = (all.0.unbroken, all_unbroken lines all.1)

puts_ended : (is : List ℕ) → puts_text is ≡ ended (texts is)
puts_ended [] = refl
puts_ended (i ∷ is) = ap (λ text. line_of (put_text i) ++ text) (puts_ended is)

tail_lines : lines_in true (line_of [] ++ (line_of settle_text ++ line_of query_text)) ≡ [] ∷ settle_text ∷ query_text ∷ []
tail_lines =
    lines_in-newline true [] (line_of settle_text ++ line_of query_text) tt
    ∙ ap (λ ls. [] ∷ ls)
    (ap (lines_in true) (append_assoc settle_text (10 ∷ []) (line_of query_text))
    ∙ lines_in-newline true settle_text (line_of query_text) settle_line.unbroken
    ∙ ap (λ ls. settle_text ∷ ls) (lines_in-newline true query_text [] query_line.unbroken
    ∙ ap (λ ls. query_text ∷ ls) (lines_in-nothing true)))

load_lines : (n : ℕ) → AreSmall (range_with_len 0 n)
    → lines_in true (load_text n) ≡ texts (range_with_len 0 n) ++ [] ∷ settle_text ∷ query_text ∷ []
load_lines n small =
    ap (λ text. lines_in true (text ++ (line_of [] ++ (line_of settle_text ++ line_of query_text)))) (puts_ended (range_with_len 0 n))
    ∙ lines_ended (texts (range_with_len 0 n)) (line_of [] ++ (line_of settle_text ++ line_of query_text))
    (all_unbroken (texts (range_with_len 0 n)) (all_lines (range_with_len 0 n) small))
    ∙ ap (λ ls. texts (range_with_len 0 n) ++ ls) tail_lines

abbrev settle_at : ℕ → NumberedLine
settle_at k = record { number = k; content = Kept settle_text }

abbrev query_at : ℕ → NumberedLine
query_at k = record { number = k + 1; content = Kept query_text }

last_round : (k : ℕ) → rounds_from true [] k (settle_text ∷ query_text ∷ []) ≡ (settle_at k ∷ query_at k ∷ []) ∷ []
unfolding rounds_from
last_round k = refl

abbrev RoundsOf : ℕ → Type 0
RoundsOf n = HasRounds [] 1 (texts (range_with_len 0 n)) (settle_text ∷ query_text ∷ [])

rounds_are : (n : ℕ) → AreSmall (range_with_len 0 n) → (r : RoundsOf n)
    → rounds_of_input (load_text n) ≡ r.rounds ++ (settle_at r.next ∷ query_at r.next ∷ []) ∷ []
unfolding rounds_in
rounds_are n small r = ap (rounds_from true [] 1) (load_lines n small) ∙ r.split ∙ ap (λ rs. r.rounds ++ rs) (last_round r.next)

-- ---- their lines

lines_put : (k : ℕ) (is : List ℕ) → AreSmall is → AllByRecursion (IsPutLine (asked 4)) (numbered_from k (texts is))
lines_put k [] small = tt
lines_put k (i ∷ is) small = ((i, put_read i small.0), lines_put (k + 1) is small.1)

lines_numbers : (k : ℕ) (is : List ℕ) → AreSmall is → map (index_told (asked 4)) (numbered_from k (texts is)) ≡ is
lines_numbers k [] small = refl
lines_numbers k (i ∷ is) small =
    ap (λ j. j ∷ map (index_told (asked 4)) (numbered_from (k + 1) (texts is))) (ap index_asked (put_read i small.0))
    ∙ ap (λ js. i ∷ js) (lines_numbers (k + 1) is small.1)

all_front : {X : Type 0} (P : X → Type 0) (xs ys : List X) → AllByRecursion P (xs ++ ys) → AllByRecursion P xs × AllByRecursion P ys
all_front P [] ys all = (tt, all)
all_front P (x ∷ xs) ys all = let later = all_front P xs ys all.1 in ((all.0, later.0), later.1)

each_round : (rounds : List (List NumberedLine)) → AllByRecursion (IsPutLine (asked 4)) (joined rounds)
    → AllByRecursion (AllByRecursion (IsPutLine (asked 4))) rounds
each_round [] all = tt
each_round (round ∷ rounds) all =
    let parts = all_front _ round (joined rounds) all in (parts.0, each_round rounds parts.1)

length-texts : (is : List ℕ) → length (texts is) ≡ length is
length-texts [] = refl
length-texts (i ∷ is) = ap suc (length-texts is)

length-range : (a n : ℕ) → length (range_with_len a n) ≡ n
length-range a zero = refl
length-range a (suc n) = ap suc (length-range (a + 1) n)

length-numbers : {X : Type 0} (f : X → ℕ) (xs : List X) → length (map f xs) ≡ length xs
length-numbers f [] = refl
length-numbers f (x ∷ xs) = ap suc (length-numbers f xs)

-- lists with the same numbers, each as often, are as long
placed_longer : (done : List ℕ) (x : ℕ) → length (placed done x) ≡ suc (length done)
placed_longer [] x = refl
placed_longer (y ∷ ys) x = by (nat_cmp x y) (placed_longer ys x) where
  by : (o : Ordering) → length (placed ys x) ≡ suc (length ys)
      → length (match_ordering o (x ∷ y ∷ ys) (x ∷ y ∷ ys) (y ∷ placed ys x)) ≡ suc (suc (length ys))
  by Less later = refl
  by Equal later = refl
  by Greater later = ap suc later

placed_long : (xs done : List ℕ) → length (fold placed done xs) ≡ length done + length xs
placed_long [] done = omega arith
placed_long (x ∷ xs) done = omega (arith, placed_long xs (placed done x), placed_longer done x)

same_length : (xs ys : List ℕ) → SameTimes xs ys → length xs ≡ length ys
same_length xs ys same = omega (arith, ap (λ (zs : List ℕ). length zs) (put_same xs ys [] same), placed_long xs [], placed_long ys [])

-- ---- a run over the load

-- the answer to the query, where all of so many items are counted
abbrev pub answer : ℕ → List ℕ → Body
answer n counts = body.Query (select.Projection (codes "c" ∷ [])) (map told_of (matching n)) (seen.Counts counts) None

-- the last reply is a refusal, or tells how many entries of each shard it counts; where these are all of them it is the answer
pub record Concludes (n : ℕ) (replies : List Reply) : Type 0 where
  pub front : List Reply
  pub last : Reply
  pub are : replies ≡ front ++ last ∷ []
  pub client : last.client ≡ 0
  pub small : last.line < 2 ^ 63
  pub told : ((b : Body) × (last.body ≡ b) × IsRefusal b)
      ⊎ ((counts : List ℕ) × (results : List Item)
      × (last.body ≡ body.Query (select.Projection (codes "c" ∷ [])) results (seen.Counts counts) None)
      × (sum_of counts ≤ n) × (sum_of counts ≡ n → last.body ≡ answer n counts))

module _ (definitions : List IndexDef) (window_kept : Option ℕ) (n : ℕ) (few_items : n ≤ 2 ^ 60) (journal : List Commit)
    (replies : List Reply)
    (legal : Legal definitions 4 window_kept (rounds_of_input (load_text n)) journal replies) where
  abbrev numbers : List ℕ
  numbers = range_with_len 0 n

  abbrev w : World
  w = world_of definitions 4 window_kept journal

  small : AreSmall numbers
  small = range_small 0 n (omega (arith, few_items))

  r : RoundsOf n
  r = has_rounds [] 1 (texts numbers) (settle_text ∷ query_text ∷ []) (all_lines numbers small)

  all_puts : AllByRecursion (AllByRecursion (IsPutLine (asked 4))) r.rounds
  all_puts = each_round r.rounds (subst (AllByRecursion (IsPutLine (asked 4))) (sym r.whole) (lines_put 1 numbers small))

  e : EndsWith (asked 4) (asked-refuses 4) w r.rounds (settle_at r.next ∷ query_at r.next ∷ []) replies
  e = ends_with (asked 4) (asked-refuses 4) w r.rounds (settle_at r.next ∷ query_at r.next ∷ []) (first_sessions 4) replies legal.after
      all_puts refl
      (subst (λ rounds. RoundsSteps (asked 4) w rounds (first_sessions 4) replies legal.after) (rounds_are n small r) legal.steps)

  two : ends.TwoReplies (asked 4) (asked-refuses 4) w (settle_at r.next) (query_at r.next) settle_read query_read e.back
  two = ends.two_replies (asked 4) (asked-refuses 4) w (settle_at r.next) (query_at r.next) settle_read query_read e.sessions e.back
      e.after e.sixteen e.steps

  abbrev acks : List ℕ
  acks = flat_map acknowledged e.front

  acks_are : flat_map acknowledged replies ≡ acks
  acks_are =
      ap (flat_map acknowledged) e.whole ∙ flat_map-append acknowledged e.front e.back
      ∙ ap (λ ns. acks ++ ns) (ends.both_quiet (asked 4) (asked-refuses 4) w (settle_at r.next) (query_at r.next) settle_read query_read
      e.back two)
      ∙ append-nil acks

  each_once : IsPermutation acks (range_with_len 1 (length journal))
  each_once = subst (λ ns. IsPermutation ns (range_with_len 1 (length journal))) acks_are legal.commits

  abbrev lines : List NumberedLine
  lines = answered_lines (asked 4) r.rounds

  lines_same : SameTimes (map (index_told (asked 4)) lines) numbers
  lines_same k =
      same_lines (asked 4) (asked-refuses 4) w r.rounds all_puts k
      ∙ ap (λ ls. times k (map (index_told (asked 4)) ls)) r.whole
      ∙ ap (times k) (lines_numbers 1 numbers small)

  many_lines : length lines ≡ n
  many_lines =
      sym (length-numbers (index_told (asked 4)) lines)
      ∙ same_length (map (index_told (asked 4)) lines) numbers lines_same
      ∙ length-range 0 n

  many_acks : length acks ≡ length journal
  many_acks = sym (length_permutation acks (range_with_len 1 (length journal)) each_once) ∙ length-range 1 (length journal)

  few_commits : length journal ≤ n
  few_commits = omega (
    arith,
    many_acks,
    many_lines,
    few (index_told (asked 4)) (index_at journal) acknowledged (IsPutAt journal) lines
        e.front e.told,
  )

  all_put : AllByRecursion IsPut journal
  all_put = puts [] journal (All-permutation (IsPutAt journal) acks (range_with_len 1 (length journal)) each_once
      (all_hold (index_told (asked 4)) (index_at journal) acknowledged (IsPutAt journal) lines e.front e.told))

  -- where there are so many commits, they put the items, each once
  items_same : n ≤ length journal → SameTimes (map index_of journal) numbers
  items_same all k =
      ap (times k) (sym (indexes [] journal))
      ∙ sym (SameTimes-permutation (map (index_at journal) acks) (map (index_at journal) (range_with_len 1 (length journal)))
      (IsPermutation-map (index_at journal) acks (range_with_len 1 (length journal)) each_once) k)
      ∙ ap (times k) (told_each (index_told (asked 4)) (index_at journal) acknowledged (IsPutAt journal) lines e.front e.told
      (omega (arith, all, many_acks, many_lines)))
      ∙ lines_same k

  same_spread : n ≤ length journal → SameTimes (spread journal) numbers
  same_spread all k = spread_same journal all_put k ∙ items_same all k

  all_lists : length (flat_map (λ entries. entries) w.lists) ≡ length journal
  all_lists =
      sym (length-numbers entry_number (flat_map (λ entries. entries) w.lists))
      ∙ same_length (spread journal) (map index_of journal) (spread_same journal all_put)
      ∙ length-numbers index_of journal

  all_seen : (cs counts : List ℕ) → CountsWithin (λ shard. 0) 0 cs w.lists counts → sum_of counts ≡ n
      → global_view w.lists counts ≡ map item_of (spread journal)
  all_seen cs counts within all =
      let many : n ≤ length journal = omega (arith, all, all_lists, few_counted (λ shard. 0) 0 cs w.lists counts within) in
      viewed journal counts all_put (all_counted (λ shard. 0) 0 cs w.lists counts within (omega (arith, all, all_lists, few_commits)))
      (λ k. omega (arith, same_spread many k, rise-once k 0 numbers (range_rises 0 n)))

  results_are : (results : List Item) (cs counts : List ℕ) → CountsWithin (λ shard. 0) 0 cs w.lists counts → sum_of counts ≡ n
      → results ≡ items_of columns (select.Projection (codes "c" ∷ [])) (global_view w.lists counts)
      (result normal window (global_view w.lists counts)).rows
      → results ≡ map told_of (matching n)
  results_are results cs counts within all exact =
      let many : n ≤ length journal = omega (arith, all, all_lists, few_counted (λ shard. 0) 0 cs w.lists counts within) in
      exact
      ∙ ap (λ es. items_of columns (select.Projection (codes "c" ∷ [])) es (result normal window es).rows) (all_seen cs counts within all)
      ∙ found_items n (spread journal) (same_spread many)
      ∙ ap (map told_of) (same_numbers numbers)

  abbrev FoundAt : List ℕ → Body → Type 0
  FoundAt = ends.FoundAt (asked 4) (asked-refuses 4) w (settle_at r.next) (query_at r.next) settle_read query_read

  abbrev Told : Body → Type 0
  Told said = ((b : Body) × (said ≡ b) × IsRefusal b)
      ⊎ ((counts : List ℕ) × (results : List Item)
      × (said ≡ body.Query (select.Projection (codes "c" ∷ [])) results (seen.Counts counts) None)
      × (sum_of counts ≤ n) × (sum_of counts ≡ n → said ≡ answer n counts))

  counted : (said : Body) (counts : List ℕ) → FoundAt counts said → Told said
  counted said counts found =
      inr (
        counts,
        found.results,
        found.is,
        omega (arith, few_counted (λ shard. 0) 0 found.within.0.counts w.lists counts found.within.1, all_lists, few_commits),
        λ all.
            found.is
            ∙ ap (λ rs. body.Query (select.Projection (codes "c" ∷ [])) rs (seen.Counts counts) None)
            (results_are found.results found.within.0.counts counts found.within.1 all found.exact),
      )

  told_last : (said : Body) → ((b : Body) × (said ≡ b) × IsRefusal b) ⊎ ((counts : List ℕ) × FoundAt counts said) → Told said
  told_last said (inl refused) = inl refused
  told_last said (inr (counts, found)) = counted said counts found

  pub concludes : Concludes n replies
  concludes = record {
    front = e.front ++ two.first ∷ [];
    last = two.second;
    are = e.whole ∙ ap (λ rs. e.front ++ rs) two.are ∙ sym (append_assoc e.front (two.first ∷ []) (two.second ∷ []));
    client = two.found.addressed ∙ ap client_asked query_read;
    small = omega (arith, two.found.numbered, r.below, length-texts numbers, length-range 0 n, few_items);
    told = told_last two.second.body (ends.found_at (asked 4) (asked-refuses 4) w (settle_at r.next) (query_at r.next) settle_read
        query_read e.back two);
  }
