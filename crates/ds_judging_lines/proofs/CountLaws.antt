-- What the lines of replies to settle and apply tell, and which replies those are.
use Rattle.std.proofs.Common.{◌≡◌, ℕ, zero, suc, ◌+◌, ◌<◌, ◌^◌, Bool, List, [], ◌∷◌, length, refl, ap, ◌∙◌, subst, arith}
use Rattle.std.proofs.Common.{Option, Some, None}
use Rattle.std.specs.Prelude.{All, codes, option_map}
use Rattle.std.specs.List.{AllByRecursion}
use Rattle.std.proofs.lemmas.List.Elements.{All-from_recursion}
use Rattle.ds_log.specs.declared.Commit.{Commit}
use Rattle.ds_log.specs.declared.Entry.{Entry}
use Rattle.ds_request.specs.declared.call.Call.TheVariants as call
use Rattle.ds_reply.specs.declared.reply.Body.{Body}
use Rattle.ds_reply.specs.declared.reply.Body.TheVariants as body
use Rattle.ds_reply.specs.Results.{count_items}
use Rattle.ds_applied.specs.AppliedLists.{AreCounts}
use Rattle.ds_model.specs.Answers.{ApplyAnswers, CallAnswers, CountsWithin, SettleAnswers}
use Rattle.ds_model.specs.Groups.{IsSeenPlace}
use Rattle.ds_model.specs.Sessions.{Session, list_of, saw_counts, saw_place, saw_shard_count}
use Rattle.ds_model.specs.Worlds.{World, entries_up_to, shard_lists}
use Rattle.ds_reply_lines.specs.ReplyLines.{IsSaid, flag_at, naturals, number_at, numbers_at}
use Rattle.ds_reply_lines.proofs.PlainReplies.{applied_one, settled}
use Rattle.ds_judging_lines.specs.Deciding.{DecidesTurn, IsHeld, IsOnlyTold, IsTurn, NoAnswer, SaysThen, told_in, world_in}
use Rattle.ds_judging_lines.specs.declared.turn.Turn.{Turn}
use Rattle.ds_judging_lines.proofs.Decisions.{decides_one, told_is}

-- ---- counts

pub naturals_told : (ns : List ℕ) → naturals (count_items ns) ≡ Some ns
naturals_told [] = refl
naturals_told (n ∷ ns) = ap (option_map (λ ms. n ∷ ms)) (naturals_told ns)

abbrev AreSmall : List (List Entry) → Type 0
AreSmall = AllByRecursion (λ (entries : List Entry). length entries < 2 ^ 64)

lists_small : (lists : List (List Entry)) → ((shard : ℕ) → length (list_of lists shard) < 2 ^ 64) → AreSmall lists
lists_small [] small = tt
lists_small (entries ∷ lists) small = (small zero, lists_small lists (λ shard. small (suc shard)))

counts_small : (least : ℕ → ℕ) (shard : ℕ) (others : List ℕ) (lists : List (List Entry)) (counts : List ℕ)
    → CountsWithin least shard others lists counts → AreSmall lists → AllByRecursion (λ n. n < 2 ^ 64) counts
counts_small least shard [] [] [] within small = tt
counts_small least shard [] [] (n ∷ counts) within small = absurd within
counts_small least shard [] (entries ∷ lists) counts within small = absurd within
counts_small least shard (c ∷ others) [] counts within small = absurd within
counts_small least shard (c ∷ others) (entries ∷ lists) [] within small = absurd within
counts_small least shard (c ∷ others) (entries ∷ lists) (n ∷ counts) within small =
    (omega (arith, within.2, small.0), counts_small least (shard + 1) others lists counts within.3 small.1)

-- counts that may be shown are counts of the lists
pub are_counts : (least : ℕ → ℕ) (shard : ℕ) (others : List ℕ) (lists : List (List Entry)) (counts : List ℕ)
    → CountsWithin least shard others lists counts → AreCounts lists counts
are_counts least shard [] [] [] within = tt
are_counts least shard [] [] (n ∷ counts) within = absurd within
are_counts least shard [] (entries ∷ lists) counts within = absurd within
are_counts least shard (c ∷ others) [] counts within = absurd within
are_counts least shard (c ∷ others) (entries ∷ lists) [] within = absurd within
are_counts least shard (c ∷ others) (entries ∷ lists) (n ∷ counts) within =
    (within.2, are_counts least (shard + 1) others lists counts within.3)

-- such counts have 64 bits
pub counts_fit : (shards : ℕ) (journal : List Commit) (least : ℕ → ℕ) (others counts : List ℕ) → IsHeld shards journal
    → CountsWithin least 0 others (shard_lists shards journal) counts → All (λ n. n < 2 ^ 64) counts
counts_fit shards journal least others counts held within =
    All-from_recursion (λ n. n < 2 ^ 64) counts
    (counts_small least 0 others (shard_lists shards journal) counts within (lists_small (shard_lists shards journal) held.entries))

module _ (turn : Turn) (is : IsTurn turn) (s : Session) where
  abbrev journal : List Commit
  journal = turn.run.now.history.journal

  abbrev lists : List (List Entry)
  lists = shard_lists turn.run.now.history.shards journal

  abbrev w : World
  w = world_in turn

  -- ---- settle

  abbrev settles : Body → Session → Type 0
  settles said after = CallAnswers w turn.client s call.Settle said after

  -- what the line of a reply to a settle tells
  record ToldSettle (other : Body) (later : Session) : Type 0 where
    pub place : ℕ
    pub counts : List ℕ
    pub body_is : other ≡ body.Settle place counts
    pub place_told : number_at (codes "place") (told_in turn) ≡ Some place
    pub counts_told : numbers_at (codes "applied") (told_in turn) ≡ Some counts
    pub answers : SettleAnswers w s place counts later

  settle_told : (other : Body) (later : Session) → IsSaid turn.client turn.number turn.line.now other → settles other later
      → ToldSettle other later
  settle_told (body.Settle m counts) later said answers =
      let told = told_is turn (body.Settle m counts) is
      (settled turn.client turn.number is.client is.number m counts (omega (arith, answers.place.within, is.held.commits))
      (counts_fit turn.run.now.history.shards journal (entries_up_to w m) s.counts counts is.held answers.applied)) said in record {
        place = m;
        counts = counts;
        body_is = refl;
        place_told = ap (number_at (codes "place")) told;
        counts_told = ap (numbers_at (codes "applied")) told ∙ naturals_told counts;
        answers = answers;
      }
  settle_told _ later said answers = absurd answers

  pub settle_placeless : IsOnlyTold (IsSeenPlace journal s) (number_at (codes "place") (told_in turn)) None
      → NoAnswer settles turn.client turn.number turn.line.now
  settle_placeless none = λ other later counter said answers.
      let t = settle_told other later said answers in none t.place t.place_told t.answers.place

  module _ (m : ℕ) (place : IsOnlyTold (IsSeenPlace journal s) (number_at (codes "place") (told_in turn)) (Some m)) where
    abbrev Within : List ℕ → Type 0
    Within counts = CountsWithin (entries_up_to w m) 0 s.counts lists counts

    at_place : (other : Body) (later : Session) (t : ToldSettle other later) → (t.place ≡ m) × Within t.counts
    at_place other later t =
        let same = place.1 t.place t.place_told t.answers.place in
        (same, subst (λ k. CountsWithin (entries_up_to w k) 0 s.counts lists t.counts) same t.answers.applied)

    pub settle_countless : IsOnlyTold Within (numbers_at (codes "applied") (told_in turn)) None
        → NoAnswer settles turn.client turn.number turn.line.now
    settle_countless none = λ other later counter said answers.
        let t = settle_told other later said answers in none t.counts t.counts_told (at_place other later t).1

    pub settle_decided : (counts : List ℕ) (found : Option Body) (after : Session)
        → IsOnlyTold Within (numbers_at (codes "applied") (told_in turn)) (Some counts)
        → SaysThen turn (body.Settle m counts) (saw_counts lists counts (saw_place m s)) found after → DecidesTurn turn settles found after
    settle_decided counts found after within says =
        decides_one settles turn (body.Settle m counts) (saw_counts lists counts (saw_place m s)) after found tt
        (record { place = place.0; applied = within.0; seen = refl })
        (λ other later counter said answers.
        let t = settle_told other later said answers in
        let stood = at_place other later t in
        let same : t.counts ≡ counts = within.1 t.counts t.counts_told stood.1 in (
          t.body_is ∙ ap (λ k. body.Settle k t.counts) stood.0 ∙ ap (λ ns. body.Settle m ns) same,
          t.answers.seen ∙ ap (λ k. saw_counts lists t.counts (saw_place k s)) stood.0
              ∙ ap (λ ns. saw_counts lists ns (saw_place m s)) same,
        )) says

  -- ---- apply

  module _ (shard : ℕ) (below : shard < turn.run.now.history.shards) where
    abbrev applies : Body → Session → Type 0
    applies said after = CallAnswers w turn.client s (call.Apply shard) said after

    -- what the line of a reply to an apply tells
    record ToldApply (other : Body) (later : Session) : Type 0 where
      pub applied : Bool
      pub count : ℕ
      pub place : ℕ
      pub body_is : other ≡ body.Apply applied count place shard
      pub place_told : number_at (codes "place") (told_in turn) ≡ Some place
      pub count_told : number_at (codes "count") (told_in turn) ≡ Some count
      pub applied_told : flag_at (codes "applied") (told_in turn) ≡ Some applied
      pub answers : ApplyAnswers w s shard applied count place later

    apply_told : (other : Body) (later : Session) → IsSaid turn.client turn.number turn.line.now other → applies other later
        → ToldApply other later
    apply_told (body.Apply applied count m printed) later said answers =
        let told = told_is turn (body.Apply applied count m printed) is
        (applied_one turn.client turn.number is.client is.number applied count m printed
        (omega (arith, answers.1.within, is.held.entries shard)) (omega (arith, answers.1.place.within, is.held.commits))
        (omega (arith, answers.0, below, is.held.most))) said in record {
          applied = applied;
          count = count;
          place = m;
          body_is = ap (body.Apply applied count m) answers.0;
          place_told = ap (number_at (codes "place")) told;
          count_told = ap (number_at (codes "count")) told;
          applied_told = ap (flag_at (codes "applied")) told;
          answers = answers.1;
        }
    apply_told _ later said answers = absurd answers

    pub apply_placeless : IsOnlyTold (IsSeenPlace journal s) (number_at (codes "place") (told_in turn)) None
        → NoAnswer applies turn.client turn.number turn.line.now
    apply_placeless none = λ other later counter said answers.
        let t = apply_told other later said answers in none t.place t.place_told t.answers.place

    pub apply_countless : number_at (codes "count") (told_in turn) ≡ None → NoAnswer applies turn.client turn.number turn.line.now
    apply_countless none = λ other later counter said answers.
        let t = apply_told other later said answers in apart none t.count_told
      where
        apart : {o : Option ℕ} {k : ℕ} → o ≡ None → o ≡ Some k → ⊥
        apart none some = cc

    pub apply_flagless : flag_at (codes "applied") (told_in turn) ≡ None → NoAnswer applies turn.client turn.number turn.line.now
    apply_flagless none = λ other later counter said answers.
        let t = apply_told other later said answers in apart none t.applied_told
      where
        apart : {o : Option Bool} {k : Bool} → o ≡ None → o ≡ Some k → ⊥
        apart none some = cc

    module _ (m count : ℕ) (applied : Bool)
        (place : IsOnlyTold (IsSeenPlace journal s) (number_at (codes "place") (told_in turn)) (Some m))
        (count_told : number_at (codes "count") (told_in turn) ≡ Some count)
        (applied_told : flag_at (codes "applied") (told_in turn) ≡ Some applied) where
      same_count : (n : ℕ) → number_at (codes "count") (told_in turn) ≡ Some n → n ≡ count
      same_count n is = cc

      same_flag : (b : Bool) → flag_at (codes "applied") (told_in turn) ≡ Some b → b ≡ applied
      same_flag b is = cc

      -- whatever reply has the line, it is this one
      as_told : (other : Body) (later : Session) → ToldApply other later
          → (other ≡ body.Apply applied count m shard) × ApplyAnswers w s shard applied count m later
      as_told other later t =
          let stood : t.place ≡ m = place.1 t.place t.place_told t.answers.place in
          let n : t.count ≡ count = same_count t.count t.count_told in
          let b : t.applied ≡ applied = same_flag t.applied t.applied_told in (
            t.body_is ∙ (λ i. body.Apply (b i) (n i) (stood i) shard),
            subst (λ k. ApplyAnswers w s shard applied count k later) stood
                (subst (λ k. ApplyAnswers w s shard applied k t.place later) n
                (subst (λ f. ApplyAnswers w s shard f t.count t.place later) b t.answers)),
          )

      pub apply_unfit : ((later : Session) → ApplyAnswers w s shard applied count m later → ⊥)
          → NoAnswer applies turn.client turn.number turn.line.now
      apply_unfit never = λ other later counter said answers. never later (as_told other later (apply_told other later said answers)).1

      pub apply_decided : (found : Option Body) (after : Session)
          → ApplyAnswers w s shard applied count m (saw_shard_count lists shard count (saw_place m s))
          → SaysThen turn (body.Apply applied count m shard) (saw_shard_count lists shard count (saw_place m s)) found after
          → DecidesTurn turn applies found after
      apply_decided found after answers says =
          decides_one applies turn (body.Apply applied count m shard) (saw_shard_count lists shard count (saw_place m s)) after found tt
          (refl, answers)
          (λ other later counter said answered.
          let t = as_told other later (apply_told other later said answered) in (t.0, t.1.seen)) says
