-- What is due of settles and applies, and what was gathered of views.
use Rattle.ds_machine.proofs.Words.{nat_tests, ◌≡◌, ℕ, zero, suc, ◌+◌, ◌≤◌, Bool, List, [], ◌∷◌, length, take, map, refl, ap, sym, ◌∙◌}
use Rattle.ds_machine.proofs.Words.{subst, arith, Option, Some, None, range_with_len, Entry, shard_list, AreCounts, entries_by}
use Rattle.ds_machine.proofs.Words.{counted_place-within, CountsWithin, IsSeenPlace, in_transaction, Session, count_of, counted_place}
use Rattle.ds_machine.proofs.Words.{last_commit, list_of, shard_lists, CountsSeen, IsDuePlan, AreViewed, first_uncovered, shown, IsPulled}
use Rattle.ds_machine.proofs.Words.{StateParts, IsState, AreUpTo, AppliedCount}
use Rattle.ds_request.specs.declared.call.Call.TheVariants as call
use Rattle.ds_reply.specs.declared.reply.Body.TheVariants as body
use Rattle.ds_effects.specs.declared.effect.Effect.TheVariants as effect
use Rattle.ds_machine.proofs.Plans.{due_unrefused, keeps-quiet}
use Rattle.ds_machine.proofs.ReadPlans.{last_one, lists_are}

-- ---- viewed counts

pub viewed-counts : (seen counts applied : List ℕ) (views : List (Option ℕ)) → map (λ n. Some n) counts ≡ views
    → AreViewed seen views applied → AreUpTo seen counts × AreUpTo counts applied
viewed-counts seen counts applied views is viewed = by seen counts applied (subst (λ vs. AreViewed seen vs applied) (sym is) viewed) where
  by : (cs ns ms : List ℕ) → AreViewed cs (map (λ n. Some n) ns) ms → AreUpTo cs ns × AreUpTo ns ms
  by [] [] [] v = (tt, tt)
  by [] [] (a ∷ ms) v = absurd v
  by [] (n ∷ ns) ms v = absurd v
  by (c ∷ cs) [] ms v = absurd v
  by (c ∷ cs) (n ∷ ns) [] v = absurd v
  by (c ∷ cs) (n ∷ ns) (a ∷ ms) v = let rest = by cs ns ms v.2 in ((v.0, rest.0), (v.1, rest.1))

pub counts-listed : (lists : List (List Entry)) (counts applied : List ℕ) → AreUpTo counts applied → AreCounts lists applied
    → AreCounts lists counts
counts-listed [] [] [] up are = tt
counts-listed (es ∷ lists) (n ∷ ns) (a ∷ ms) up are = (omega (arith, up.0, are.0), counts-listed lists ns ms up.1 are.1)
counts-listed lists [] (a ∷ ms) up are = absurd up
counts-listed lists (n ∷ ns) [] up are = absurd up
counts-listed [] (n ∷ ns) (a ∷ ms) up are = absurd are
counts-listed (es ∷ lists) [] [] up are = absurd are

-- ---- a settle

covered : (st : StateParts) (place first n : ℕ) (others counts : List ℕ) → AreUpTo others counts
    → AreCounts (map (λ shard. shard_list st.store.journal shard st.store.shards) (range_with_len first n)) counts
    → first_uncovered (shown st) place first (map (λ count. Some count) counts) ≡ None
    → CountsWithin (λ shard. length (shard_list (take place st.store.journal) shard st.store.shards)) first others
    (map (λ shard. shard_list st.store.journal shard st.store.shards) (range_with_len first n)) counts
covered st place first zero [] [] up are none = tt
covered st place first zero (c ∷ others) [] up are none = absurd up
covered st place first zero others (n ∷ counts) up are none = absurd are
covered st place first (suc n) others [] up are none = absurd are
covered st place first (suc n) [] (count ∷ counts) up are none = absurd up
covered st place first (suc n) (c ∷ others) (count ∷ counts) up are none =
    let here : length (shard_list (take place st.store.journal) first st.store.shards) ≤ count = grind (arith, nat_tests) in
    (up.0, here, are.0, covered st place (first + 1) n others counts up.1 are.1 (grind (arith, nat_tests)))

pub settle_due : (st : StateParts) (s : Session) (client : ℕ) → IsState st → IsPulled st → s.transaction ≡ None → (place : ℕ)
    (c : CountsSeen) → IsSeenPlace st.store.journal s place → AreUpTo s.counts c.counts → AreUpTo c.counts st.applied.counts
    → AreCounts st.applied.lists c.counts → first_uncovered (shown st) place 0 (map (λ count. Some count) c.counts) ≡ None → c.commit ≡ counted_place st.applied.lists c.counts
    → IsDuePlan st s client call.Settle [] (body.Settle place c.counts) (effect.Settle place c)
settle_due st s client is pulled outside place c stands risen within are none commit = due_unrefused _ _ _ _ _ _ refl (keeps-quiet st.store.next call.Settle (body.Settle place c.counts) refl) (
  stands.within,
  record { commit = omega (arith, commit, counted_place-within st.store.journal st.applied c.counts is.follows); counts = within },
)
    (ap in_transaction outside) (λ w x. x) (λ window. record {
      place = stands;
      applied = covered st place 0 st.store.shards s.counts c.counts risen (subst (λ lists. AreCounts lists c.counts) lists are) none;
      seen = rw (commit ∙ ap (λ ls. counted_place ls c.counts) lists) refl;
    })
  where
    lists : st.applied.lists ≡ shard_lists st.store.shards st.store.journal
    lists = lists_are st is pulled

-- ---- an entry

-- a count of one shard alone
abbrev only_at : ℕ → ℕ → List ℕ
only_at zero n = n ∷ []
only_at (suc shard) n = 0 ∷ only_at shard n

only_is : (shard n : ℕ) → count_of (only_at shard n) shard ≡ n
only_is zero n = refl
only_is (suc shard) n = only_is shard n

module _ (st : StateParts) (s : Session) (client : ℕ) (is : IsState st) (pulled : IsPulled st) where
  last_within : (shard count : ℕ) → last_commit (take count (list_of st.applied.lists shard)) ≤ length st.store.journal
  last_within shard count =
      let low = last_one st.applied.lists (only_at shard count) shard in
      let high = counted_place-within st.store.journal st.applied (only_at shard count) is.follows in
      subst (λ n. last_commit (take n (list_of st.applied.lists shard)) ≤ length st.store.journal) (only_is shard count)
      (omega (arith, low, high))

  pub apply_due : s.transaction ≡ None → (applied : Bool) (count place shard commit : ℕ) → IsSeenPlace st.store.journal s place
      → commit ≡ last_commit (take count (list_of st.applied.lists shard))
      → count ≤ length (list_of st.applied.lists shard) → count ≤ count_of st.applied.counts shard
      → AppliedCount applied (count_of s.counts shard) (entries_by st.store.journal st.store.shards shard place) count
      → IsDuePlan st s client (call.Apply shard) [] (body.Apply applied count place shard)
      (effect.SeeCount (record { place = place; shard = shard; count = count; commit = commit }))
  apply_due outside applied count place shard commit stands last listed within told = due_unrefused _ _ _ _ _ _ refl
      (keeps-quiet st.store.next (call.Apply shard) (body.Apply applied count place shard) refl) (record {
        place = stands.within;
        commit = (let most = last_within shard count in omega (arith, last, most));
        count = within;
      })
      (ap in_transaction outside) (λ w x. x) (λ window. (
        refl,
        record {
          place = stands;
          counted = told;
          within = subst (λ lists. count ≤ length (list_of lists shard)) lists listed;
          seen = rw (last ∙ ap (λ ls. last_commit (take count (list_of ls shard))) lists) refl;
        },
      ))
    where
      lists : st.applied.lists ≡ shard_lists st.store.shards st.store.journal
      lists = lists_are st is pulled
