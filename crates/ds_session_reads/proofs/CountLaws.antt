-- Settles, applies and queries without an ancestor: counts of the shards.
use Rattle.std.proofs.Common.{◌≡◌, ℕ, ◌+◌, ◌≤◌, List, [], ◌∷◌, length, map, take, refl, ap, sym, subst, arith, Bool}
use Rattle.std.proofs.Common.{true, false, Option, None}
use Rattle.std.specs.Prelude.{Ok, ⊤}
use Rattle.std.proofs.lemmas.List.{take_all}
use Rattle.ds_indexdef.specs.declared.IndexDef.{IndexDef}
use Rattle.ds_log.specs.declared.Commit.{Commit}
use Rattle.ds_log.specs.declared.Entry.{Entry}
use Rattle.ds_request.specs.declared.call.Call.TheVariants as call
use Rattle.ds_reply.specs.declared.reply.Body.TheVariants as body
use Rattle.ds_model.specs.Answers as model
use Rattle.ds_model.specs.Answers.{CountsWithin}
use Rattle.ds_model.specs.Refusals.{refusal_of}
use Rattle.ds_model.specs.Sessions.{Session, count_of, counted_place, last_commit, list_of, saw_counts}
use Rattle.ds_model.specs.Sessions.{saw_place}
use Rattle.ds_model.specs.Sessions.{saw_shard_count}
use Rattle.ds_store.specs.Answered.{AllApplied, AppliedCount, AreAtLeast, HasApplied, HasSettled, entries_up_to}
use Rattle.ds_store.specs.Passes.{PassParts, HasRead, counts_of}
use Rattle.ds_session_state.specs.Answering.{HasSaid}
use Rattle.ds_session_state.specs.Sessions.{IsWithin, world_seen}
use Rattle.ds_session_state.proofs.GrowthLaws.{grown_by_reading}
use Rattle.ds_session_state.proofs.SayingLaws.{call_answers, said_quietly}
use Rattle.ds_session_state.proofs.SeeingLaws.{counted_at, least_at, least_greater, least_itself, least_longer, least_raised, within_later}
use Rattle.ds_session_state.proofs.SeeingLaws.{within_place}

-- ---- the counts of all shards

-- of each shard at least so many entries are applied
abbrev AllLeast : (ℕ → ℕ) → ℕ → List (List Entry) → Type 0
AllLeast least shard [] = ⊤
AllLeast least shard (entries ∷ lists) = (least shard ≤ length entries) × AllLeast least (shard + 1) lists

none_least : (shard : ℕ) (lists : List (List Entry)) → AllLeast (λ i. 0) shard lists
none_least shard [] = tt
none_least shard (e ∷ lists) = (omega arith, none_least (shard + 1) lists)

applied_least : (shards : ℕ) (journal : List Commit) (m shard : ℕ) (lists : List (List Entry)) → AllApplied shards journal m shard lists
    → AllLeast (entries_up_to journal shards m) shard lists
applied_least shards journal m shard [] h = tt
applied_least shards journal m shard (e ∷ lists) h = (h.0, applied_least shards journal m (shard + 1) lists h.1)

-- what a pass has seen applied is within its lists, and no lower than what its client had seen
counts_within : (least : ℕ → ℕ) (shard : ℕ) (cs : List ℕ) (lists : List (List Entry)) → AreAtLeast cs (map length lists)
    → AllLeast least shard lists → CountsWithin least shard cs lists (map length lists)
counts_within least shard [] [] h all = tt
counts_within least shard [] (e ∷ lists) h all = absurd h
counts_within least shard (c ∷ cs) [] h all = absurd h
counts_within least shard (c ∷ cs) (e ∷ lists) h all = (h.0, all.0, omega arith, counts_within least (shard + 1) cs lists h.1 all.1)

module _ (s : Session) (p q : PassParts) (within : IsWithin s p) where
  -- all counts that the pass has seen
  all_within : (t : Session) → counted_place q.lists (counts_of q) ≤ q.place → IsWithin t q
      → IsWithin (saw_counts q.lists (counts_of q) t) q
  all_within t low inside = record {
    place = omega (arith, low, inside.place);
    counts = least_greater t.counts (counts_of q) (counts_of q) inside.counts (least_itself (counts_of q));
    next = inside.next;
    transaction = inside.transaction;
  }

  later : HasRead p q → IsWithin s q
  later h = within_later s p q (grown_by_reading p q h) within

  pub counts_seen : (counts : List ℕ) → HasRead p q → counts ≡ counts_of q → counted_place q.lists counts ≤ q.place
      → IsWithin (saw_counts q.lists counts s) q
  counts_seen counts h are low =
      subst (λ ns. IsWithin (saw_counts q.lists ns s) q) (sym are)
      (all_within s (subst (λ ns. counted_place q.lists ns ≤ q.place) are low) (later h))

  pub all_counted : (counts : List ℕ) → HasRead p q → counts ≡ counts_of q → CountsWithin (λ shard. 0) 0 s.counts q.lists counts
  all_counted counts h are =
      subst (λ ns. CountsWithin (λ shard. 0) 0 s.counts q.lists ns) (sym are)
      (counts_within (λ shard. 0) 0 s.counts q.lists (later h).counts (none_least 0 q.lists))

module _ (definitions : List IndexDef) (shards : ℕ) (window : Option ℕ) (client : ℕ) (s : Session) (p q : PassParts)
    (within : IsWithin s p) where
  -- ---- settles

  settled_within : (m commit : ℕ) → HasSettled shards p q m (counts_of q) commit
      → IsWithin (saw_counts q.lists (counts_of q) (saw_place m s)) q
  settled_within m commit is =
      all_within s p q within (saw_place m s) (omega (arith, is.commit_is, is.stands.1))
      (within_place s q m is.stands.0 (later s p q within is.read))

  pub settled : (m commit : ℕ) (counts : List ℕ) → refusal_of definitions s call.Settle ≡ None → HasSettled shards p q m counts commit
      → HasSaid definitions shards window p q s (saw_counts q.lists counts (saw_place m s))
      (Ok (record { client = client; call = call.Settle }))
      (body.Settle m counts)
  settled m commit counts unrefused is =
      subst (λ ns. HasSaid definitions shards window p q s (saw_counts q.lists ns (saw_place m s))
      (Ok (record { client = client; call = call.Settle }))
      (body.Settle m ns)) (sym is.counts_are)
      (said_quietly definitions shards window p q s (saw_counts q.lists (counts_of q) (saw_place m s))
      (Ok (record { client = client; call = call.Settle })) (body.Settle m (counts_of q)) refl is.read
      (settled_within m commit (subst (λ ns. HasSettled shards p q m ns commit) is.counts_are is))
      (call_answers (world_seen definitions shards window q) s (saw_counts q.lists (counts_of q) (saw_place m s))
      (record { client = client; call = call.Settle }) (body.Settle m (counts_of q)) refl unrefused
      (record {
        place = record { seen = omega (arith, within.place, is.seen); within = is.within };
        applied = counts_within (entries_up_to q.journal shards m) 0 s.counts q.lists (later s p q within is.read).counts
            (applied_least shards q.journal m 0 q.lists is.applied);
        seen = refl;
      })))

  -- ---- one shard

  pub applied : (shard count m commit : ℕ) (moved : Bool) → refusal_of definitions s (call.Apply shard) ≡ None
      → HasApplied shards p q shard moved count m commit
      → HasSaid definitions shards window p q s (saw_shard_count q.lists shard count (saw_place m s))
      (Ok (record { client = client; call = call.Apply shard })) (body.Apply moved count m shard)
  applied shard count m commit moved unrefused is =
      said_quietly definitions shards window p q s (saw_shard_count q.lists shard count (saw_place m s))
      (Ok (record { client = client; call = call.Apply shard })) (body.Apply moved count m shard) refl is.read one_within
      (call_answers (world_seen definitions shards window q) s (saw_shard_count q.lists shard count (saw_place m s))
      (record { client = client; call = call.Apply shard }) (body.Apply moved count m shard) refl unrefused (
        refl,
        record {
          place = record { seen = omega (arith, within.place, is.seen); within = omega (arith, is.whole) };
          counted = by moved is.counted;
          within = omega (arith, is.count_is, counted_at q.lists shard);
          seen = refl;
        },
      ))
    where
      before : count_of s.counts shard ≤ count_of (counts_of p) shard
      before = least_at shard s.counts (counts_of p) within.counts

      risen : count_of (counts_of p) shard ≤ count_of (counts_of q) shard
      risen = least_at shard (counts_of p) (counts_of q) (least_longer p.lists q.lists is.read.lists)

      by : (b : Bool) → AppliedCount b (count_of (counts_of p) shard) (entries_up_to q.journal shards m shard) count
          → model.AppliedCount b (count_of s.counts shard) (entries_up_to q.journal shards m shard) count
      by true is_so = (omega (arith, before, is_so.0), is_so.1)
      by false is_so = (omega (arith, before, risen, is.count_is), is_so)

      last : last_commit (take count (list_of q.lists shard)) ≡ last_commit (list_of q.lists shard)
      last = ap (λ (es : List Entry). last_commit es) (take_all count (list_of q.lists shard)
          (omega (arith, is.count_is, counted_at q.lists shard)))

      inside : IsWithin s q
      inside = later s p q within is.read

      one_within : IsWithin (saw_shard_count q.lists shard count (saw_place m s)) q
      one_within = record {
        place = omega (arith, inside.place, last, is.commit_is, is.stands.0, is.stands.1);
        counts = least_raised shard count s.counts (counts_of q) inside.counts (omega (arith, is.count_is));
        next = inside.next;
        transaction = inside.transaction;
      }
