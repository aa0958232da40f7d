-- What reads say, and what shards have applied, is what the definitions answer.
use Rattle.ds_machine.proofs.Words.{◌≡◌, ℕ, zero, suc, ◌<◌, ◌≤◌, List, [], ◌∷◌, length, take, refl, ap, sym, ◌∙◌, arith, Option, Some}
use Rattle.ds_machine.proofs.Words.{None, max, KeyParts, root_of, EntityParts, Entry, shard_list, shard_of, entries_by, shard_view}
use Rattle.ds_machine.proofs.Words.{group_refusal, Session, count_of, list_of, counted_place, last_commit, raised_at, shard_lists}
use Rattle.ds_machine.proofs.Words.{GroupRead, IsDuePlan, session_after, IsPulled, StateParts, IsState, AreUpTo, world, take_all}
use Rattle.ds_machine.proofs.Words.{saw_group, ReadsAt, entity_of, MayReadGroup, IsReached}
use Rattle.std.proofs.Math.Nat.{le-max_left, le-max_right}
use Rattle.ds_applied.proofs.FollowLaws.{list_followed}
use Rattle.ds_applied.proofs.StrongViews.{strong_get}
use Rattle.ds_request.specs.declared.call.Call.TheVariants as call
use Rattle.ds_reply.specs.declared.reply.Body.TheVariants as body
use Rattle.ds_effects.specs.declared.effect.Effect.TheVariants as effect
use Rattle.ds_machine.proofs.Plans.{due_unrefused, keeps-quiet}

-- ---- counts

pub raised-count : (shard k : ℕ) (cs : List ℕ) → shard < length cs → count_of (raised_at shard k cs) shard ≡ max (count_of cs shard) k
raised-count shard k [] below = absurd (omega (arith, below))
raised-count zero k (c ∷ cs) below = refl
raised-count (suc shard) k (c ∷ cs) below = raised-count shard k cs (omega (arith, below))

pub up_to-count : (cs bs : List ℕ) (shard : ℕ) → AreUpTo cs bs → count_of cs shard ≤ count_of bs shard
up_to-count [] bs shard up = omega arith
up_to-count (c ∷ cs) [] shard up = absurd up
up_to-count (c ∷ cs) (b ∷ bs) zero up = up.0
up_to-count (c ∷ cs) (b ∷ bs) (suc shard) up = up_to-count cs bs shard up.1

-- ---- the lists of a journal that was looked at

module _ (st : StateParts) (is : IsState st) (pulled : IsPulled st) where
  whole : take st.applied.commits st.store.journal ≡ st.store.journal
  whole = take_all st.applied.commits st.store.journal (omega (arith, pulled))

  pub lists_are : st.applied.lists ≡ shard_lists st.store.shards st.store.journal
  lists_are = is.follows.lists ∙ rw (is.shards, whole) refl

  pub list_is : (shard : ℕ) → shard < st.applied.shards → list_of st.applied.lists shard ≡ shard_list st.store.journal shard st.store.shards
  list_is shard below =
      list_followed st.store.journal st.applied shard is.follows below ∙ rw (is.shards, whole) refl

-- ---- a get

module _ (st : StateParts) (s : Session) (is : IsState st) (group : KeyParts) (r : GroupRead) (reached : IsReached st group r) where
  pub read_seen : (window : Option ℕ) → session_after (effect.ReadGroup r) st.store s ≡ saw_group (world st.store window) group r.place s
  read_seen window = rw (reached.group_is, reached.entries_are, reached.shard_is) refl

  pub may_read : group_refusal s.transaction (Some group) ≡ None → MayReadGroup r st s
  may_read allowed = record { place = reached.within; entries = reached.applied; allowed = rw reached.group_is allowed }

  pub view_is_strong : shard_view st.applied.lists r.shard r.entries
      ≡ shard_view st.applied.lists (shard_of group st.applied.shards)
      (entries_by st.store.journal st.applied.shards (shard_of group st.applied.shards) r.place)
  view_is_strong = rw (reached.entries_are, reached.shard_is, is.shards) refl

  pub shard_there : shard_of group st.applied.shards < st.applied.shards
  shard_there = omega (arith, reached.shard_below, reached.shard_is ∙ ap (shard_of group) (sym is.shards))

  pub place_there : r.place ≤ st.applied.commits
  place_there = omega (arith, reached.within, reached.pulled)

pub get_due : (st : StateParts) (s : Session) (client : ℕ) (key : KeyParts) (r : GroupRead) (found : Option EntityParts) → IsState st
    → IsReached st (root_of key) r → ReadsAt st.store.journal s (root_of key) r.place
    → group_refusal s.transaction (Some (root_of key)) ≡ None → found ≡ entity_of (shard_view st.applied.lists r.shard r.entries) key
    → IsDuePlan st s client (call.Get key) [] (body.Get found r.place) (effect.ReadGroup r)
get_due st s client key r found is reached stands allowed exact = due_unrefused _ _ _ _ _ _ refl (keeps-quiet st.store.next (call.Get key) (body.Get found r.place) refl)
    (may_read st s is (root_of key) r reached allowed) allowed (λ w x. x) (λ window. record {
      place = stands;
      exact = exact ∙ ap (λ es. entity_of es key) (view_is_strong st s is (root_of key) r reached)
          ∙ strong_get st.store.journal st.applied r.place key is.follows (place_there st s is (root_of key) r reached)
          (shard_there st s is (root_of key) r reached);
      seen = read_seen st s is (root_of key) r reached window;
    })

-- ---- an entry

no_entries : (n : ℕ) → last_commit (take n []) ≡ 0
no_entries zero = refl
no_entries (suc n) = refl

-- the last commit of one shard's entries isn't above that of all
pub last_one : (lists : List (List Entry)) (counts : List ℕ) (shard : ℕ)
    → last_commit (take (count_of counts shard) (list_of lists shard)) ≤ counted_place lists counts
last_one [] counts shard = omega (arith, no_entries (count_of counts shard))
last_one (es ∷ lists) [] shard = omega arith
last_one (es ∷ lists) (n ∷ counts) zero = le-max_left (last_commit (take n es)) (counted_place lists counts)
last_one (es ∷ lists) (n ∷ counts) (suc shard) =
    let later = last_one lists counts shard in
    let high = le-max_right (last_commit (take n es)) (counted_place lists counts) in
    omega (arith, later, high)

-- a shard that isn't there has no count
pub raised-beyond : (shard k : ℕ) (cs : List ℕ) → length cs ≤ shard → raised_at shard k cs ≡ cs
raised-beyond shard k [] beyond = refl
raised-beyond zero k (c ∷ cs) beyond = absurd (omega (arith, beyond))
raised-beyond (suc shard) k (c ∷ cs) beyond = ap (λ ns. c ∷ ns) (raised-beyond shard k cs (omega (arith, beyond)))
