-- Strong reads: gets, queries with an ancestor, and those whose versions are gone.
use Rattle.std.proofs.Common.{◌≡◌, ℕ, ◌≤◌, List, length, take, refl, ap, sym, subst, arith, Option}
use Rattle.std.proofs.Common.{Some, None}
use Rattle.std.specs.Prelude.{Ok}
use Rattle.std.proofs.lemmas.List.{take_all}
use Rattle.ds_entity.specs.Entities.{EntityParts}
use Rattle.ds_base.specs.Keys.{KeyParts, root_of}
use Rattle.ds_indexdef.specs.declared.IndexDef.{IndexDef}
use Rattle.ds_log.specs.declared.Commit.{Commit}
use Rattle.ds_log.specs.declared.Entry.{Entry}
use Rattle.ds_log.specs.Shards.{shard_of}
use Rattle.ds_request.specs.declared.call.Call.TheVariants as call
use Rattle.ds_reply.specs.declared.reply.Body.TheVariants as body
use Rattle.ds_model.specs.Answers.{ExpiredAnswers, saw_group}
use Rattle.ds_model.specs.Groups.{StandsAt, place_in, touching_if, with_transaction}
use Rattle.ds_model.specs.Refusals.{refusal_of}
use Rattle.ds_model.specs.Sessions.{Session, Transaction, last_commit, list_of, saw_place, saw_shard_count}
use Rattle.ds_store.specs.Answered.{HasLooked, HasReadGroup, IsExpired, IsGot, entries_up_to}
use Rattle.ds_store.specs.Passes.{PassParts, counts_of}
use Rattle.ds_session_state.specs.Answering.{HasSaid}
use Rattle.ds_session_state.specs.Sessions.{HasGrown, IsWithin, world_seen}
use Rattle.ds_session_state.specs.Standing.{AskedAt, MayReadAt, Touched}
use Rattle.ds_session_state.proofs.GrowthLaws.{begins_no_longer, grown_by_reading}
use Rattle.ds_session_state.proofs.SayingLaws.{call_answers, said_quietly}
use Rattle.ds_session_state.proofs.SeeingLaws.{counted_at, least_at, least_raised, touching_if_within, within_entries, within_later}
use Rattle.ds_session_state.proofs.SeeingLaws.{within_place, within_transaction}

-- ---- where a group stands

-- a touch of a group that isn't touched
pub looked_at : (s : Session) (p q : PassParts) (group : KeyParts) (m : ℕ) → IsWithin s p → place_in s.transaction group ≡ None
    → HasLooked p q m
    → MayReadAt s q group m
looked_at s p q group m within untouched looked = record {
  stands = subst (λ o. StandsAt q.journal s o m) (sym untouched)
      (record { seen = omega (arith, within.place, looked.read.place, looked.stands); within = omega (arith, looked.whole) });
  touched = (omega (arith, looked.whole), omega (arith, looked.stands));
}

-- and one that is
pub touched_at : (s : Session) (p : PassParts) (group : KeyParts) (m : ℕ) → place_in s.transaction group ≡ Some m → Touched p m
    → MayReadAt s p group m
touched_at s p group m is here = record {
  stands = subst (λ o. StandsAt p.journal s o m) (sym is) (refl, here.0);
  touched = here;
}

stands_later : (s : Session) (journal later : List Commit) (o : Option ℕ) (m : ℕ) → length journal ≤ length later → StandsAt journal s o m
    → StandsAt later s o m
stands_later s journal later None m longer h = record { seen = h.seen; within = omega (arith, h.within, longer) }
stands_later s journal later (Some place) m longer h = (h.0, omega (arith, h.1, longer))

pub may_read_later : (s : Session) (p q : PassParts) (group : KeyParts) (m : ℕ) → HasGrown p q → MayReadAt s p group m
    → MayReadAt s q group m
may_read_later s p q group m grown h =
    let longer : length p.journal ≤ length q.journal = begins_no_longer p.journal q.journal grown.journal in record {
      stands = stands_later s p.journal q.journal (place_in s.transaction group) m longer h.stands;
      touched = (omega (arith, h.touched.0, longer), omega (arith, h.touched.1, grown.place));
    }

-- where a strong read stands, the client may be shown
pub read_at : (shards : ℕ) (s : Session) (p q : PassParts) (group : KeyParts) (at : Option ℕ) (m entries : ℕ) → IsWithin s p
    → AskedAt at s p group
    → HasReadGroup shards p q group at m entries → MayReadAt s q group m
read_at shards s p q group None m entries within outside read = record {
  stands = subst (λ o. StandsAt q.journal s (place_in o group) m) (sym outside)
      (record { seen = omega (arith, within.place, read.stands.0); within = omega (arith, read.stands.1) });
  touched = (omega (arith, read.stands.1), read.stands.2);
}
read_at shards s p q group (Some place) m entries within may read =
    subst (MayReadAt s q group) (sym read.stands.0) (may_read_later s p q group place (grown_by_reading p q read.read) may)

module _ (definitions : List IndexDef) (shards : ℕ) (window : ℕ) (s : Session) (p q : PassParts) (within : IsWithin s p) where
  -- what the client has seen then is within what the pass has
  pub group_within : (group : KeyParts) (at : Option ℕ) (m entries : ℕ) → MayReadAt s q group m → HasReadGroup shards p q group at m entries
      → IsWithin (saw_group (world_seen definitions shards (Some window) q) group m s) q
  group_within group at m entries may read =
      within_entries (saw_place m (with_transaction (touching_if group m s.transaction) s)) q (shard_of group shards)
      (entries_up_to q.journal shards m (shard_of group shards)) (omega (arith, read.entries_are, read.seen))
      (within_place (with_transaction (touching_if group m s.transaction) s) q m may.touched.1
      (within_transaction s q (touching_if group m s.transaction)
      (touching_if_within q group m s.transaction may.touched later.transaction) later))
    where
      later : IsWithin s q
      later = within_later s p q (grown_by_reading p q read.read) within

  -- ---- gets

  pub got : (client : ℕ) (key : KeyParts) (at : Option ℕ) (found : Option EntityParts) (m entries : ℕ)
      → refusal_of definitions s (call.Get key) ≡ None
      → AskedAt at s p (root_of key) → IsGot shards p q key at found m entries
      → HasSaid definitions shards (Some window) p q s (saw_group (world_seen definitions shards (Some window) q) (root_of key) m s)
      (Ok (record { client = client; call = call.Get key })) (body.Get found m)
  got client key at found m entries unrefused asked is =
      let may = read_at shards s p q (root_of key) at m entries within asked is.read in
      said_quietly definitions shards (Some window) p q s (saw_group (world_seen definitions shards (Some window) q) (root_of key) m s)
      (Ok (record { client = client; call = call.Get key })) (body.Get found m) refl is.read.read
      (group_within (root_of key) at m entries may is.read)
      (call_answers (world_seen definitions shards (Some window) q) s (saw_group (world_seen definitions shards (Some window) q)
      (root_of key) m s)
      (record { client = client; call = call.Get key }) (body.Get found m) refl unrefused
      (record { place = may.stands; exact = is.exact; seen = refl }))

  -- ---- the versions are gone

  -- the transaction has ended
  abbrev pub saw_expired : KeyParts → ℕ → ℕ → Session
  saw_expired group applied m = saw_shard_count q.lists (shard_of group shards) applied (saw_place m (with_transaction None s))

  pub expired_answers : (group : KeyParts) (at : Option ℕ) (t : Transaction) (snapshot applied commit : ℕ) → s.transaction ≡ Some t
      → AskedAt at s p group
      → (is : IsExpired shards window p q group at snapshot applied commit)
      → ExpiredAnswers (world_seen definitions shards (Some window) q) s group applied is.place snapshot
      (saw_expired group applied is.place)
  expired_answers group at t snapshot applied commit inside asked is = record {
    inside = t;
    has = inside;
    place = (read_at shards s p q group at is.place snapshot within asked is.read).stands;
    entries = is.read.entries_are;
    window = window;
    windowed = refl;
    gone = is.gone;
    no_lower = omega (arith, least_at (shard_of group shards) s.counts (counts_of p) within.counts, is.no_lower);
    applied_within = omega (arith, is.applied_is, counted_at q.lists (shard_of group shards));
    seen = refl;
  }

  pub expired_within : (group : KeyParts) (at : Option ℕ) (snapshot applied commit : ℕ) → AskedAt at s p group
      → (is : IsExpired shards window p q group at snapshot applied commit) → IsWithin (saw_expired group applied is.place) q
  expired_within group at snapshot applied commit asked is = record {
    place = omega (arith, placed.place, last, is.commit_is, is.stands);
    counts = least_raised (shard_of group shards) applied s.counts (counts_of q) later.counts (omega (arith, is.applied_is));
    next = later.next;
    transaction = tt;
  } where
    later : IsWithin s q
    later = within_later s p q (grown_by_reading p q is.read.read) within

    placed : IsWithin (saw_place is.place s) q
    placed = within_place s q is.place (read_at shards s p q group at is.place snapshot within asked is.read).touched.1 later

    last : last_commit (take applied (list_of q.lists (shard_of group shards))) ≡ last_commit (list_of q.lists (shard_of group shards))
    last = ap (λ (es : List Entry). last_commit es)
        (take_all applied (list_of q.lists (shard_of group shards))
        (omega (arith, is.applied_is, counted_at q.lists (shard_of group shards))))

  pub get_expired : (client : ℕ) (key : KeyParts) (at : Option ℕ) (t : Transaction) (snapshot applied commit : ℕ)
      → refusal_of definitions s (call.Get key) ≡ None → s.transaction ≡ Some t → AskedAt at s p (root_of key)
      → (is : IsExpired shards window p q (root_of key) at snapshot applied commit)
      → HasSaid definitions shards (Some window) p q s (saw_expired (root_of key) applied is.place)
      (Ok (record { client = client; call = call.Get key })) (body.Expired applied is.place snapshot)
  get_expired client key at t snapshot applied commit unrefused inside asked is =
      said_quietly definitions shards (Some window) p q s (saw_expired (root_of key) applied is.place)
      (Ok (record { client = client; call = call.Get key })) (body.Expired applied is.place snapshot) refl is.read.read
      (expired_within (root_of key) at snapshot applied commit asked is)
      (call_answers (world_seen definitions shards (Some window) q) s (saw_expired (root_of key) applied is.place)
      (record { client = client; call = call.Get key }) (body.Expired applied is.place snapshot) refl unrefused
      (expired_answers (root_of key) at t snapshot applied commit inside asked is))
