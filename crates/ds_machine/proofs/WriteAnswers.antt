-- A write that nothing refuses: its commit, or its place in the transaction, is the definitions' answer.
use Rattle.ds_machine.proofs.Words.{nat_tests, common_steps, ◌≡◌, ℕ, zero, suc, ◌+◌, ◌-◌, ◌<◌, ◌≤◌, List, [], ◌∷◌, ◌++◌, length, refl, sym}
use Rattle.ds_machine.proofs.Words.{subst, arith, Option, Some, None, max, slice_get, All, nat_le, option_or, cond_both, append-nil}
use Rattle.ds_machine.proofs.Words.{All-nil, All-cons, Id, Elem, KeyParts, touch_place, Commit, Touch, Write, first_unissued, key_of}
use Rattle.ds_machine.proofs.Words.{place_in, counter_ids, Session, Transaction, StoreParts, StateParts, IsSession, IsTransaction}
use Rattle.ds_machine.proofs.Words.{IsWritable, IsWritePlan, fold, All-append, Name, unissued, group_of, StandsAt, counter_id, first_id}
use Rattle.ds_machine.proofs.Words.{next_above}
use Rattle.ds_base.specs.declared.key.Ident.{Ident}
use Rattle.ds_protocol.specs.Writing.{id_above}
use Rattle.ds_reply.specs.declared.reply.WriteAt.TheVariants as at
use Rattle.ds_effects.specs.declared.effect.Effect.TheVariants as effect

-- ---- the ids of a path whose ids are issued

pub first_none : (a b : Option ℕ) → option_or a b ≡ None → (a ≡ None) × (b ≡ None)
first_none a b none = grind (arith, common_steps)

-- an id that is issued is below the bound, and so the counter above it is none
own-within : (bound : ℕ) (i : Ident) → unissued bound i ≡ None → (id_above i ≤ bound) × All (λ id. id < bound) (counter_id i)
own-within bound (Name x) none = (omega arith, All-nil (λ id. id < bound))
own-within bound (Id n) none =
    let above : id_above (Id n) ≤ bound = grind (arith, nat_tests) in (
      above,
      cond_both (nat_le first_id n) (n ∷ []) [] (All (λ id. id < bound)) (λ high. All-cons (λ id. id < bound) n []
          (let below : n < bound = grind (arith, nat_tests) in below) (All-nil (λ id. id < bound))) (λ low. All-nil (λ id. id < bound)),
    )

-- the counter above the ids of a path whose ids are below a bound isn't above it
next-within : (bound : ℕ) (es : List Elem) (m : ℕ) → first_unissued bound es ≡ None → m ≤ bound
    → fold (λ next (e : Elem). max next (id_above e.ident)) m es ≤ bound
next-within bound [] m none low = low
next-within bound (e ∷ es) m none low =
    let both = first_none (unissued bound e.ident) (first_unissued bound es) none in
    let here = (own-within bound e.ident both.0).0 in
    next-within bound es (max m (id_above e.ident)) both.1 (omega arith)

pub ids-below : (bound : ℕ) (es : List Elem) → first_unissued bound es ≡ None → All (λ id. id < bound) (counter_ids es)
ids-below bound [] none = All-nil (λ id. id < bound)
ids-below bound (e ∷ es) none =
    let both = first_none (unissued bound e.ident) (first_unissued bound es) none in
    All-append (λ id. id < bound) (counter_id e.ident) (counter_ids es) (own-within bound e.ident both.0).1 (ids-below bound es both.1)

-- ---- where a group stands

stands-within : (journal : List Commit) (s : Session) (o : Option ℕ) (m : ℕ) → StandsAt journal s o m → m ≤ length journal
stands-within journal s None m h = h.within
stands-within journal s (Some place) m h = h.1

touched-within : (n : ℕ) (g : KeyParts) (ts : List Touch) (place : ℕ) → All (λ (t : Touch). t.place ≤ n) ts → Some place ≡ touch_place g ts
    → place ≤ n
touched-within n g [] place all is = cc
touched-within n g (t ∷ ts) place all is =
    let here : t.place ≤ n = all zero t (omega arith) in
    let later = touched-within n g ts place (λ k d below. all (suc k) d (omega arith)) in grind (arith, common_steps)

-- a group that is touched stands at its touch place
pub stands-touched : (st : StoreParts) (s : Session) (g : KeyParts) (place : ℕ) → IsTransaction st s.transaction
    → Some place ≡ place_in s.transaction g → StandsAt st.journal s (place_in s.transaction g) place
stands-touched st s g place is told = subst (λ o. StandsAt st.journal s o place) told (refl, by s.transaction is told) where
  by : (o : Option Transaction) → IsTransaction st o → Some place ≡ place_in o g → place ≤ length st.journal
  by None is told = cc
  by (Some t) is told = touched-within (length st.journal) g t.touched place is.0 told

-- ---- a commit by itself, and a write in a transaction

pub at_end : (cs : List Commit) (c : Commit) → slice_get (cs ++ c ∷ []) (length cs + 1 - 1) ≡ Some c
at_end cs c = subst (λ i. slice_get (cs ++ c ∷ []) i ≡ Some c) (let e : length cs ≡ length cs + 1 - 1 = omega arith in e) (at_length cs)
  where
    at_length : (ds : List Commit) → slice_get (ds ++ c ∷ []) (length ds) ≡ Some c
    at_length [] = refl
    at_length (d ∷ ds) = at_length ds

module _ (st : StateParts) (s : Session) (client : ℕ) (write : Write) (writable : IsWritable st s write) (seen : IsSession st s)
    (next : ℕ) (above : next ≡ next_above (key_of write).elems) where
  shown : next ≤ st.store.next
  shown =
      let low : next_above (key_of write).elems ≤ st.store.next =
      next-within st.store.next (key_of write).elems 0 writable.issued (omega arith) in omega (arith, low, above)

  pub commit_planned : (n : ℕ) (draft : Commit) → s.transaction ≡ None → n ≡ length st.store.journal + 1
      → draft ≡ record { client = client; touched = []; writes = write ∷ [] }
      → IsWritePlan st s client write (at.Commit n) (effect.CommitWrite (record { draft = draft; next = next }))
  commit_planned n draft outside number own = rw (number, own) (record {
    answers = λ window. rw (outside, above) (
      record {
        later = omega (arith, seen.place_within);
        committed = at_end st.store.journal (record { client = client; touched = []; writes = write ∷ [] });
      },
      refl,
    );
    allowed = record {
      shown = shown;
      untouched = refl;
      issued = All-cons (λ w. first_unissued st.store.next (key_of w).elems ≡ None) write [] writable.issued
          (All-nil (λ w. first_unissued st.store.next (key_of w).elems ≡ None));
    };
    definitions = refl;
    shards = refl;
    added = record { client = client; touched = []; writes = write ∷ [] } ∷ [];
    journal = refl;
    acknowledges = refl;
    next = refl;
  })

  pub group_planned : (t : Transaction) (group : KeyParts) (place : ℕ) → s.transaction ≡ Some t → group ≡ group_of write
      → StandsAt st.store.journal s (place_in s.transaction group) place → IsWritePlan st s client write (at.Place place)
      (effect.WriteGroup (record { group = group; place = place; write = write; next = next }))
  group_planned t group place inside is stands = rw is (record {
    answers = λ window. rw (inside, above) (rw (is, inside) at stands, refl);
    allowed = record {
      shown = shown;
      place = stands-within st.store.journal s (place_in s.transaction group) place stands;
      issued = writable.issued;
      allowed = rw inside (rw inside at writable.group, rw inside at writable.few);
    };
    definitions = refl;
    shards = refl;
    added = [];
    journal = sym (append-nil st.store.journal);
    acknowledges = refl;
    next = refl;
  })
