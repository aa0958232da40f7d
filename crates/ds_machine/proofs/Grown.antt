-- What a session has seen stays there while the state grows, and what an effect shows is there.
use Rattle.ds_machine.proofs.Words.{◌≡◌, ℕ, zero, suc, ◌≤◌, List, [], ◌∷◌, length, refl, sym, arith, Option, Some, None, length-append}
use Rattle.ds_machine.proofs.Words.{All, append-nil, KeyParts, Commit, Touch, Write, first_unissued, key_of, with_touch, Session}
use Rattle.ds_machine.proofs.Words.{Transaction, raised_at, count_of, Effect, IsAllowed, store_after, session_after, with_write}
use Rattle.ds_machine.proofs.Words.{StoreParts, StateParts, AreUpTo, IsTransaction, IsSession, Grows, All-push, greater_counts}
use Rattle.ds_log.specs.JournalLaws.{AreIssued-rises}
use Rattle.ds_effects.specs.declared.effect.Effect.TheVariants as effect

-- ---- counts

pub up_to-same : (cs : List ℕ) → AreUpTo cs cs
up_to-same [] = tt
up_to-same (c ∷ cs) = (omega arith, up_to-same cs)

pub up_to-then : (xs ys zs : List ℕ) → AreUpTo xs ys → AreUpTo ys zs → AreUpTo xs zs
up_to-then [] ys zs first second = grind arith
up_to-then (x ∷ xs) ys zs first second = grind (arith, up_to-then xs)

pub up_to-length : (cs bs : List ℕ) → AreUpTo cs bs → length cs ≡ length bs
up_to-length [] bs up = grind arith
up_to-length (c ∷ cs) bs up = grind (arith, up_to-length cs)

pub up_to-greater : (cs ds bs : List ℕ) → AreUpTo cs bs → AreUpTo ds bs → AreUpTo (greater_counts cs ds) bs
up_to-greater [] ds bs first second = grind arith
up_to-greater (c ∷ cs) ds bs first second = grind (arith, up_to-greater cs)

up_to-raised : (shard count : ℕ) (cs bs : List ℕ) → AreUpTo cs bs → count ≤ count_of bs shard → AreUpTo (raised_at shard count cs) bs
up_to-raised shard count [] bs within low = grind arith
up_to-raised zero count (c ∷ cs) bs within low = grind arith
up_to-raised (suc shard) count (c ∷ cs) bs within low = grind (arith, up_to-raised shard count cs)

pub up_to-risen : (shard count : ℕ) (cs : List ℕ) → AreUpTo cs (raised_at shard count cs)
up_to-risen shard count [] = tt
up_to-risen zero count (c ∷ cs) = (omega arith, up_to-same cs)
up_to-risen (suc shard) count (c ∷ cs) = (omega arith, up_to-risen shard count cs)

-- ---- the state grows

pub grows-longer : (old new : StateParts) → Grows old new → length old.store.journal ≤ length new.store.journal
grows-longer old new grows = grind (arith, grows.journal, length-append {A = Commit})

transaction-grown : (old new : StoreParts) (o : Option Transaction) → length old.journal ≤ length new.journal → old.next ≤ new.next
    → IsTransaction old o → IsTransaction new o
transaction-grown old new None more rise is = tt
transaction-grown old new (Some t) more rise is =
    (λ k d below. omega (arith, more, is.0 k d below), AreIssued-rises old.next new.next t.writes rise is.1)

-- what was seen stays there
pub session-grown : (old new : StateParts) (s : Session) → Grows old new → IsSession old s → IsSession new s
session-grown old new s grows is =
    let more = grows-longer old new grows in record {
      place_within = omega (arith, more, is.place_within);
      counts_within = up_to-then s.counts old.applied.counts new.applied.counts is.counts_within grows.counts;
      next_within = omega (arith, is.next_within, grows.next);
      transaction_within = transaction-grown old.store new.store s.transaction more grows.next is.transaction_within;
    }

abbrev after : Effect → StateParts → StateParts
after e st = record st { store = store_after e st.store }

pub grows-same : (st : StateParts) → Grows st st
grows-same st = record { added = []; journal = sym (append-nil st.store.journal); next = omega arith; counts = up_to-same st.applied.counts }

-- an effect loses nothing
pub grows-after : (e : Effect) (st : StateParts) → Grows st (after e st)
grows-after (effect.CommitWrite w) st =
    record { added = w.draft ∷ []; journal = refl; next = omega arith; counts = up_to-same st.applied.counts }
grows-after (effect.CommitTransaction draft) st =
    record { added = draft ∷ []; journal = refl; next = omega arith; counts = up_to-same st.applied.counts }
grows-after _ st = grows-same st

-- ---- what an effect shows

touched-with : (n m : ℕ) (g : KeyParts) (ts : List Touch) → m ≤ n → All (λ (t : Touch). t.place ≤ n) ts
    → All (λ (t : Touch). t.place ≤ n) (with_touch g m ts)
touched-with n m g ts within all = grind (arith, All-push (λ (t : Touch). t.place ≤ n) ts (record { group = g; place = m }) all within)

transaction-after : (e : Effect) (st : StateParts) (s : Session) → IsAllowed e st s → IsSession st s
    → IsTransaction (store_after e st.store) (session_after e st.store s).transaction
transaction-after (effect.Begin several) st s a is = (λ k d below. absurd (omega (arith, below)), λ k d below. absurd (omega (arith, below)))
transaction-after effect.End st s a is = tt
transaction-after (effect.EndAt place) st s a is = tt
transaction-after (effect.CommitTransaction draft) st s a is = tt
transaction-after (effect.WriteGroup w) st s a is = by s.transaction is.transaction_within where
  by : (o : Option Transaction) → IsTransaction st.store o → IsTransaction st.store (with_write w o)
  by None was = tt
  by (Some t) was = (
    touched-with (length st.store.journal) w.place w.group t.touched a.place was.0,
    All-push (λ (v : Write). first_unissued st.store.next (key_of v).elems ≡ None) t.writes w.write was.1 a.issued,
  )
transaction-after (effect.ReadGroup r) st s a is =
    grind (arith, is.transaction_within, a.place, touched-with (length st.store.journal) r.place r.group)
transaction-after e st s a is = (session-grown st (after e st) s (grows-after e st) is).transaction_within

counts-after : (e : Effect) (st : StateParts) (s : Session) → IsAllowed e st s → AreUpTo s.counts st.applied.counts
    → AreUpTo (session_after e st.store s).counts st.applied.counts
counts-after e st s a is = grind (arith, up_to-greater, up_to-raised)

-- after an effect nothing was seen that isn't there
pub session-after : (e : Effect) (st : StateParts) (s : Session) → IsAllowed e st s → IsSession st s
    → IsSession (after e st) (session_after e st.store s)
session-after e st s a is = record {
  place_within = grind (arith, is.place_within, length-append {A = Commit});
  counts_within = counts-after e st s a is.counts_within;
  next_within = grind (arith, is.next_within);
  transaction_within = transaction-after e st s a is;
}
