-- What a client sees stays within what its pass has seen.
use Rattle.std.proofs.Common.{◌≡◌, ℕ, zero, suc, ◌≤◌, List, [], ◌∷◌, ◌++◌, length, map, refl, arith}
use Rattle.std.proofs.Common.{Bool, true, false, cond, Option, Some, None}
use Rattle.std.specs.Prelude.{All}
use Rattle.std.proofs.lemmas.List.Elements.{All-push, All-weaker}
use Rattle.ds_hub.specs.Growing.{AreLonger}
use Rattle.ds_base.specs.Keys.{KeyParts}
use Rattle.ds_base.specs.KeyOrder.{same_key}
use Rattle.ds_log.specs.declared.Entry.{Entry}
use Rattle.ds_log.specs.declared.Touch.{Touch}
use Rattle.ds_log.specs.JournalLaws.{AreIssued-rises}
use Rattle.ds_log.specs.Touches.{touch_place, with_touch, is_touched}
use Rattle.ds_model.specs.Groups.{touching, touching_if, with_transaction}
use Rattle.ds_model.specs.Sessions.{Session, Transaction, count_of, greater_counts, list_of, raised_at, saw_place, saw_next, saw_entries}
use Rattle.ds_store.specs.Answered.{AreAtLeast}
use Rattle.ds_store.specs.Passes.{PassParts, counts_of}
use Rattle.ds_session_state.specs.Sessions.{HasGrown, HasTransaction, IsWithin}
use Rattle.ds_session_state.specs.Standing.{Touched}
use Rattle.ds_session_state.proofs.GrowthLaws.{begins_no_longer}

-- ---- counts

pub least_itself : (counts : List ℕ) → AreAtLeast counts counts
least_itself [] = tt
least_itself (c ∷ counts) = (omega arith, least_itself counts)

pub least_through : (xs ys zs : List ℕ) → AreAtLeast xs ys → AreAtLeast ys zs → AreAtLeast xs zs
least_through [] [] zs h k = k
least_through [] (y ∷ ys) zs h k = absurd h
least_through (x ∷ xs) [] zs h k = absurd h
least_through (x ∷ xs) (y ∷ ys) [] h k = absurd k
least_through (x ∷ xs) (y ∷ ys) (z ∷ zs) h k = (omega (arith, h.0, k.0), least_through xs ys zs h.1 k.1)

pub least_longer : (lists later : List (List Entry)) → AreLonger lists later → AreAtLeast (map length lists) (map length later)
least_longer [] [] h = tt
least_longer [] (f ∷ later) h = absurd h
least_longer (e ∷ lists) [] h = absurd h
least_longer (e ∷ lists) (f ∷ later) h = (begins_no_longer e f h.0, least_longer lists later h.1)

pub least_raised : (shard n : ℕ) (cs counts : List ℕ) → AreAtLeast cs counts → n ≤ count_of counts shard
    → AreAtLeast (raised_at shard n cs) counts
least_raised shard n [] counts h le = h
least_raised shard n (c ∷ cs) [] h le = absurd h
least_raised zero n (c ∷ cs) (a ∷ counts) h le = (omega (arith, h.0, le), h.1)
least_raised (suc shard) n (c ∷ cs) (a ∷ counts) h le = (h.0, least_raised shard n cs counts h.1 le)

pub least_greater : (cs ds counts : List ℕ) → AreAtLeast cs counts → AreAtLeast ds counts → AreAtLeast (greater_counts cs ds) counts
least_greater [] ds counts h k = h
least_greater (c ∷ cs) [] counts h k = h
least_greater (c ∷ cs) (d ∷ ds) [] h k = absurd h
least_greater (c ∷ cs) (d ∷ ds) (a ∷ counts) h k = (omega (arith, h.0, k.0), least_greater cs ds counts h.1 k.1)

pub least_at : (shard : ℕ) (cs counts : List ℕ) → AreAtLeast cs counts → count_of cs shard ≤ count_of counts shard
least_at shard [] [] h = omega arith
least_at shard [] (a ∷ counts) h = absurd h
least_at shard (c ∷ cs) [] h = absurd h
least_at zero (c ∷ cs) (a ∷ counts) h = h.0
least_at (suc shard) (c ∷ cs) (a ∷ counts) h = least_at shard cs counts h.1

-- the count of a shard is the length of its list
pub counted_at : (lists : List (List Entry)) (shard : ℕ) → count_of (map length lists) shard ≡ length (list_of lists shard)
counted_at [] shard = refl
counted_at (e ∷ lists) zero = refl
counted_at (e ∷ lists) (suc shard) = counted_at lists shard

-- ---- touches

pub placed_below : (n : ℕ) (g : KeyParts) (ts : List Touch) (place : ℕ) → All (λ (t : Touch). t.place ≤ n) ts
    → touch_place g ts ≡ Some place → place ≤ n
placed_below n g [] place all is = cc
placed_below n g (t ∷ ts) place all is =
    by (same_key g t.group) is (placed_below n g ts place (λ k d below. all (suc k) d (omega arith))) where
      by : (b : Bool) → cond b (Some t.place) (touch_place g ts) ≡ Some place → (touch_place g ts ≡ Some place → place ≤ n) → place ≤ n
      by true here later = let same : place ≡ t.place = cc in let within : t.place ≤ n = all zero t (omega arith) in omega arith
      by false here later = later here

pub touched_place : (p : PassParts) (t : Transaction) (g : KeyParts) (m : ℕ) → HasTransaction p (Some t) → touch_place g t.touched ≡ Some m
    → Touched p m
touched_place p t g m has is = (
  placed_below (length p.journal) g t.touched m (All-weaker (λ touch. Touched p touch.place) (λ touch. touch.place ≤ length p.journal)
      (λ touch both. both.0) t.touched has.0) is,
  placed_below p.place g t.touched m (All-weaker (λ touch. Touched p touch.place) (λ touch. touch.place ≤ p.place) (λ touch both. both.1)
      t.touched has.0) is,
)

with_one_touch : (p : PassParts) (g : KeyParts) (m : ℕ) (ts : List Touch) → Touched p m → All (λ touch. Touched p touch.place) ts
    → All (λ touch. Touched p touch.place) (with_touch g m ts)
with_one_touch p g m ts here all = by (is_touched g ts) where
  by : (b : Bool) → All (λ touch. Touched p touch.place) (cond b ts (ts ++ record { group = g; place = m } ∷ []))
  by true = all
  by false = All-push (λ touch. Touched p touch.place) ts (record { group = g; place = m }) all here

pub touching_within : (p : PassParts) (g : KeyParts) (m : ℕ) (t : Transaction) → Touched p m → HasTransaction p (Some t)
    → HasTransaction p (Some (touching g m t))
touching_within p g m t here has = (with_one_touch p g m t.touched here has.0, has.1)

pub touching_if_within : (p : PassParts) (g : KeyParts) (m : ℕ) (o : Option Transaction) → Touched p m → HasTransaction p o
    → HasTransaction p (touching_if g m o)
touching_if_within p g m None here has = tt
touching_if_within p g m (Some t) here has = touching_within p g m t here has

-- ---- a pass that has seen more

pub transaction_later : (p q : PassParts) (o : Option Transaction) → HasGrown p q → HasTransaction p o → HasTransaction q o
transaction_later p q None grown has = tt
transaction_later p q (Some t) grown has =
    let longer : length p.journal ≤ length q.journal = begins_no_longer p.journal q.journal grown.journal in
    let higher : p.place ≤ q.place = grown.place in (
      All-weaker (λ touch. Touched p touch.place) (λ touch. Touched q touch.place)
          (λ touch both. (omega (arith, both.0, longer), omega (arith, both.1, higher))) t.touched has.0,
      AreIssued-rises p.next q.next t.writes grown.next has.1,
    )

pub within_later : (s : Session) (p q : PassParts) → HasGrown p q → IsWithin s p → IsWithin s q
within_later s p q grown within = record {
  place = omega (arith, within.place, grown.place);
  counts = least_through s.counts (counts_of p) (counts_of q) within.counts (least_longer p.lists q.lists grown.lists);
  next = omega (arith, within.next, grown.next);
  transaction = transaction_later p q s.transaction grown within.transaction;
}

-- ---- what replies raise

pub within_transaction : (s : Session) (p : PassParts) (o : Option Transaction) → HasTransaction p o → IsWithin s p
    → IsWithin (with_transaction o s) p
within_transaction s p o has within = record { place = within.place; counts = within.counts; next = within.next; transaction = has }

pub within_place : (s : Session) (p : PassParts) (m : ℕ) → m ≤ p.place → IsWithin s p → IsWithin (saw_place m s) p
within_place s p m low within = record {
  place = omega (arith, low, within.place);
  counts = within.counts;
  next = within.next;
  transaction = within.transaction;
}

pub within_next : (s : Session) (p : PassParts) (next : ℕ) → next ≤ p.next → IsWithin s p → IsWithin (saw_next next s) p
within_next s p next low within = record {
  place = within.place;
  counts = within.counts;
  next = omega (arith, low, within.next);
  transaction = within.transaction;
}

pub within_entries : (s : Session) (p : PassParts) (shard n : ℕ) → n ≤ count_of (counts_of p) shard → IsWithin s p
    → IsWithin (saw_entries shard n s) p
within_entries s p shard n low within = record {
  place = within.place;
  counts = least_raised shard n s.counts (counts_of p) within.counts low;
  next = within.next;
  transaction = within.transaction;
}
