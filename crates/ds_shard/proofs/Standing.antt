-- A shard that absorbed entries stands for them at each stamp of its window.
use Rattle.std.proofs.Common.{◌≡◌, ℕ, ◌+◌, ◌-◌, ◌<◌, ◌≤◌, Bool, true, false, cond, List, [], ◌∷◌, ◌++◌, length, take, refl, sym, ap, ◌∙◌}
use Rattle.std.proofs.Common.{subst, arith}
use Rattle.std.proofs.Common.{append-nil, append_assoc, length-append}
use Rattle.std.specs.Prelude.{nat_lt, fold, flat_map}
use Rattle.std.proofs.lemmas.Bool.Decides.{nat_tests}
use Rattle.std.proofs.lemmas.List.{take_all, take-append-le}
use Rattle.std.proofs.lemmas.List.Concat.{flat_map-append}
use Rattle.std.proofs.lemmas.List.Sums.{fold-append}
use Rattle.ds_entity.specs.Entities.{EntityParts}
use Rattle.ds_base.specs.SortingLaws.{Ascends}
use Rattle.ds_indexdef.specs.declared.IndexDef.{IndexDef}
use Rattle.ds_log.specs.declared.Write.{Write}
use Rattle.ds_log.specs.declared.Entry.{Entry}
use Rattle.ds_log.specs.After.{after, apply_write}
use Rattle.ds_log.specs.Logs.{entry_writes, key_of}
use Rattle.ds_rows.specs.Rows.{rows_of}
use Rattle.ds_rows.specs.Versions.{Version, entities_at}
use Rattle.ds_shard.specs.Histories.{written, trimmed, outlives}
use Rattle.std.specs.List.{AllByRecursion as Each}
use Rattle.ds_shard.specs.Contents.{IsGiven, version_cmp}
use Rattle.ds_shard.specs.Shards.{ShardParts, StandsFor, floor_of, floor, empty, absorbed, shard_of_entries, last_commit}
use Rattle.ds_entity.specs.EntityOrder.{sorted_by_key}
use Rattle.ds_shard.proofs.Currents.{currents, seen_currents, currents-written}
use Rattle.ds_shard.proofs.Kept.{Ascends-ended, Ascends-written, Ascends-filter, given-later, given-written, given-filter}
use Rattle.ds_shard.proofs.Kept.{seen-written, seen-trimmed, trimmed-twice}

-- ---- the floor

pub floor_is : (window count : ℕ) → 1 ≤ window → floor_of window count ≡ (count + 1) - window
floor_is window count h = by (nat_lt count window) refl where
  by : (b : Bool) → b ≡ nat_lt count window → cond b 0 (count - window + 1) ≡ (count + 1) - window
  by true e = let l : count < window = grind (arith, nat_tests) in omega (arith, l)
  by false e = let l : window ≤ count = grind (arith, nat_tests) in omega (arith, l)

-- ---- the writes of an entry

module _ (n : ℕ) where
  Ascends-all : (vs : List Version) (ws : List Write) → Ascends version_cmp vs → Ascends version_cmp (fold (written n) vs ws)
  Ascends-all vs [] a = a
  Ascends-all vs (w ∷ ws) a = Ascends-all (written n vs w) ws (Ascends-written n vs w a)

  given-all : (vs : List Version) (ws : List Write) → Each (IsGiven n) vs → Each (IsGiven n) (fold (written n) vs ws)
  given-all vs [] g = g
  given-all vs (w ∷ ws) g = given-all (written n vs w) ws (given-written n vs w g)

  seen-all : (stamp : ℕ) → stamp < n → (vs : List Version) (ws : List Write) → entities_at stamp (fold (written n) vs ws) ≡ entities_at stamp vs
  seen-all stamp h vs [] = refl
  seen-all stamp h vs (w ∷ ws) = seen-all stamp h (written n vs w) ws ∙ seen-written stamp n h vs w

  currents-all : (vs : List Version) (ws : List Write) (es : List EntityParts) → Ascends version_cmp vs → currents vs ≡ sorted_by_key es
      → currents (fold (written n) vs ws) ≡ sorted_by_key (fold apply_write es ws)
  currents-all vs [] es a is = is
  currents-all vs (w ∷ ws) es a is =
      currents-all (written n vs w) ws (apply_write es w) (Ascends-written n vs w a)
      (currents-written n vs w es (Ascends-ended n (key_of w) vs a) is)

-- ---- one entry

-- what is kept from entry to entry
record Stands (entries : List Entry) (s : ShardParts) : Type 0 where
  window : 1 ≤ s.window
  count : s.count ≡ length entries
  last : s.last ≡ last_commit entries
  ascend : Ascends version_cmp s.versions
  given : Each (IsGiven s.count) s.versions
  entities : (stamp : ℕ) → floor s ≤ stamp → stamp ≤ s.count → entities_at stamp s.versions ≡ sorted_by_key (after (entry_writes (take stamp entries)))
  outliving : trimmed (floor s) s.versions ≡ s.versions

one_more : (entries : List Entry) (e : Entry) → entry_writes (entries ++ e ∷ []) ≡ entry_writes entries ++ e.writes
one_more entries e = flat_map-append (λ (x : Entry). x.writes) entries (e ∷ []) ∙ ap (λ ws. entry_writes entries ++ ws) (append-nil e.writes)

module _ (entries : List Entry) (s : ShardParts) (h : Stands entries s) (e : Entry) where
  abbrev n : ℕ
  n = s.count + 1

  abbrev vs : List Version
  vs = fold (written n) s.versions e.writes

  given_then : Each (IsGiven n) s.versions
  given_then = given-later s.count n s.versions (omega arith) h.given

  -- the stamps before
  before : (stamp : ℕ) → floor (absorbed s e) ≤ stamp → stamp ≤ s.count
      → entities_at stamp (absorbed s e).versions ≡ sorted_by_key (after (entry_writes (take stamp (entries ++ e ∷ []))))
  before stamp low high =
      let old = floor_is s.window s.count h.window in
      let new = floor_is s.window n h.window in
      let low' : floor s ≤ stamp = omega (arith, old, new, low) in
      let within : stamp ≤ length entries = let c = h.count in omega (arith, c, high) in
      seen-trimmed (floor_of s.window n) stamp low vs
      ∙ seen-all n stamp (omega (arith, high)) s.versions e.writes
      ∙ h.entities stamp low' high
      ∙ ap (λ es. sorted_by_key (after (entry_writes es))) (sym (take-append-le stamp entries (e ∷ []) within))

  -- the stamp of the entry
  opened : currents s.versions ≡ sorted_by_key (after (entry_writes entries))
  opened =
      let old = floor_is s.window s.count h.window in
      let w = h.window in
      sym (seen_currents s.count s.versions h.given)
      ∙ h.entities s.count (omega (arith, old, w)) (omega arith)
      ∙ ap (λ es. sorted_by_key (after (entry_writes es))) (take_all s.count entries (let c = h.count in omega (arith, c)))

  whole : take n (entries ++ e ∷ []) ≡ entries ++ e ∷ []
  whole =
      let l : length (entries ++ e ∷ []) ≡ length entries + 1 = length-append entries (e ∷ []) in
      take_all n (entries ++ e ∷ []) (let c = h.count in omega (arith, c, l))

  at_it : floor (absorbed s e) ≤ n → entities_at n (absorbed s e).versions ≡ sorted_by_key (after (entry_writes (take n (entries ++ e ∷ []))))
  at_it low =
      seen-trimmed (floor_of s.window n) n low vs
      ∙ seen_currents n vs (given-all n s.versions e.writes given_then)
      ∙ currents-all n s.versions e.writes (after (entry_writes entries)) h.ascend opened
      ∙ ap sorted_by_key
      (sym (fold-append apply_write [] (entry_writes entries) e.writes)
      ∙ ap after (sym (one_more entries e) ∙ ap entry_writes (sym whole)))

  at_each : (stamp : ℕ) → floor (absorbed s e) ≤ stamp → stamp ≤ n
      → entities_at stamp (absorbed s e).versions ≡ sorted_by_key (after (entry_writes (take stamp (entries ++ e ∷ []))))
  at_each stamp low high = by (nat_lt stamp n) refl where
    by : (b : Bool) → b ≡ nat_lt stamp n
        → entities_at stamp (absorbed s e).versions ≡ sorted_by_key (after (entry_writes (take stamp (entries ++ e ∷ []))))
    by true t = let l : stamp < n = grind (arith, nat_tests) in before stamp low (omega (arith, l))
    by false t =
        let l : n ≤ stamp = grind (arith, nat_tests) in
        let same : n ≡ stamp = omega (arith, l, high) in
        subst (λ m. entities_at m (absorbed s e).versions ≡ sorted_by_key (after (entry_writes (take m (entries ++ e ∷ []))))) same
        (at_it (subst (λ m. floor (absorbed s e) ≤ m) (sym same) low))

  next : Stands (entries ++ e ∷ []) (absorbed s e)
  next = record {
    window = h.window;
    count = (let c = h.count in let l : length (entries ++ e ∷ []) ≡ length entries + 1 = length-append entries (e ∷ []) in omega (arith, c, l));
    last = sym (fold-append (λ m (x : Entry). x.commit) 0 entries (e ∷ []));
    ascend = Ascends-filter (outlives (floor_of s.window n)) vs (Ascends-all n s.versions e.writes h.ascend);
    given = given-filter n (outlives (floor_of s.window n)) vs (given-all n s.versions e.writes given_then);
    entities = at_each;
    outliving = trimmed-twice (floor_of s.window n) vs;
  }

all_stand : (done entries : List Entry) (s : ShardParts) → Stands done s → Stands (done ++ entries) (fold absorbed s entries)
all_stand done [] s h = subst (λ es. Stands es s) (sym (append-nil done)) h
all_stand done (e ∷ entries) s h =
    subst (λ es. Stands es (fold absorbed (absorbed s e) entries)) (append_assoc done (e ∷ []) entries)
    (all_stand (done ++ e ∷ []) entries (absorbed s e) (next done s h e))

none_yet : (defs : List IndexDef) (window : ℕ) → 1 ≤ window → Stands [] (empty defs window)
none_yet defs window h = record {
  window = h;
  count = refl;
  last = refl;
  ascend = tt;
  given = tt;
  entities = λ stamp low high. nothing stamp;
  outliving = refl;
} where
  nothing : (stamp : ℕ) → [] ≡ sorted_by_key (after (entry_writes (take stamp [])))
  nothing stamp = ap (λ es. sorted_by_key (after (entry_writes es))) (sym (take_all stamp [] (omega arith)))

same_definitions : (entries : List Entry) (s : ShardParts) → (fold absorbed s entries).definitions ≡ s.definitions
same_definitions [] s = refl
same_definitions (e ∷ entries) s = same_definitions entries (absorbed s e)

same_window : (entries : List Entry) (s : ShardParts) → (fold absorbed s entries).window ≡ s.window
same_window [] s = refl
same_window (e ∷ entries) s = same_window entries (absorbed s e)

pub kept : (defs : List IndexDef) (window : ℕ) → 1 ≤ window → (entries : List Entry)
    → StandsFor defs window entries (shard_of_entries defs window entries)
kept defs window h entries =
    let s = all_stand [] entries (empty defs window) (none_yet defs window h) in
    record {
      definitions = same_definitions entries (empty defs window);
      window = same_window entries (empty defs window);
      count = s.count;
      last = s.last;
      entities = s.entities;
      rows = λ stamp low high. ap (flat_map (rows_of (shard_of_entries defs window entries).definitions)) (s.entities stamp low high);
      outliving = s.outliving;
    }
