-- Slots that are entered and left, and what the newest snapshots of their shards tell.
use Rattle.std.proofs.Common.{◌≡◌, ℕ, ◌+◌, ◌≤◌, Option, Some, List, [], ◌∷◌, length, map, refl, ap, sym, ◌∙◌, subst}
use Rattle.std.specs.Prelude.{All, IfSome, None, fold, max}
use Rattle.std.specs.List.{AllByRecursion}
use Rattle.std.proofs.Math.Seq.{take-length}
use Rattle.std.proofs.lemmas.List.{length-map}
use Rattle.std.proofs.lemmas.List.Elements.{All-head, All-tail, All-nil, All-cons, recursion_from_All}
use Rattle.ds_entity.specs.declared.results.Item.{Item}
use Rattle.ds_entity.specs.declared.results.Seen.{Seen}
use Rattle.ds_entity.specs.declared.results.Seen.TheVariants as seen
use Rattle.ds_query.specs.declared.branch.Normal.{Normal}
use Rattle.ds_query.specs.declared.branch.Window.{Window}
use Rattle.ds_query.specs.declared.row.Place.{Place}
use Rattle.ds_hub.specs.Holding.{AllBelong, IsFold, Slotted, hub_in, known_in, out_of}
use Rattle.ds_hub.specs.Logs.{told_by}
use Rattle.ds_indexdef.specs.declared.IndexDef.{IndexDef}
use Rattle.ds_log.specs.declared.Entry.{Entry}
use Rattle.ds_shard.specs.Shards.{EntriesAreKept, ShardParts, absorbed, shard_of_entries}
use Rattle.ds_log.specs.declared.Write.{Write}
use Rattle.ds_log.specs.Logs.{group_of}
use Rattle.ds_log.specs.Shards.{shard_of}
use Rattle.ds_shard.specs.States.{IsOfShard, ShardPlace, StateParts, begun, state_after}
use Rattle.ds_model.specs.Sessions.{counted_place, last_commit}
use Rattle.ds_model.proofs.ShardViews.{AreOwn}
use Rattle.ds_engine.specs.Counted.{AreInPlace, BeginsAt, FindsGlobally, HasBegun, IsCounted, KnowsOwn, greatest_last}
use Rattle.ds_engine.specs.Searches.{AreOfShards, IsResultOf, all_entities}
use Rattle.ds_engine.proofs.GlobalPages.{found_globally}
use Rattle.ds_engine.specs.Snapshots.{SnapshotParts, entities_in, newest, newest_of}

module _ {T E S : Type 0} where
  pub left-hubs : (slots : List (Slotted T E S)) → map hub_in (map out_of slots) ≡ map hub_in slots
  left-hubs [] = refl
  left-hubs (s ∷ slots) = ap (λ hs. (s.hub, s.start) ∷ hs) (left-hubs slots)

  pub left-known : (slots : List (Slotted T E S)) → map known_in (map out_of slots) ≡ map known_in slots
  left-known [] = refl
  left-known (s ∷ slots) = ap (λ ks. s.known ∷ ks) (left-known slots)

  pub as_many : (new old : List (Slotted T E S)) → map hub_in new ≡ map hub_in old → length new ≡ length old
  as_many new old same = sym (length-map new hub_in) ∙ ap length same ∙ length-map old hub_in

-- where the hubs are the same they begin as before
pub begun-same : (ledger : ℕ) (definitions : List IndexDef) (kept : ℕ) (old new : List (Slotted StateParts Entry StateParts))
    → map hub_in new ≡ map hub_in old → All (HasBegun ledger definitions kept) old → All (HasBegun ledger definitions kept) new
begun-same ledger definitions kept old [] same all = All-nil (HasBegun ledger definitions kept)
begun-same ledger definitions kept [] (s ∷ new) same all = absurd (none same) where
  none : hub_in s ∷ map hub_in new ≡ [] → ⊥
  none e = cc
begun-same ledger definitions kept (o ∷ old) (s ∷ new) same all =
    let first : hub_in s ≡ hub_in o = cc in
    let rest : map hub_in new ≡ map hub_in old = cc in
    let begins = All-head (HasBegun ledger definitions kept) o old all in
    All-cons (HasBegun ledger definitions kept) s new (begins.0, ap (λ h. h.1) first ∙ begins.1)
    (begun-same ledger definitions kept old new rest (All-tail (HasBegun ledger definitions kept) o old all))

-- the counts of the newest snapshots
pub counts-newest : (definitions : List IndexDef) (kept : ℕ) (lists : List (List Entry))
    → map (λ s. s.stamp) (newest definitions kept lists) ≡ map length lists
counts-newest definitions kept [] = refl
counts-newest definitions kept (entries ∷ lists) = ap (λ ns. length entries ∷ ns) (counts-newest definitions kept lists)

-- and the greatest commit of their last entries
pub last-newest : EntriesAreKept → (definitions : List IndexDef) (kept : ℕ) → 1 ≤ kept → (lists : List (List Entry))
    → greatest_last (newest definitions kept lists) ≡ counted_place lists (map length lists)
last-newest law definitions kept some [] = refl
last-newest law definitions kept some (entries ∷ lists) =
    (λ i. max ((law definitions kept some entries).last i) (last-newest law definitions kept some lists i))
    ∙ ap (λ (es : List Entry). max (last_commit es) (counted_place lists (map length lists))) (sym (take-length entries))

-- the definitions of the newest snapshots
pub definitions-newest : EntriesAreKept → (definitions : List IndexDef) (kept : ℕ) → 1 ≤ kept → (lists : List (List Entry))
    → All (λ s. definitions ≡ s.shard.definitions) (newest definitions kept lists)
definitions-newest law definitions kept some [] = All-nil (λ s. definitions ≡ s.shard.definitions)
definitions-newest law definitions kept some (entries ∷ lists) =
    All-cons (λ s. definitions ≡ s.shard.definitions) (newest_of definitions kept entries) (newest definitions kept lists)
    (sym (law definitions kept some entries).definitions) (definitions-newest law definitions kept some lists)

-- ---- what a slot shows

states_from : (s : StateParts) (entries : List Entry) → fold state_after s entries
    ≡ record { ledger = s.ledger; place = s.place; shard = fold absorbed s.shard entries }
states_from s [] = refl
states_from s (entry ∷ entries) = states_from (state_after s entry) entries

-- the shard of these entries, on the ledgers that it began with
pub fold_is : (ledger : ℕ) (definitions : List IndexDef) (kept : ℕ) (start : Option StateParts) (entries : List Entry) (s : StateParts)
    → (begins : (place : ShardPlace) × (start ≡ Some (begun ledger place definitions kept)))
    → IsFold (told_by (λ (told : Entry). told) state_after) start entries s
    → s ≡ record { ledger = ledger; place = begins.0; shard = shard_of_entries definitions kept entries }
fold_is ledger definitions kept start entries s begins folded =
    subst (λ o. IsFold (told_by (λ (told : Entry). told) state_after) o entries s) begins.1 folded
    ∙ states_from (begun ledger begins.0 definitions kept) entries

-- a slot that is entered shows a shard on the ledgers with which its hub began
pub on_ledger : (parts : ℕ) (start : Option StateParts) (entries : List Entry) (s : StateParts) → IfSome start (λ b. b.ledger ≡ parts)
    → IsFold (told_by (λ (told : Entry). told) state_after) start entries s → parts ≡ s.ledger
on_ledger parts None entries s begins folded = absurd folded
on_ledger parts (Some b) entries s begins folded = sym (ap (λ (x : StateParts). x.ledger) (folded ∙ states_from b entries) ∙ begins)

pub window_is : EntriesAreKept → (definitions : List IndexDef) (kept : ℕ) → 1 ≤ kept → (entries : List Entry) (s : ShardParts)
    → s ≡ shard_of_entries definitions kept entries → 1 ≤ s.window
window_is law definitions kept some entries s is =
    subst (λ n. 1 ≤ n) (sym (ap (λ (x : ShardParts). x.window) is ∙ (law definitions kept some entries).window)) some

pub newest_is : EntriesAreKept → (definitions : List IndexDef) (kept : ℕ) → 1 ≤ kept → (entries : List Entry) (s : ShardParts)
    → s ≡ shard_of_entries definitions kept entries
    → newest_of definitions kept entries ≡ record { shard = s; stamp = s.count }
newest_is law definitions kept some entries s is =
    λ i. record { shard = sym is i; stamp = sym (ap (λ (x : ShardParts). x.count) is ∙ (law definitions kept some entries).count) i }

-- ---- what is told of the newest snapshots

pub counted_of : EntriesAreKept → (definitions : List IndexDef) (kept : ℕ) → 1 ≤ kept → (lists : List (List Entry))
    (snapshots : List SnapshotParts) → snapshots ≡ newest definitions kept lists → (saw : Seen) (beside : ℕ)
    → saw ≡ seen.Counts (map (λ s. s.stamp) snapshots) → beside ≡ greatest_last snapshots → IsCounted lists saw beside
counted_of law definitions kept some lists snapshots are saw beside counts last = record {
  counts = counts ∙ ap (λ (ss : List SnapshotParts). seen.Counts (map (λ s. s.stamp) ss)) are
      ∙ ap (λ ns. seen.Counts ns) (counts-newest definitions kept lists);
  commit = last ∙ ap greatest_last are ∙ last-newest law definitions kept some lists;
}

pub found_of : EntriesAreKept → (definitions : List IndexDef) (kept : ℕ) → 1 ≤ kept → (lists : List (List Entry))
    (snapshots : List SnapshotParts) → snapshots ≡ newest definitions kept lists
    → (n : Normal) (w : Window) (found : List Item) (ends : Option Place)
    → (AreOfShards (length (map entities_in snapshots)) 0 (map entities_in snapshots)
    → IsResultOf n w (all_entities (map entities_in snapshots)) found ends)
    → AreOwn (length lists) 0 lists
    → (results : List Item) (next : Option Place) → results ≡ found → next ≡ ends → FindsGlobally lists n w results next
found_of law definitions kept some lists snapshots are n w found ends is own results next same here =
    subst (λ rs. FindsGlobally lists n w rs next) (sym same)
    (subst (λ p. FindsGlobally lists n w found p) (sym here)
    (found_globally law definitions kept some lists snapshots are n w found ends is own))

-- ---- slots of shards by number

-- the entries of a shard that are known are of this shard
own_entries : (shards number : ℕ) (entries : List Entry) → All (IsOfShard (record { shards = shards; number = number })) entries
    → AllByRecursion (λ (e : Entry). AllByRecursion (λ (v : Write). shard_of (group_of v) shards ≡ number) e.writes) entries
own_entries shards number [] own = tt
own_entries shards number (e ∷ entries) own = (
  recursion_from_All (λ (v : Write). shard_of (group_of v) shards ≡ number) e.writes
      (All-head (IsOfShard (record { shards = shards; number = number })) e entries own),
  own_entries shards number entries (All-tail (IsOfShard (record { shards = shards; number = number })) e entries own),
)

-- so it is with those of all slots
pub own_known : (shards first : ℕ) (slots : List (Slotted StateParts Entry StateParts)) → AreInPlace shards first slots → All KnowsOwn slots
    → AreOwn shards first (map known_in slots)
own_known shards first [] placed all = tt
own_known shards first (slot ∷ slots) placed all = (
  by slot.start placed.0 (All-head KnowsOwn slot slots all),
  own_known shards (first + 1) slots placed.1 (All-tail KnowsOwn slot slots all),
) where
  by : (start : Option StateParts) → BeginsAt (record { shards = shards; number = first }) start
      → AllBelong (λ (b : StateParts) (entry : Entry). IsOfShard b.place entry) start slot.known
      → AllByRecursion (λ (e : Entry). AllByRecursion (λ (v : Write). shard_of (group_of v) shards ≡ first) e.writes) slot.known
  by None at own = absurd at
  by (Some b) at own = own_entries shards first slot.known (subst (λ (p : ShardPlace). All (IsOfShard p) slot.known) at own)

-- where the hubs are the same they are in the same places
pub placed-same : (shards first : ℕ) (old new : List (Slotted StateParts Entry StateParts)) → map hub_in new ≡ map hub_in old
    → AreInPlace shards first old → AreInPlace shards first new
placed-same shards first old [] same placed = tt
placed-same shards first [] (s ∷ new) same placed = absurd (none same) where
  none : hub_in s ∷ map hub_in new ≡ [] → ⊥
  none e = cc
placed-same shards first (o ∷ old) (s ∷ new) same placed =
    let head : hub_in s ≡ hub_in o = cc in
    let rest : map hub_in new ≡ map hub_in old = cc in (
      subst (BeginsAt (record { shards = shards; number = first })) (sym (ap (λ h. h.1) head)) placed.0,
      placed-same shards (first + 1) old new rest placed.1,
    )
