-- What is found in the newest snapshots of the shards is what the query finds over the global view at their counts.
use Rattle.std.proofs.Common.{◌≡◌, ℕ, ◌+◌, ◌-◌, ◌≤◌, List, [], ◌∷◌, length, map, refl, ap, sym, ◌∙◌, subst, arith}
use Rattle.std.proofs.Common.{Bool, true, false, Option}
use Rattle.std.specs.Prelude.{All, nat_lt, if◌then◌else◌}
use Rattle.std.proofs.lemmas.Bool.{ltb-false}
use Rattle.std.proofs.lemmas.List.{length-map}
use Rattle.std.proofs.lemmas.List.Elements.{All-head, All-tail, All-nil, All-cons}
use Rattle.ds_entity.specs.declared.results.Item.{Item}
use Rattle.ds_entity.specs.Entities.{EntityParts}
use Rattle.ds_indexdef.specs.declared.IndexDef.{IndexDef}
use Rattle.ds_query.specs.declared.query.Select.{Select}
use Rattle.ds_query.specs.declared.branch.Branch.{Branch}
use Rattle.ds_query.specs.declared.branch.Normal.{Normal}
use Rattle.ds_query.specs.declared.branch.Window.{Window}
use Rattle.ds_query.specs.declared.row.Place.{Place}
use Rattle.ds_log.specs.declared.Entry.{Entry}
use Rattle.ds_shard.specs.Shards.{EntriesAreKept, floor_of}
use Rattle.ds_model.specs.ByKey.{left_by, shard_views}
use Rattle.ds_pages.specs.Pages.{Page}
use Rattle.ds_model.specs.Results.{items_of, result}
use Rattle.ds_model.specs.Views.{global_view}
use Rattle.ds_model.proofs.ResultOrder.{items_sorted, result_sorted}
use Rattle.ds_model.proofs.ShardViews.{AreOwn, own_differ, own_items, own_result}
use Rattle.ds_engine.specs.Searches.{AreOfShards, IsResultOf, all_entities}
use Rattle.ds_engine.specs.Snapshots.{SnapshotParts, entities_in, newest, snapshot_of}
use Rattle.ds_engine.proofs.Lists.{all_left, all_left-views, left, left_own_shards}

floor-le : (window count : ℕ) → 1 ≤ window → floor_of window count ≤ count
floor-le window count some = by (nat_lt count window) refl where
  by : (b : Bool) → nat_lt count window ≡ b → (if b then 0 else count - window + 1) ≤ count
  by true is = omega arith
  by false is = let past : window ≤ count = ltb-false count window is in omega (arith, past, some)

-- a shard that absorbed entries has at a stamp that it keeps the entities that as many of them leave
pub kept_at : EntriesAreKept → (definitions : List IndexDef) (window : ℕ) → 1 ≤ window → (entries : List Entry) (stamp : ℕ)
    → floor_of window (length entries) ≤ stamp → stamp ≤ length entries
    → entities_in (snapshot_of definitions window entries stamp) ≡ left_by entries stamp
kept_at kept definitions window some entries stamp low high =
    let stands = kept definitions window some entries in
    stands.entities stamp
    (subst (λ n. n ≤ stamp) (sym (λ i. floor_of (stands.window i) (stands.count i))) low)
    (subst (λ n. stamp ≤ n) (sym stands.count) high)

newest_views : EntriesAreKept → (definitions : List IndexDef) (window : ℕ) → 1 ≤ window → (lists : List (List Entry))
    → map entities_in (newest definitions window lists) ≡ all_left lists
newest_views kept definitions window some [] = refl
newest_views kept definitions window some (entries ∷ lists) =
    λ i. kept_at kept definitions window some entries (length entries) (floor-le window (length entries) some) (omega arith) i
    ∷ newest_views kept definitions window some lists i

-- results over one list of entities are those over another
pub found_over : (n : Normal) (w : Window) (es fs : List EntityParts) (results : List Item) (next : Option Place)
    → result n w es ≡ result n w fs
    → ((selected : Select) → items_of n.merged selected es (result n w fs).rows ≡ items_of n.merged selected fs (result n w fs).rows)
    → IsResultOf n w es results next → IsResultOf n w fs results next
found_over n w es fs results next same items found = record {
  told = each n.branches found.told;
  place = found.place ∙ ap (λ (p : Page). p.next) same;
} where
  each : (qs : List Branch) → All (λ (q : Branch). results ≡ items_of n.merged q.select es (result n w es).rows) qs
      → All (λ (q : Branch). results ≡ items_of n.merged q.select fs (result n w fs).rows) qs
  each [] all = All-nil (λ (q : Branch). results ≡ items_of n.merged q.select fs (result n w fs).rows)
  each (q ∷ qs) all =
      All-cons (λ (b : Branch). results ≡ items_of n.merged b.select fs (result n w fs).rows) q qs
      (All-head (λ (b : Branch). results ≡ items_of n.merged b.select es (result n w es).rows) q qs all
      ∙ ap (λ (p : Page). items_of n.merged q.select es p.rows) same
      ∙ items q.select)
      (each qs (All-tail (λ (b : Branch). results ≡ items_of n.merged b.select es (result n w es).rows) q qs all))

-- Where the entries that the shards absorbed are of their shards.
pub found_globally : EntriesAreKept → (definitions : List IndexDef) (window : ℕ) → 1 ≤ window → (lists : List (List Entry))
    (snapshots : List SnapshotParts) → snapshots ≡ newest definitions window lists
    → (n : Normal) (w : Window) (results : List Item) (next : Option Place)
    → (AreOfShards (length (map entities_in snapshots)) 0 (map entities_in snapshots)
    → IsResultOf n w (all_entities (map entities_in snapshots)) results next)
    → AreOwn (length lists) 0 lists → IsResultOf n w (global_view lists (map length lists)) results next
found_globally kept definitions window some lists snapshots are n w results next found own =
    let shards : ℕ = length lists in
    let counts : List ℕ = map length lists in
    let views : map entities_in snapshots ≡ all_left lists =
    ap (map entities_in) are ∙ newest_views kept definitions window some lists in
    let es : List EntityParts = shard_views lists counts in
    let global : List EntityParts = global_view lists counts in
    let of_shards : AreOfShards (length (map entities_in snapshots)) 0 (map entities_in snapshots) =
    subst (λ vs. AreOfShards (length vs) 0 vs) (sym views)
    (subst (λ m. AreOfShards m 0 (all_left lists)) (sym (length-map lists left)) (left_own_shards shards 0 lists own)) in
    let same : result n w es ≡ result n w global = sym (result_sorted n w es) ∙ own_result shards lists counts own n w in
    let items : (selected : Select)
    → items_of n.merged selected es (result n w global).rows ≡ items_of n.merged selected global (result n w global).rows =
    λ selected. sym (items_sorted n.merged selected es (result n w global).rows (own_differ shards lists counts own))
    ∙ own_items shards lists counts own n.merged selected (result n w global).rows in
    found_over n w es global results next same items
    (subst (λ vs. IsResultOf n w vs results next) (ap all_entities views ∙ all_left-views lists) (found of_shards))
