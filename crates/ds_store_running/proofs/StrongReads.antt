-- What a query with an ancestor tells, of where it stands and what is found there.
use Rattle.std.proofs.Common.{◌≡◌, ℕ, ◌≤◌, ◌+◌, ◌*◌, Bool, true, false, List, [], ◌∷◌, length, Option, None, Some, refl, sym, subst, arith}
use Rattle.std.specs.Prelude.{All, IsTrue, ◌&&◌, nat_le}
use Rattle.std.proofs.lemmas.Bool.{leb-true}
use Rattle.std.proofs.lemmas.List.Elements.{All-head}
use Rattle.ds_entity.specs.declared.results.Item.{Item}
use Rattle.ds_entity.specs.declared.results.Seen.TheVariants as saw
use Rattle.ds_base.specs.Keys.{KeyParts, is_elem, is_key, is_namespace, is_path, root_of}
use Rattle.ds_base.specs.Limits.{most_elements}
use Rattle.std.specs.List.{list_all}
use Rattle.ds_log.specs.Shards.{shard_of}
use Rattle.ds_model.specs.Sessions.{list_of}
use Rattle.ds_query.specs.declared.branch.Normal.{Normal}
use Rattle.ds_query.specs.declared.branch.Window.{Window}
use Rattle.ds_query.specs.declared.row.Place.{Place}
use Rattle.ds_engine.specs.Groups.{FindsInGroup, look_ups_of}
use Rattle.ds_engine.specs.declared.group.GroupFound.TheVariants as group
use Rattle.ds_query.specs.declared.branch.Branch.{Branch}
use Rattle.ds_engine.specs.Searches.{ancestor_of, search_bound}
use Rattle.ds_engine.specs.Snapshots.{SnapshotParts, snapshot_of}
use Rattle.ds_indexdef.specs.declared.IndexDef.{IndexDef}
use Rattle.ds_store_passes.specs.Passes.{PassParts}
use Rattle.ds_store_shards.specs.Standing.{StandsAt}
use Rattle.ds_store_running.specs.Strong.{IsFoundInGroup}
use Rattle.ds_store_running.proofs.Gets.{group_read}

first_holds : (a b : Bool) → IsTrue (a && b) → IsTrue a
first_holds true b h = refl
first_holds false b h = absurd (cc (h))

second_holds : (a b : Bool) → IsTrue (a && b) → IsTrue b
second_holds true b h = h
second_holds false b h = absurd (cc (h))

-- a key's path has an element
pub has_root : (key : KeyParts) → IsTrue (is_key key) → 1 ≤ length key.elems
has_root key lawful =
    let path : IsTrue (is_path key.elems) = second_holds (is_namespace key.namespace) (is_path key.elems) lawful in
    let bounds = first_holds (nat_le 1 (length key.elems) && nat_le (length key.elems) most_elements) (list_all is_elem key.elems) path in
    leb-true 1 (length key.elems) (first_holds (nat_le 1 (length key.elems)) (nat_le (length key.elems) most_elements) bounds)

pub strong_in : (shards shard : ℕ) (before p q : PassParts) (ancestor : KeyParts) (asked : Option ℕ) (m entries : ℕ) (n : Normal)
    (w : Window) (results : List Item) (next : Option Place) → shard ≡ shard_of (root_of ancestor) shards → q ≡ p
    → 1 ≤ length ancestor.elems → ancestor_of n.branches ≡ Some ancestor → StandsAt shards before p shard asked m entries
    → FindsInGroup (list_of p.lists shard) entries n w results next
    → IsFoundInGroup shards before q (root_of ancestor) asked n w results next (saw.Place m) entries
strong_in shards shard before p q ancestor asked m entries n w results next is same some has stand finds =
    let there : StandsAt shards before q (shard_of (root_of ancestor) shards) asked m entries =
    subst (λ s. StandsAt shards before q s asked m entries) is (subst (λ r. StandsAt shards before r shard asked m entries) (sym same)
    stand) in
    let found : FindsInGroup (list_of q.lists (shard_of (root_of ancestor) shards)) entries n w results next =
    subst (λ s. FindsInGroup (list_of q.lists s) entries n w results next) is
    (subst (λ (r : PassParts). FindsInGroup (list_of r.lists shard) entries n w results next) (sym same) finds) in
    record {
      place = m;
      told = refl;
      read = group_read shards before q (root_of ancestor) asked m entries there;
      found = found q.journal m shards ancestor some has there.first;
    }

-- where nothing is given, no look-up stands beside the bound of the scans
pub bounded_gone : (n m applied commit : ℕ) (branches : List Branch) (ancestor : KeyParts) → ancestor_of branches ≡ Some ancestor
    → All (λ q. m ≤ n + look_ups_of q.select (group.Gone applied commit)) branches → m ≤ n
bounded_gone n m applied commit [] ancestor is each = absurd (cc (is))
bounded_gone n m applied commit (q ∷ branches) ancestor is each =
    let here : m ≤ n + 0 = All-head (λ q. m ≤ n + look_ups_of q.select (group.Gone applied commit)) q branches each in
    omega (arith, here)

-- the steps at a stamp of the group's shard
pub within_there : (n : Normal) (w : Window) (definitions : List IndexDef) (window shards shard : ℕ) (before after : PassParts)
    (ancestor : KeyParts) (entries start new : ℕ) → shard ≡ shard_of (root_of ancestor) shards → before.lists ≡ after.lists
    → new ≤ start + 2 * search_bound n w None (snapshot_of definitions window (list_of before.lists shard) entries ∷ [])
    → (stamp : ℕ) × (new ≤ start + 2 * search_bound n w None
    (snapshot_of definitions window (list_of after.lists (shard_of (root_of ancestor) shards)) stamp ∷ []))
within_there n w definitions window shards shard before after ancestor entries start new is lists within = (
  entries,
  subst (λ (s : SnapshotParts). new ≤ start + 2 * search_bound n w None (s ∷ []))
      (λ i. snapshot_of definitions window (list_of (lists i) (is i)) entries) within,
)
