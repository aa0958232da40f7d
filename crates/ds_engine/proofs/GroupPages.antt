-- What is found in one snapshot of an ancestor's shard is what the query finds over the strong view.
use Rattle.std.proofs.Common.{◌≡◌, ℕ, ◌+◌, ◌≤◌, List, [], ◌∷◌, length, take, refl, sym, ◌∙◌, subst, append-nil}
use Rattle.std.proofs.Common.{arith}
use Rattle.std.proofs.Common.{Bool, true, false, Option, Some, ◌-◌, ◌<◌}
use Rattle.std.specs.Prelude.{All, nat_lt, if◌then◌else◌}
use Rattle.std.proofs.lemmas.Bool.{ltb-false}
use Rattle.std.proofs.Math.Nat.{mod-one}
use Rattle.std.proofs.lemmas.List.Elements.{All-head, All-tail}
use Rattle.ds_entity.specs.declared.results.Item.{Item}
use Rattle.ds_base.specs.Keys.{KeyParts, root_of}
use Rattle.ds_entity.specs.Entities.{EntityParts}
use Rattle.ds_bytes.specs.Encoding.{key_bytes}
use Rattle.ds_indexdef.specs.declared.IndexDef.{IndexDef}
use Rattle.ds_query.specs.declared.branch.Branch.{Branch}
use Rattle.ds_query.specs.declared.branch.Normal.{Normal}
use Rattle.ds_query.specs.declared.branch.Window.{Window}
use Rattle.ds_query.specs.declared.row.Place.{Place}
use Rattle.ds_query.specs.Lawful.{AreAlike, IsLawfulNormal}
use Rattle.ds_log.specs.declared.Commit.{Commit}
use Rattle.ds_log.specs.declared.Entry.{Entry}
use Rattle.ds_log.specs.Logs.{shard_list}
use Rattle.ds_log.specs.Shards.{fnv1a, shard_of}
use Rattle.ds_shard.specs.Shards.{EntriesAreKept, floor_of}
use Rattle.ds_model.specs.ByKey.{left_by}
use Rattle.ds_model.specs.Views.{strong_view}
use Rattle.ds_model.proofs.AllOf.{all_of}
use Rattle.ds_model.proofs.AncestorResults.{HaveAncestor, ancestor_items, ancestor_result}
use Rattle.ds_engine.specs.Searches.{AreOfShards, IsResultOf, all_entities, ancestor_of, shard_among}
use Rattle.ds_engine.specs.Snapshots.{entities_in, snapshot_of}
use Rattle.ds_engine.proofs.GlobalPages.{found_over, kept_at}

-- one shard alone has all groups
pub one_shard : (k : KeyParts) → shard_among 1 k ≡ 0
one_shard k = mod-one (fnv1a (key_bytes (root_of k)))

pub alone : (es : List EntityParts) → AreOfShards 1 0 (es ∷ [])
alone es = (all_of (λ (e : EntityParts). shard_among 1 e.key ≡ 0) (λ e. one_shard e.key) es, tt)

-- all branches have the ancestor of the first one
pub have_ancestor : (n : Normal) (ancestor : KeyParts) → IsLawfulNormal n → ancestor_of n.branches ≡ Some ancestor
    → HaveAncestor ancestor n.branches
have_ancestor n ancestor lawful is = from n.branches lawful.alike is where
  each : (q : Branch) (qs : List Branch) → All (AreAlike q) qs → q.ancestor ≡ Some ancestor → HaveAncestor ancestor qs
  each q [] alike has = tt
  each q (b ∷ qs) alike has =
      (sym (All-head (AreAlike q) b qs alike).ancestor ∙ has, each q qs (All-tail (AreAlike q) b qs alike) has)

  from : (qs : List Branch) → All (λ a. All (AreAlike a) qs) qs → ancestor_of qs ≡ Some ancestor → HaveAncestor ancestor qs
  from [] alike has = tt
  from (q ∷ qs) alike has = each q (q ∷ qs) (All-head (λ a. All (AreAlike a) (q ∷ qs)) q qs alike) has

-- a stamp that the window reaches back to
pub floor-within : (window count stamp : ℕ) → count < stamp + window → floor_of window count ≤ stamp
floor-within window count stamp within = by (nat_lt count window) refl where
  by : (b : Bool) → nat_lt count window ≡ b → (if b then 0 else count - window + 1) ≤ stamp
  by true is = omega arith
  by false is = let past : window ≤ count = ltb-false count window is in omega (arith, past, within)

-- at a stamp whose entries are those of the first m commits
pub found_in_group : EntriesAreKept → (definitions : List IndexDef) (window : ℕ) → 1 ≤ window → (entries : List Entry) (stamp : ℕ)
    → floor_of window (length entries) ≤ stamp → stamp ≤ length entries
    → (n : Normal) (w : Window) (results : List Item) (next : Option Place)
    → (AreOfShards 1 0 (entities_in (snapshot_of definitions window entries stamp) ∷ [])
    → IsResultOf n w (all_entities (entities_in (snapshot_of definitions window entries stamp) ∷ [])) results next)
    → (journal : List Commit) (m shards : ℕ) (ancestor : KeyParts) → 1 ≤ length ancestor.elems → HaveAncestor ancestor n.branches
    → take stamp entries ≡ shard_list (take m journal) (shard_of (root_of ancestor) shards) shards
    → IsResultOf n w (strong_view journal m) results next
found_in_group kept definitions window some entries stamp low high n w results next found journal m shards ancestor long has first =
    let es : List EntityParts = entities_in (snapshot_of definitions window entries stamp) in
    let view : es ≡ left_by entries stamp = kept_at kept definitions window some entries stamp low high in
    found_over n w (left_by entries stamp) (strong_view journal m) results next
    (ancestor_result journal entries stamp m shards ancestor first long n w has)
    (λ selected. ancestor_items journal entries stamp m shards ancestor first long n w n.merged selected has)
    (subst (λ vs. IsResultOf n w vs results next) (append-nil es ∙ view) (found (alone es)))
