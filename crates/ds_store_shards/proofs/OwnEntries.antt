-- The entries of a shard's list write groups of that shard alone.
use Rattle.std.proofs.Common.{◌≡◌, ℕ, ◌+◌, ◌==◌, List, [], ◌∷◌, ◌++◌, length, drop, map, filter, refl, subst, sym, ap, ◌∙◌, All}
use Rattle.std.proofs.Common.{Bool, true, false, cond}
use Rattle.std.specs.Prelude.{Option, Some, IfSome}
use Rattle.std.proofs.Math.Seq.{drop-append_seam}
use Rattle.std.proofs.lemmas.Bool.{eqb-true}
use Rattle.std.proofs.lemmas.List.Elements.{All-append, All-cons, All-drop, All-head, All-nil, All-tail, All-weaker}
use Rattle.ds_base.specs.Keys.{KeyParts}
use Rattle.ds_base.specs.KeyOrder.{same_key}
use Rattle.ds_log.specs.declared.Commit.{Commit}
use Rattle.ds_log.specs.declared.Entry.{Entry}
use Rattle.ds_log.specs.declared.Write.{Write}
use Rattle.ds_log.specs.Logs.{commit_entries, entries_from, group_of, group_writes, groups_of, shard_list}
use Rattle.ds_log.specs.Shards.{shard_of}
use Rattle.ds_model.proofs.GroupViews.{same_key-equal}
use Rattle.ds_shard.specs.States.{IsOfShard, ShardPlace, StateParts}

-- an entry writes its own group alone
abbrev IsOwn : Entry → Type 0
IsOwn e = All (λ w. group_of w ≡ e.group) e.writes

own_writes : (g : KeyParts) (ws : List Write) → All (λ w. group_of w ≡ g) (group_writes g ws)
own_writes g [] = All-nil (λ w. group_of w ≡ g)
own_writes g (w ∷ ws) = by (own_writes g ws) (same_key (group_of w) g) refl where
  by : All (λ w. group_of w ≡ g) (group_writes g ws) → (b : Bool) → same_key (group_of w) g ≡ b
      → All (λ w. group_of w ≡ g) (cond b (w ∷ group_writes g ws) (group_writes g ws))
  by rest true same = All-cons (λ w. group_of w ≡ g) w (group_writes g ws) (same_key-equal (group_of w) g same) rest
  by rest false other = rest

own_commit : (n : ℕ) (ws : List Write) (gs : List KeyParts)
    → All IsOwn (map (λ g. record { commit = n; group = g; writes = group_writes g ws }) gs)
own_commit n ws [] = All-nil IsOwn
own_commit n ws (g ∷ gs) = All-cons IsOwn _ _ (own_writes g ws) (own_commit n ws gs)

own_entries : (n : ℕ) (cs : List Commit) → All IsOwn (entries_from n cs)
own_entries n [] = All-nil IsOwn
own_entries n (c ∷ cs) =
    All-append IsOwn (commit_entries n c) (entries_from (n + 1) cs) (own_commit n c.writes (groups_of c.writes)) (own_entries (n + 1) cs)

module _ (place : ShardPlace) where
  abbrev of_shard : Entry → Bool
  of_shard e = shard_of e.group place.shards == place.number

  -- an entry of a group of the shard
  own_entry : (e : Entry) → IsOwn e → of_shard e ≡ true → IsOfShard place e
  own_entry e own of =
      let group : shard_of e.group place.shards ≡ place.number = eqb-true (shard_of e.group place.shards) place.number of in
      All-weaker (λ w. group_of w ≡ e.group) (λ w. shard_of (group_of w) place.shards ≡ place.number)
      (λ w is. ap (λ g. shard_of g place.shards) is ∙ group) e.writes own

  own_filtered : (es : List Entry) → All IsOwn es → All (IsOfShard place) (filter of_shard es)
  own_filtered [] own = All-nil (IsOfShard place)
  own_filtered (e ∷ es) own = by (own_filtered es (All-tail IsOwn e es own)) (of_shard e) refl where
    by : All (IsOfShard place) (filter of_shard es) → (b : Bool) → of_shard e ≡ b
        → All (IsOfShard place) (cond b (e ∷ filter of_shard es) (filter of_shard es))
    by rest true of = All-cons (IsOfShard place) e (filter of_shard es) (own_entry e (All-head IsOwn e es own) of) rest
    by rest false other = rest

  pub entries_of_shard : (journal : List Commit) → All (IsOfShard place) (shard_list journal place.number place.shards)
  entries_of_shard journal = own_filtered (entries_from 1 journal) (own_entries 1 journal)

-- and so are those that wait, behind others, for a hub that begins with the shard
pub waiting_of_shard : (s : StateParts) (start : Option StateParts) (journal : List Commit) (front waiting : List Entry)
    → front ++ waiting ≡ shard_list journal s.place.number s.place.shards → start ≡ Some s
    → IfSome start (λ b. All (IsOfShard b.place) waiting)
waiting_of_shard s start journal front waiting list begins =
    let own : All (IsOfShard s.place) (drop (length front) (front ++ waiting)) =
    subst (λ es. All (IsOfShard s.place) (drop (length front) es)) (sym list)
    (All-drop (IsOfShard s.place) (length front) (shard_list journal s.place.number s.place.shards) (entries_of_shard s.place journal)) in
    subst (λ o. IfSome o (λ (b : StateParts). All (IsOfShard b.place) waiting)) (sym begins)
    (subst (All (IsOfShard s.place)) (drop-append_seam front waiting) own)
