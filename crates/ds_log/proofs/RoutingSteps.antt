-- One routed entry more.
use Rattle.std.proofs.Common.{◌≡◌, ℕ, ◌<◌, List, [], ◌∷◌, ◌++◌, map, ap, sym, ◌∙◌}
use Rattle.std.specs.Prelude.{All}
use Rattle.std.proofs.lemmas.List.{map-append}
use Rattle.std.proofs.lemmas.List.Elements.{All-push}
use Rattle.ds_base.specs.Keys.{KeyParts}
use Rattle.ds_log.specs.declared.Entry.{Entry}
use Rattle.ds_log.specs.declared.Write.{Write}
use Rattle.ds_log.specs.declared.projection.Routed.{Routed}
use Rattle.ds_log.specs.Logs.{group_writes}
use Rattle.ds_log.specs.Routing.{IsRouted, entry_of}
use Rattle.ds_log.specs.Shards.{shard_of}

module _ (number shards : ℕ) (ws : List Write) where
  abbrev entries : List KeyParts → List Entry
  entries = map (λ g. record { commit = number; group = g; writes = group_writes g ws })

  pub routed_more : (routed : List Routed) (gs : List KeyParts) (g : KeyParts) (shard : ℕ) (e : Entry)
      → e ≡ record { commit = number; group = g; writes = group_writes g ws } → shard ≡ shard_of g shards → shard < shards
      → map entry_of routed ≡ entries gs → All (IsRouted shards) routed
      → (map entry_of (routed ++ (record { shard = shard; entry = e }) ∷ []) ≡ entries (gs ++ g ∷ []))
      × All (IsRouted shards) (routed ++ (record { shard = shard; entry = e }) ∷ [])
  routed_more routed gs g shard e is at_shard below so_far all = (
    map-append entry_of routed ((record { shard = shard; entry = e }) ∷ [])
        ∙ (λ i. so_far i ++ is i ∷ [])
        ∙ sym (map-append (λ h. record { commit = number; group = h; writes = group_writes h ws }) gs (g ∷ [])),
    All-push (IsRouted shards) routed (record { shard = shard; entry = e }) all
        (at_shard ∙ ap (λ (x : Entry). shard_of x.group shards) (sym is), below),
  )
