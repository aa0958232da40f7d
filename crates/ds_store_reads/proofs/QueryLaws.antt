-- What a pass tells of the slots of its shards.
use Rattle.std.proofs.Common.{◌≡◌, ℕ, ◌+◌, List, [], ◌∷◌, length, map, refl, ap, sym, ◌∙◌, subst}
use Rattle.std.specs.Prelude.{All}
use Rattle.std.proofs.lemmas.List.{length-map}
use Rattle.std.proofs.lemmas.List.Elements.{All-cons, All-nil}
use Rattle.ds_hub.specs.Holding.{Slotted, hub_in}
use Rattle.ds_hub.specs.Line.{HubId}
use Rattle.ds_indexdef.specs.declared.IndexDef.{IndexDef}
use Rattle.ds_log.specs.declared.Entry.{Entry}
use Rattle.ds_shard.specs.States.{ShardPlace, StateParts}
use Rattle.ds_engine.specs.Counted.{AreInPlace, BeginsAt, HasBegun}
use Rattle.ds_store_hubs.proofs.ShardHubs.{origins-many}
use Rattle.ds_store_hubs.specs.Origins.{origin_of, origins, origins_from}

-- each slot is of a hub that begins with a shard that has absorbed nothing
begun-origins : (ledger shards : ℕ) (definitions : List IndexDef) (window number : ℕ) (hubs : List HubId)
    (slots : List (Slotted StateParts Entry StateParts)) → map hub_in slots ≡ origins_from ledger shards definitions window number hubs
    → All (HasBegun ledger definitions window) slots
begun-origins ledger shards definitions window number hubs [] is = All-nil (HasBegun ledger definitions window)
begun-origins ledger shards definitions window number [] (s ∷ slots) is = absurd (none is) where
  none : hub_in s ∷ map hub_in slots ≡ [] → ⊥
  none e = cc
begun-origins ledger shards definitions window number (hub ∷ hubs) (s ∷ slots) is =
    let place : ShardPlace = record { shards = shards; number = number } in
    let first : hub_in s ≡ origin_of ledger place definitions window hub = cc in
    let rest : map hub_in slots ≡ origins_from ledger shards definitions window (number + 1) hubs = cc in
    All-cons (HasBegun ledger definitions window) s slots (place, ap (λ h. h.1) first)
    (begun-origins ledger shards definitions window (number + 1) hubs slots rest)

-- by definitions and a window that are those
pub begun-of : (ledger : ℕ) (definitions defs : List IndexDef) (window kept : ℕ) (hubs : List HubId)
    (slots : List (Slotted StateParts Entry StateParts)) → defs ≡ definitions → kept ≡ window
    → map hub_in slots ≡ origins ledger definitions window hubs → All (HasBegun ledger defs kept) slots
begun-of ledger definitions defs window kept hubs slots same kept_is is =
    subst (λ d. All (HasBegun ledger d kept) slots) (sym same)
    (subst (λ k. All (HasBegun ledger definitions k) slots) (sym kept_is)
    (begun-origins ledger (length hubs) definitions window 0 hubs slots is))

-- each is in the place of its number
placed_from : (ledger shards : ℕ) (definitions : List IndexDef) (window number : ℕ) (hubs : List HubId)
    (slots : List (Slotted StateParts Entry StateParts)) → map hub_in slots ≡ origins_from ledger shards definitions window number hubs
    → AreInPlace shards number slots
placed_from ledger shards definitions window number hubs [] is = tt
placed_from ledger shards definitions window number [] (s ∷ slots) is = absurd (none is) where
  none : hub_in s ∷ map hub_in slots ≡ [] → ⊥
  none e = cc
placed_from ledger shards definitions window number (hub ∷ hubs) (s ∷ slots) is =
    let place : ShardPlace = record { shards = shards; number = number } in
    let first : hub_in s ≡ origin_of ledger place definitions window hub = cc in
    let rest : map hub_in slots ≡ origins_from ledger shards definitions window (number + 1) hubs = cc in (
      subst (BeginsAt place) (sym (ap (λ h. h.1) first)) refl,
      placed_from ledger shards definitions window (number + 1) hubs slots rest,
    )

pub many-origins : (ledger : ℕ) (definitions : List IndexDef) (window : ℕ) (hubs : List HubId)
    (slots : List (Slotted StateParts Entry StateParts)) → map hub_in slots ≡ origins ledger definitions window hubs
    → length slots ≡ length hubs
many-origins ledger definitions window hubs slots is =
    sym (length-map slots hub_in) ∙ ap length is ∙ origins-many ledger (length hubs) definitions window 0 hubs

pub placed-origins : (ledger : ℕ) (definitions : List IndexDef) (window : ℕ) (hubs : List HubId)
    (slots : List (Slotted StateParts Entry StateParts)) → map hub_in slots ≡ origins ledger definitions window hubs
    → AreInPlace (length slots) 0 slots
placed-origins ledger definitions window hubs slots is =
    subst (λ n. AreInPlace n 0 slots) (sym (many-origins ledger definitions window hubs slots is))
    (placed_from ledger (length hubs) definitions window 0 hubs slots is)
