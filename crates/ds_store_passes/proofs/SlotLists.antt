-- The slots of a pass, of which one changes.
use Rattle.std.proofs.Common.{◌≡◌, ℕ, zero, suc, ◌+◌, ◌<◌, List, [], ◌∷◌, length, map, set, get_or, Some, refl, ap, ◌∙◌, sym, arith}
use Rattle.std.specs.Prelude.{slice_get}
use Rattle.std.proofs.lemmas.List.{map-set, length-map}
use Rattle.std.proofs.lemmas.Option.{slice_get_within}
use Rattle.std.proofs.Math.Seq.{map-set_same}
use mathlib.Core.List.{IsPrefix}
use Rattle.ds_hub.specs.Growing.{AreLonger}
use Rattle.ds_hub.specs.Holding.{Slotted, hub_in, known_in}
use Rattle.ds_hub.specs.Line.{HubId}
use Rattle.ds_indexdef.specs.declared.IndexDef.{IndexDef}
use Rattle.ds_log.specs.declared.Entry.{Entry}
use Rattle.ds_model.specs.Sessions.{count_of, list_of}
use Rattle.ds_shard.specs.States.{StateParts, begun}
use Rattle.ds_store_hubs.specs.Origins.{origin_of, origins, origins_from}
use Rattle.ds_store_hubs.proofs.ShardHubs.{origins-many}
use Rattle.ds_store_passes.proofs.Growing.{begins_itself, longer_at}

-- what is written at a place stands there
pub written_at : {X : Type 0} (xs : List X) (i : ℕ) (x : X) → i < length xs → slice_get (set xs i x) i ≡ Some x
written_at [] i x lt = absurd (omega (arith, lt))
written_at (y ∷ ys) zero x lt = refl
written_at (y ∷ ys) (suc i) x lt = written_at ys i x (omega (arith, lt))

-- each list at its place begins the one that grew out of it
pub longer_there : (xs ys : List (List Entry)) (i : ℕ) → AreLonger xs ys → IsPrefix (list_of xs i) (list_of ys i)
longer_there [] [] i h = begins_itself []
longer_there [] (y ∷ ys) i h = absurd h
longer_there (x ∷ xs) [] i h = absurd h
longer_there (x ∷ xs) (y ∷ ys) zero h = h.0
longer_there (x ∷ xs) (y ∷ ys) (suc i) h = longer_there xs ys i h.1

-- there are as many lists
pub as_many : (xs ys : List (List Entry)) → AreLonger xs ys → length ys ≡ length xs
as_many [] [] h = refl
as_many [] (y ∷ ys) h = absurd h
as_many (x ∷ xs) [] h = absurd h
as_many (x ∷ xs) (y ∷ ys) h = ap suc (as_many xs ys h.1)

-- how many entries were seen of a shard
pub count_there : (xs : List (List Entry)) (i : ℕ) → count_of (map length xs) i ≡ length (list_of xs i)
count_there [] i = refl
count_there (x ∷ xs) zero = refl
count_there (x ∷ xs) (suc i) = count_there xs i

module _ {S : Type 0} (ledger shards : ℕ) (definitions : List IndexDef) (window : ℕ) where
  hub_from : (number : ℕ) (slots : List (Slotted StateParts Entry S)) (hubs : List HubId) (i : ℕ) (hub : HubId)
      (slot : Slotted StateParts Entry S)
      → map hub_in slots ≡ origins_from ledger shards definitions window number hubs → slice_get hubs i ≡ Some hub
      → slot ≡ get_or slots i slot
      → hub_in slot ≡ origin_of ledger (record { shards = shards; number = number + i }) definitions window hub
  hub_from number [] [] i hub slot are is at_i = absurd (cc (is))
  hub_from number [] (h ∷ hs) i hub slot are is at_i = absurd (cc (are))
  hub_from number (s ∷ ss) [] i hub slot are is at_i = absurd (cc (is))
  hub_from number (s ∷ ss) (h ∷ hs) zero hub slot are is at_i =
      let head : hub_in s ≡ origin_of ledger (record { shards = shards; number = number }) definitions window h = cc (are) in
      let same : h ≡ hub = cc (is) in
      let first : number ≡ number + 0 = omega arith in
      ap hub_in at_i ∙ head
      ∙ (λ k. origin_of ledger (record { shards = shards; number = first k }) definitions window (same k))
  hub_from number (s ∷ ss) (h ∷ hs) (suc i) hub slot are is at_i =
      let later : number + 1 + i ≡ number + suc i = omega arith in
      hub_from (number + 1) ss hs i hub slot (cc (are)) is at_i
      ∙ ap (λ n. origin_of ledger (record { shards = shards; number = n }) definitions window hub) later

  start_from : (number : ℕ) (slots : List (Slotted StateParts Entry S)) (hubs : List HubId) (i : ℕ) (slot : Slotted StateParts Entry S)
      → map hub_in slots ≡ origins_from ledger shards definitions window number hubs → i < length slots → slot ≡ get_or slots i slot
      → slot.start ≡ Some (begun ledger (record { shards = shards; number = number + i }) definitions window)
  start_from number [] hubs i slot are lt is = absurd (omega (arith, lt))
  start_from number (s ∷ ss) [] i slot are lt is = absurd (cc (are))
  start_from number (s ∷ ss) (h ∷ hs) zero slot are lt is =
      let head : hub_in s ≡ origin_of ledger (record { shards = shards; number = number }) definitions window h = cc (are) in
      let first : number ≡ number + 0 = omega arith in
      ap (λ o. o.1) (ap hub_in is ∙ head)
      ∙ ap (λ n. Some (begun ledger (record { shards = shards; number = n }) definitions window)) first
  start_from number (s ∷ ss) (h ∷ hs) (suc i) slot are lt is =
      let later : number + 1 + i ≡ number + suc i = omega arith in
      start_from (number + 1) ss hs i slot (cc (are)) (omega (arith, lt)) is
      ∙ ap (λ n. Some (begun ledger (record { shards = shards; number = n }) definitions window)) later

-- the slot of a shard is of its hub, which begins with the shard of that number
pub hub_there : {S : Type 0} (ledger : ℕ) (definitions : List IndexDef) (window : ℕ) (slots : List (Slotted StateParts Entry S))
    (hubs : List HubId) (i : ℕ) (hub : HubId)
    (slot : Slotted StateParts Entry S) → map hub_in slots ≡ origins ledger definitions window hubs → slice_get hubs i ≡ Some hub
    → slot ≡ get_or slots i slot
    → hub_in slot ≡ origin_of ledger (record { shards = length hubs; number = i }) definitions window hub
hub_there ledger definitions window slots hubs i hub slot are is at_i =
    let same : 0 + i ≡ i = omega arith in
    hub_from ledger (length hubs) definitions window 0 slots hubs i hub slot are is at_i
    ∙ ap (λ n. origin_of ledger (record { shards = length hubs; number = n }) definitions window hub) same

-- and begins with a shard that has absorbed nothing
pub start_there : {S : Type 0} (ledger : ℕ) (definitions : List IndexDef) (window : ℕ) (slots : List (Slotted StateParts Entry S))
    (hubs : List HubId) (i : ℕ)
    (slot : Slotted StateParts Entry S) → map hub_in slots ≡ origins ledger definitions window hubs → i < length slots
    → slot ≡ get_or slots i slot
    → slot.start ≡ Some (begun ledger (record { shards = length hubs; number = i }) definitions window)
start_there ledger definitions window slots hubs i slot are lt is =
    let same : 0 + i ≡ i = omega arith in
    start_from ledger (length hubs) definitions window 0 slots hubs i slot are lt is
    ∙ ap (λ n. Some (begun ledger (record { shards = length hubs; number = n }) definitions window)) same

-- there are as many slots as hubs
pub slots_many : {S : Type 0} (ledger : ℕ) (definitions : List IndexDef) (window : ℕ) (slots : List (Slotted StateParts Entry S))
    (hubs : List HubId) → map hub_in slots ≡ origins ledger definitions window hubs → length slots ≡ length hubs
slots_many ledger definitions window slots hubs are =
    sym (length-map slots hub_in) ∙ ap length are ∙ origins-many ledger (length hubs) definitions window 0 hubs

-- so where a shard has a hub, a pass has a slot
pub slot_within : {S : Type 0} (ledger : ℕ) (definitions : List IndexDef) (window : ℕ) (slots : List (Slotted StateParts Entry S))
    (hubs : List HubId) (i : ℕ)
    (hub : HubId) → map hub_in slots ≡ origins ledger definitions window hubs → slice_get hubs i ≡ Some hub → i < length slots
slot_within ledger definitions window slots hubs i hub are is =
    omega (arith, slice_get_within hubs i hub is, slots_many ledger definitions window slots hubs are)

module _ {T S : Type 0} where
  -- its list is the pass's of its shard, and as long as the pass's count
  pub list_there : (slots : List (Slotted T Entry S)) (i : ℕ) (slot : Slotted T Entry S) → i < length slots → slot ≡ get_or slots i slot
      → list_of (map known_in slots) i ≡ slot.known
  list_there [] i slot lt is = absurd (omega (arith, lt))
  list_there (s ∷ ss) zero slot lt is = sym (ap known_in is)
  list_there (s ∷ ss) (suc i) slot lt is = list_there ss i slot (omega (arith, lt)) is

module _ {T E S : Type 0} where
  -- a slot that is changed stays of its hub
  pub hubs_stay : (slots : List (Slotted T E S)) (i : ℕ) (slot old : Slotted T E S) → hub_in slot ≡ hub_in old → old ≡ get_or slots i old
      → map hub_in (set slots i slot) ≡ map hub_in slots
  hubs_stay slots i slot old same is = map-set_same hub_in slots i slot old (same ∙ ap hub_in is)

  -- its list grows
  pub lists_grow : (slots : List (Slotted T E S)) (i : ℕ) (slot old : Slotted T E S) → IsPrefix old.known slot.known
      → old ≡ get_or slots i old
      → AreLonger (map known_in slots) (map known_in (set slots i slot))
  lists_grow slots i slot old grown is = longer_at known_in slots i slot old (rw (← is) grown)

  -- and stands at its place
  pub list_written : (slots : List (Slotted T E S)) (i : ℕ) (slot : Slotted T E S) → i < length slots
      → slice_get (map known_in (set slots i slot)) i ≡ Some slot.known
  list_written slots i slot lt =
      ap (λ ls. slice_get ls i) (map-set known_in slots i slot)
      ∙ written_at (map known_in slots) i slot.known (omega (arith, lt, length-map slots known_in))
