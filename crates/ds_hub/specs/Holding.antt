-- What contracts see of a hub's readers, views and notes, and of its writer.
use Rattle.std.specs.Prelude.{◌≡◌, Bool, List, All, fold, is_some, Option, Some, None, Result, Ok, Err}
use Rattle.ds_hub.specs.Line.{HubId}
use Rattle.ds_hub.specs.declared.rule.Origin.{Origin}

-- of a reader: its hub, the state with which the hub begins, and the longest list that it saw or learnt, which each other such list begins
pub record Following (T E : Type 0) : Type 0 where
  pub hub : HubId
  pub start : Option T
  pub known : List E

-- of a view: its hub, the state with which the hub begins, the published list that it shows, and the state that this list gives
pub record Showing (T E S : Type 0) : Type 0 where
  pub hub : HubId
  pub start : Option T
  pub list : List E
  pub state : S

-- of a writer: its hub, the state with which the hub begins, the list that readers see, what was added and isn't seen yet, and whether
-- there was no memory for the last of that after it had been announced, so that it is kept aside
pub record Publishing (T E : Type 0) : Type 0 where
  pub hub : HubId
  pub start : Option T
  pub published : List E
  pub pending : List E
  pub is_parked : Bool

module _ {T E : Type 0} where
  -- the state is the fold of the list from the start, which is known
  abbrev pub IsFold : (T → E → T) → Option T → List E → T → Type 0
  IsFold makes None list state = ⊥
  IsFold makes (Some start) list state = state ≡ fold makes start list

  -- all of the list belongs to a hub that begins with the start, which is known
  abbrev pub AllBelong : (T → E → Type 0) → Option T → List E → Type 0
  AllBelong belongs None list = ⊥
  AllBelong belongs (Some start) list = All (belongs start) list

  -- the state with which the hub begins, for who was told
  abbrev pub start_of : Option (Origin T E) → Option T
  start_of None = None
  start_of (Some origin) = Some origin.start

  -- it was told where this hub begins
  abbrev pub IsOf : HubId → Option (Origin T E) → Type 0
  IsOf hub None = ⊥
  IsOf hub (Some origin) = origin.prefix.hub ≡ hub

-- of a slot: its hub, the state with which the hub begins, the longest list that its reader saw or learnt, and the state that is shown
-- where the reader has entered a view, whose list that is then
pub record Slotted (T E S : Type 0) : Type 0 where
  pub hub : HubId
  pub start : Option T
  pub known : List E
  pub shown : Option S

abbrev pub slotted : {T E S : Type 0} → Result (Showing T E S) (Following T E) → Slotted T E S
slotted (Ok view) = record { hub = view.hub; start = view.start; known = view.list; shown = Some view.state }
slotted (Err reader) = record { hub = reader.hub; start = reader.start; known = reader.known; shown = None }

-- a hub with the state with which it begins
abbrev pub hub_in : {T E S : Type 0} → Slotted T E S → HubId × Option T
hub_in slot = (slot.hub, slot.start)

abbrev pub known_in : {T E S : Type 0} → Slotted T E S → List E
known_in slot = slot.known

-- its reader has entered a view
abbrev pub is_inside : {T E S : Type 0} → Slotted T E S → Bool
is_inside slot = is_some slot.shown

-- its view is left
abbrev pub out_of : {T E S : Type 0} → Slotted T E S → Slotted T E S
out_of slot = record slot { shown = None }
