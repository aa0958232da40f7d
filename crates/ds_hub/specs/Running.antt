-- What a hub's writer keeps between two calls.
use Rattle.std.specs.Prelude.{◌≡◌, ℕ, ◌≤◌, ◌^◌, List, ◌++◌, drop, length, Option}
use Rattle.ds_hub.specs.Line.{HubId, Line}
use Rattle.ds_hub.specs.Logs.{Fits, IsMarked, told_by}
use Rattle.ds_hub.specs.Holding.{IsOf, AllBelong, start_of}
use Rattle.ds_hub.specs.declared.version.Logged.{Logged}
use Rattle.ds_hub.specs.declared.rule.Origin.{Origin}

-- what was announced and isn't seen yet
abbrev pub unseen : {E : Type 0} → Line E → Line E → List E
unseen shown announced = drop (length shown.list) announced.list

-- `log` has the pending operations, with the one that is kept aside
pub record IsRunning {T O E : Type 0} (asks : E → O) (applied : T → O → T) (belongs : T → E → Type 0) (hub : HubId)
    (knows : Option (Origin T E)) (state : T) (shown : Line E) (log : List (Logged O E)) (announced : Line E) (waiting : ℕ)
    : Type 0 where
  -- it was told where the hub begins, and what readers see is the fold of the published list from there, all of which belongs there
  pub told : IsOf hub knows
  pub fits : Fits (told_by asks applied) belongs state shown knows
  -- and so does what is pending
  pub belong : AllBelong belongs (start_of knows) (unseen shown announced)
  pub shown_hub : shown.hub ≡ hub
  pub announced_hub : announced.hub ≡ hub
  -- the history has the published list and then what is pending, which stands for the operations of the log
  pub marked : IsMarked asks shown log (unseen shown announced)
  pub whole : announced.list ≡ shown.list ++ unseen shown announced
  pub waiting_is : waiting ≡ length (unseen shown announced)
  pub room : length announced.list ≤ 2 ^ 62
