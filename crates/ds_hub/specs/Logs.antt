-- What the two copies take in, and what the one that is shown stands for.
use Rattle.std.specs.Prelude.{◌≡◌, ℕ, List, [], ◌∷◌, ◌++◌, All, fold, Option, Some, None}
use mathlib.Core.Option.{some}
use lib.ListN.{get_elem?}
use Rattle.ds_hub.specs.Line.{Line}
use Rattle.ds_hub.specs.declared.version.Logged.{Logged}
use Rattle.ds_hub.specs.declared.rule.Origin.{Origin}

-- what a told element makes of a state: what the operation does for which it stands
abbrev pub told_by : {T O E : Type 0} → (E → O) → (T → O → T) → T → E → T
told_by asks applied state told = applied state (asks told)

-- an operation changes the state, and where there is none the state stays
abbrev pub changed : {T O : Type 0} → (T → O → T) → T → Option O → T
changed applied state None = state
changed applied state (Some operation) = applied state operation

-- an operation changes the state, and its mark says which operations are in it then
abbrev pub taken_in : {T O E : Type 0} → (T → O → T) → T × Line E → Logged O E → T × Line E
taken_in applied (state, line) logged = (changed applied state logged.operation, logged.mark)

module _ {T E : Type 0} where
  -- Whoever knows where the hub begins: the copy that is shown is of this hub, is the fold of its prefix from there, and all of its
  -- prefix belongs there
  abbrev pub Fits : (T → E → T) → (T → E → Type 0) → T → Line E → Option (Origin T E) → Type 0
  Fits makes belongs state line None = Unit {0}
  Fits makes belongs state line (Some origin) =
      (line.hub ≡ origin.prefix.hub) × (state ≡ fold makes origin.start line.list) × All (belongs origin.start) line.list

  -- whoever knows where the hub begins knows that it begins with this state
  abbrev pub BeginsWith : T → Option (Origin T E) → Type 0
  BeginsWith start None = Unit {0}
  BeginsWith start (Some origin) = origin.start ≡ start

  -- so it is with all, and they know of one beginning
  abbrev pub AllFit : (T → E → T) → (T → E → Type 0) → T → Line E → List (Option (Origin T E)) → Type 0
  AllFit makes belongs state line views =
      (start : T) × ((seat : ℕ) (v : Option (Origin T E)) → get_elem? views seat ≡ some v
      → BeginsWith start v × Fits makes belongs state line v)

-- what is in the log, and then what is kept aside, if anything is
abbrev pub queued : {L : Type 0} → List L → Option L → List L
queued log None = log
queued log (Some parked) = log ++ parked ∷ []

module _ {O E : Type 0} where
  -- Each mark is of the hub, and has the list of the mark before it, the first that of the line, and then one told element
  -- more, which stands for the operation
  abbrev pub IsMarked : (E → O) → Line E → List (Logged O E) → List E → Type 0
  IsMarked asks line [] [] = Unit {0}
  IsMarked asks line [] (t ∷ told) = ⊥
  IsMarked asks line (logged ∷ log) [] = ⊥
  IsMarked asks line (logged ∷ log) (t ∷ told) =
      (logged.mark.hub ≡ line.hub) × (logged.mark.list ≡ line.list ++ t ∷ []) × (Some (asks t) ≡ logged.operation)
      × IsMarked asks logged.mark log told
