-- What a hub's history is, and what a holder knows of it.
use Rattle.std.specs.Prelude.{◌≡◌, ℕ, ◌==◌, true, List, [], ◌∷◌, ◌++◌, length}
use Rattle.std.specs.Bool.{OnTrue}
use Rattle.logbook.specs.Pages.{Cell, Step, View, Book, Named}

-- which hub it is: the name of its history. A crate above may write it as a type with no import from `logbook`
abbrev pub HubId : Type 0
HubId = Book

-- a name to begin with where a trait's ghost member asks for one, before a call picks the name of a real hub
abbrev pub no_hub : HubId
no_hub = record { number = 0; log_name = 0; cells_name = 0 }

-- which hub it is, and a beginning of the list that this hub has published
pub record Line (E : Type 0) : Type 0 where
  pub hub : HubId
  pub list : List E

-- The first word counts what was announced. A history has two words, of which a hub leaves the second at 0
abbrev pub IsCounted : {E : Type 0} → List Cell → List E → Type 0
IsCounted cells log = cells ≡ (length log, true) ∷ (0, true) ∷ []

-- the word of the history of this hub
abbrev pub head_of : HubId → Named
head_of hub = record { tracked = true; key = 0; book = hub }

-- where the word was found as it was expected, what is told stands behind all that was known
abbrev pub Announced : {E : Type 0} → Step E → View E ℕ → ℕ → View E ℕ → Type 0
Announced step known found after = OnTrue (found == step.old) (after.0 ≡ known.0 ++ step.ask ∷ [])
