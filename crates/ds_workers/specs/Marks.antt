-- What a history is, and what a mark tells of it.
use Rattle.std.specs.Prelude.{◌≡◌, ℕ, ◌==◌, true, List, [], ◌∷◌, ◌++◌, Option, Some, None, length}
use Rattle.std.specs.Bool.{OnTrue}
use Rattle.logbook.specs.Pages.{Cell, Step, View, Book, Named}

-- which history it is. A crate above may write it as a type with no import from `logbook`
abbrev pub HistoryId : Type 0
HistoryId = Book

-- a name to begin with where a trait's ghost member asks for one, before a call picks the name of a real history
abbrev pub no_history : HistoryId
no_history = record { number = 0; log_name = 0; cells_name = 0 }

-- which history it is, and a beginning of it
pub record Marked (E : Type 0) : Type 0 where
  pub history : HistoryId
  pub entries : List E

-- a client with the mark with which it was handed over
pub record HandedOver (C : Type 0) : Type 0 where
  pub client : C
  pub mark : Marked C

-- the last of a list
abbrev pub last_of : {E : Type 0} → List E → Option E
last_of [] = None
last_of (x ∷ []) = Some x
last_of (x ∷ (y ∷ ys)) = last_of (y ∷ ys)

-- The first word counts the entries. A history has two words, of which the second stays at 0.
abbrev pub IsCounted : {E : Type 0} → List Cell → List E → Type 0
IsCounted cells log = cells ≡ (length log, true) ∷ (0, true) ∷ []

-- the word of this history
abbrev pub word_of : HistoryId → Named
word_of history = record { tracked = true; key = 0; book = history }

-- where the word was found as it was expected, the entry stands behind all that was known
abbrev pub Appended : {E : Type 0} → Step E → View E ℕ → ℕ → View E ℕ → Type 0
Appended step known found after = OnTrue (found == step.old) (after.0 ≡ known.0 ++ step.ask ∷ [])
