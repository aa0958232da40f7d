-- What a contract sees of a word, of a seat and of the numbers that seats drew.
use Rattle.std.specs.Prelude.{ℕ, ◌-◌, List, [], flat_map, IsPermutation}
use Rattle.std.specs.List.{range_with_len}
use Rattle.atomic_table.specs.Seated.{TableId}

-- Which word it is: a seat and a word with equal names belong together. It exists in contracts and proofs alone.
abbrev pub WordName : Type 0
WordName = TableId

-- A name to begin with where a trait's ghost member asks for one, before a call picks the name of a real word.
abbrev pub no_word : WordName
no_word = record { words = 0; slots = 0; views_name = 0; atom = 0; block = 0; offset = 0; slot_names = [] }

-- A word to a contract: which one it is, the number that it began at, and how many seats it was made with.
-- The number that it stands at isn't here, since any thread may raise it at any time.
pub record WordView : Type 0 where
  pub name : WordName
  pub first : ℕ
  pub seats : ℕ

-- A seat to a contract: the word that it belongs to, the numbers that it drew in the order in which it drew them,
-- and its counter, the last value of the word that it knows.
pub record SeatView : Type 0 where
  pub word : WordName
  pub draws : List ℕ
  pub counter : ℕ

-- the numbers from `from` up to but without `to`, in order
abbrev pub numbers : ℕ → ℕ → List ℕ
numbers from to = range_with_len from (to - from)

-- the numbers that the seats drew, seat by seat
abbrev pub draws_of : List SeatView → List ℕ
draws_of seats = flat_map (λ s. s.draws) seats

-- Among these each number from `from` up to but without `to` stands exactly once, and no other number does.
abbrev pub HasEachOnce : ℕ → ℕ → List ℕ → Type 0
HasEachOnce from to drawn = IsPermutation (numbers from to) drawn

-- a seat that has drawn nothing and knows that the word began at `first`
abbrev pub new_seat : WordName → ℕ → SeatView
new_seat name first = record { word = name; draws = []; counter = first }
