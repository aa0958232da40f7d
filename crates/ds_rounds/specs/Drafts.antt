-- A round that is being read.
use Rattle.std.specs.Prelude.{◌≡◌, ℕ, ◌+◌, ◌-◌, ◌*◌, ◌<◌, ◌≤◌, ◌⊎◌, List, [], ◌∷◌, ◌++◌, Bool, true, false, ◌==◌, length, take, sum_by, ⊤}
use Rattle.ds_base.specs.Limits.{most_line_bytes, most_round_lines}
use Rattle.ds_rounds.specs.Lines.{Content, is_blank, kept_bytes, lines_in}
use Rattle.ds_rounds.specs.Rounds.{NumberedLine, numbered, round_of, rounds_from, rounds_in}
use Rattle.ds_rounds.specs.Spans.{AreWithin}
use Rattle.ds_rounds.specs.declared.lines.Span.{Span}
use Rattle.ds_rounds.specs.declared.round.Round.{Round}

-- the number of its first line, or of the line that is being read where it has none; its lines; what is kept of the line that
-- is being read, and whether that has blanks alone so far; and how many bytes and lines it takes without memory
pub record DraftParts : Type 0 where
  pub first : ℕ
  pub lines : List Content
  pub kept : List ℕ
  pub blank : Bool
  pub byte_room : ℕ
  pub line_room : ℕ

-- no newline is in these bytes
abbrev pub IsUnbroken : List ℕ → Type 0
IsUnbroken [] = ⊤
IsUnbroken (b ∷ bytes) = ((b == 10) ≡ false) × IsUnbroken bytes

-- these are the bytes of the line that is being read so far
pub record IsLine (draft : DraftParts) (line : List ℕ) : Type 0 where
  pub unbroken : IsUnbroken line
  pub kept : draft.kept ≡ take (most_line_bytes + 1) line
  pub blank : draft.blank ≡ is_blank line

abbrev pub so_far : DraftParts → List NumberedLine
so_far draft = numbered draft.first draft.lines

-- Rounds, told for an input that ends or goes on and for whatever it goes on with, are those of a draft, of the line that is
-- being read, and of these bytes behind it.
pub record Stands (rounds : Bool → List ℕ → List (List NumberedLine)) (draft : DraftParts) (number : ℕ) (bytes : List ℕ) : Type 0 where
  pub line : List ℕ
  pub is_line : IsLine draft line
  pub counted : number ≡ draft.first + length draft.lines
  pub rounds_are : (ended : Bool) (more : List ℕ)
      → rounds ended more ≡ rounds_from ended (so_far draft) number (lines_in ended (line ++ (bytes ++ more)))

-- the draft is a round, and the first of these rounds; the others are those of the bytes behind it
abbrev pub IsFirst : (Bool → List ℕ → List (List NumberedLine)) → DraftParts → ℕ → List ℕ → Type 0
IsFirst rounds draft number bytes = (ended : Bool) (more : List ℕ)
    → rounds ended more ≡ so_far draft ∷ rounds_in ended number (bytes ++ more)

-- nothing but the room changed
pub record IsSame (old new : DraftParts) : Type 0 where
  pub first : new.first ≡ old.first
  pub lines : new.lines ≡ old.lines
  pub kept : new.kept ≡ old.kept
  pub blank : new.blank ≡ old.blank

-- the number of the line that is being read
abbrev pub number_in : DraftParts → ℕ
number_in draft = draft.first + length draft.lines

-- a draft that takes a further line
abbrev pub IsOpen : DraftParts → Type 0
IsOpen draft = length draft.lines < most_round_lines

-- a draft that is a whole round, with no bytes of a further line
pub record IsWhole (draft : DraftParts) : Type 0 where
  pub some : 0 < length draft.lines
  pub within : length draft.lines ≤ most_round_lines
  pub between : draft.kept ≡ []

-- what ending a line leaves: a whole round, or a draft that goes on with the next line
abbrev pub Leaves : Bool → DraftParts → DraftParts → Type 0
Leaves true old new = IsWhole new × (number_in new ≤ number_in old + 1) × (old.first ≤ new.first)
Leaves false old new = IsOpen new × (number_in new ≡ number_in old + 1) × (old.first ≤ new.first)

-- the rounds of a draft and the line that has ended are the round that it made, if it made one, and those behind it
abbrev pub EndsLine : Bool → DraftParts → DraftParts → List ℕ → Type 0
EndsLine true old new line =
    (ended : Bool) (lines : List (List ℕ))
    → rounds_from ended (so_far old) (number_in old) (line ∷ lines) ≡ so_far new ∷ rounds_from ended [] (number_in old + 1) lines
EndsLine false old new line =
    IsLine new [] × ((ended : Bool) (lines : List (List ℕ))
    → rounds_from ended (so_far old) (number_in old) (line ∷ lines) ≡ rounds_from ended (so_far new) (number_in old + 1) lines)

-- what is left of a draft at the end of the input, behind the line that is being read
abbrev pub EndsInput : DraftParts → DraftParts → List ℕ → Type 0
EndsInput old new line = rounds_from true (so_far old) (number_in old) (lines_in true line) ≡ round_of (so_far new) []

-- Where the bytes of a draft stand that are in no chunk yet; and how many lines it has, and how many bytes are kept of them.
-- Those are no more than are kept of so many lines.
pub record IsDraft (start count total : ℕ) (bytes : List ℕ) (spans : List Span) (lines : List Content) : Type 0 where
  pub within : start ≤ length bytes
  pub kept : length bytes - start ≤ most_line_bytes + 1
  pub ordered : AreWithin start spans
  pub counted : count ≡ length lines
  pub summed : total ≡ sum_by kept_bytes lines
  pub bounded : total ≤ count * (most_line_bytes + 1)

-- what absorbing bytes leaves: the first round and the bytes behind it, or a draft that goes on and no bytes
abbrev pub Absorbed : Bool → (Bool → List ℕ → List (List NumberedLine)) → DraftParts → ℕ → List ℕ → Type 0
Absorbed true rounds draft number bytes = IsFirst rounds draft number bytes
Absorbed false rounds draft number bytes = Stands rounds draft number bytes

-- what absorbing bytes leaves of a draft, the number of the line that is being read, and the bytes: a whole round whose lines
-- are before that number, or a draft that takes further lines and no bytes
abbrev pub LeavesRound : Bool → DraftParts → ℕ → List ℕ → Type 0
LeavesRound true draft number bytes = IsWhole draft × (number_in draft ≤ number)
LeavesRound false draft number bytes = IsOpen draft × (number_in draft ≡ number) × (bytes ≡ [])

-- bytes that may want memory: several of them, or one without room for it and its line
abbrev pub WantsMemory : DraftParts → List ℕ → Type 0
WantsMemory draft bytes = (1 < length bytes) ⊎ ((0 < length bytes) × ((draft.byte_room < 1) ⊎ (draft.line_room < 1)))

-- the round at the end of the input is that of a draft with at most one line more
pub record IsLastOf (draft : DraftParts) (round : Round) : Type 0 where
  pub first : round.first ≡ draft.first
  pub some : 0 < length round.lines
  pub within : length round.lines ≤ length draft.lines + 1
