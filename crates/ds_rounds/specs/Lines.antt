-- The lines of an input, and what is kept of each.
use Rattle.std.specs.Prelude.{ℕ, ◌+◌, ◌-◌, List, [], ◌∷◌, ◌++◌, Bool, ◌||◌, ◌==◌, cond, nat_le, length, take, drop, map, ◌≤◌, ⊤}
use Rattle.std.specs.List.{list_all}
use Rattle.ds_base.specs.Limits.{most_line_bytes}
use Rattle.ds_rounds.specs.declared.line.Line.{Line}
use Rattle.ds_rounds.specs.declared.line.Line.TheVariants as line
use Rattle.ds_rounds.specs.declared.lines.Span.{Span}

-- A byte in front of the first of several lines. Where there is none, the byte is the end of the input's last line, which
-- is a line once the input has ended.
abbrev pub in_front : Bool → ℕ → List (List ℕ) → List (List ℕ)
in_front ended b [] = cond ended ((b ∷ []) ∷ []) []
in_front ended b (line ∷ lines) = (b ∷ line) ∷ lines

-- The lines of these bytes: a line ends at a newline, and where the input has ended at its end too. Where the input goes on
-- behind these bytes, what stands behind the last newline is no line yet.
unfoldable pub lines_in : Bool → List ℕ → List (List ℕ)
lines_in ended [] = []
lines_in ended (b ∷ bytes) = cond (b == 10) ([] ∷ lines_in ended bytes) (in_front ended b (lines_in ended bytes))

-- a space, a tab, a carriage return
abbrev pub is_blank_byte : ℕ → Bool
is_blank_byte b = (b == 32) || (b == 9) || (b == 13)

-- a line of spaces, tabs and carriage returns alone is empty, whatever its length
abbrev pub is_blank : List ℕ → Bool
is_blank = list_all is_blank_byte

-- what a line that isn't empty has: the bytes that are kept of it, which are all of them, or that it is too long
pub data Content : Type 0 where
  Kept : List ℕ → Content
  TooLong : Content

abbrev pub content_of : List ℕ → Content
content_of line = cond (nat_le (length line) most_line_bytes) (Kept line) TooLong

-- how many of its bytes are kept: of a line that is too long one more than a line may have
abbrev pub kept_bytes : Content → ℕ
kept_bytes (Kept bytes) = length bytes
kept_bytes TooLong = most_line_bytes + 1

-- ---- the code's types

-- what a line's reader is handed
abbrev pub handed : Line → Content
handed (line.Kept bytes) = Kept bytes.now
handed line.TooLong = TooLong

-- what is kept of a line is no longer than a line may be
abbrev pub IsWithinLimit : Line → Type 0
IsWithinLimit (line.Kept bytes) = length bytes.now ≤ most_line_bytes
IsWithinLimit line.TooLong = ⊤

-- the bytes of a span
abbrev pub spanned : List ℕ → Span → List ℕ
spanned bytes span = take (span.to - span.from) (drop span.from bytes)

-- the line of a span, which tells by its length alone that the line is too long
abbrev pub content_at : List ℕ → Span → Content
content_at bytes span = cond (nat_le (span.to - span.from) most_line_bytes) (Kept (spanned bytes span)) TooLong

-- the lines that stand at these spans of the kept bytes
abbrev pub contents : List ℕ → List Span → List Content
contents bytes = map (content_at bytes)

-- the lines of chunks, one chunk behind another
abbrev pub lines_of_chunks : List (List Content) → List Content
lines_of_chunks [] = []
lines_of_chunks (lines ∷ chunks) = lines ++ lines_of_chunks chunks
