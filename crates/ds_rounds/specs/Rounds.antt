-- The rounds of an input.
use Rattle.std.specs.Prelude.{ℕ, ◌+◌, List, [], ◌∷◌, ◌++◌, Bool, true, false, ◌||◌, cond, nat_le, length, sum_by, Option, Some, None}
use Rattle.ds_base.specs.Limits.{most_round_lines, most_round_bytes}
use Rattle.ds_rounds.specs.Lines.{Content, content_of, is_blank, kept_bytes, lines_in}
use Rattle.ds_rounds.specs.declared.round.Round.{Round}

-- A line with its number. Lines are numbered from 1 through the whole input, empty ones too.
pub record NumberedLine : Type 0 where
  pub number : ℕ
  pub content : Content

-- how many bytes of these lines are kept
abbrev pub round_bytes : List NumberedLine → ℕ
round_bytes = sum_by (λ line. kept_bytes line.content)

-- the lines with which a round ends, whatever comes behind: there are so many of them, or so many bytes of them are kept
abbrev pub is_full : List NumberedLine → Bool
is_full lines = nat_le most_round_lines (length lines) || nat_le most_round_bytes (round_bytes lines)

-- a round in front of the rounds behind it; lines that are none make no round
abbrev pub round_of : List NumberedLine → List (List NumberedLine) → List (List NumberedLine)
round_of [] rounds = rounds
round_of (line ∷ lines) rounds = (line ∷ lines) ∷ rounds

-- The rounds of lines, the first of which has this number, behind the lines that a round has so far. An empty line ends the
-- round and is no part of it. Any other line is the round's next one, and ends it where the round is full with it. The end of
-- the input ends the round too; where the input goes on, the last lines are no round yet.
unfoldable pub rounds_from : Bool → List NumberedLine → ℕ → List (List ℕ) → List (List NumberedLine)
rounds_from ended so_far number [] = cond ended (round_of so_far []) []
rounds_from ended so_far number (line ∷ lines) =
    let longer = so_far ++ (record { number = number; content = content_of line }) ∷ [] in
    cond (is_blank line) (round_of so_far (rounds_from ended [] (number + 1) lines))
    (cond (is_full longer) (longer ∷ rounds_from ended [] (number + 1) lines) (rounds_from ended longer (number + 1) lines))

-- the rounds of bytes that begin at a line of this number, of an input that ends with them or goes on
unfoldable pub rounds_in : Bool → ℕ → List ℕ → List (List NumberedLine)
rounds_in ended number bytes = rounds_from ended [] number (lines_in ended bytes)

-- the rounds of an input
abbrev pub rounds_of_input : List ℕ → List (List NumberedLine)
rounds_of_input bytes = rounds_in true 1 bytes

-- the rounds that have ended within the first bytes of an input, whatever comes behind them
abbrev pub ended_rounds : List ℕ → List (List NumberedLine)
ended_rounds bytes = rounds_in false 1 bytes

-- ---- the code's types

-- lines that stand one behind another, with their numbers
abbrev pub numbered : ℕ → List Content → List NumberedLine
numbered number [] = []
numbered number (content ∷ contents) = (record { number = number; content = content }) ∷ numbered (number + 1) contents

-- the lines of a round that was read
abbrev pub lines_of_round : Round → List NumberedLine
lines_of_round round = numbered round.first round.lines

-- the round that was found, if one was
abbrev pub found_rounds : Option Round → List (List NumberedLine)
found_rounds None = []
found_rounds (Some round) = lines_of_round round ∷ []
