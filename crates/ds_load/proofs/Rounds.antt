-- The rounds of lines that an empty line ends, and of two lines behind it.
use Rattle.std.proofs.Common.{◌≡◌, ℕ, ◌+◌, ◌≤◌, List, [], ◌∷◌, ◌++◌, refl, ap, sym, ◌∙◌, arith, Bool, true, false}
use Rattle.std.proofs.Common.{length, append_assoc}
use Rattle.std.specs.Prelude.{flat_map}
use Rattle.std.specs.List.{AllByRecursion}
use Rattle.ds_rounds.specs.Drafts.{IsUnbroken}
use Rattle.ds_rounds.specs.Lines.{Kept, content_of, is_blank, lines_in}
use Rattle.ds_rounds.specs.Rounds.{NumberedLine, is_full, round_of, rounds_from}
use Rattle.ds_rounds.proofs.DraftLaws.{rounds_from-empty_line, rounds_from-full, rounds_from-open}
use Rattle.ds_rounds.proofs.LineLaws.{lines_in-newline}

-- a line that isn't empty nor too long
pub record IsLine (line : List ℕ) : Type 0 where
  pub unbroken : IsUnbroken line
  pub some : is_blank line ≡ false
  pub kept : content_of line ≡ Kept line

-- lines with newlines
abbrev pub ended : List (List ℕ) → List ℕ
ended = flat_map (λ line. line ++ 10 ∷ [])

pub lines_ended : (lines : List (List ℕ)) (more : List ℕ) → AllByRecursion IsUnbroken lines
    → lines_in true (ended lines ++ more) ≡ lines ++ lines_in true more
lines_ended [] more all = refl
lines_ended (line ∷ lines) more all =
    ap (lines_in true) (append_assoc (line ++ 10 ∷ []) (ended lines) more ∙ append_assoc line (10 ∷ []) (ended lines ++ more))
    ∙ lines_in-newline true line (ended lines ++ more) all.0
    ∙ ap (λ ls. line ∷ ls) (lines_ended lines more all.1)

-- numbered from here on
abbrev pub numbered_from : ℕ → List (List ℕ) → List NumberedLine
numbered_from number [] = []
numbered_from number (line ∷ lines) = (record { number = number; content = Kept line }) ∷ numbered_from (number + 1) lines

abbrev pub joined : List (List NumberedLine) → List NumberedLine
joined = flat_map (λ round. round)

-- The rounds of these lines up to the empty one behind them, and of what stands behind it.
pub record HasRounds (so_far : List NumberedLine) (number : ℕ) (lines behind : List (List ℕ)) : Type 0 where
  pub rounds : List (List NumberedLine)
  pub next : ℕ
  pub below : next ≤ number + length lines + 1
  pub split : rounds_from true so_far number (lines ++ [] ∷ behind) ≡ rounds ++ rounds_from true [] next behind
  pub whole : joined rounds ≡ so_far ++ numbered_from number lines

last_round : (so_far : List NumberedLine) (rest : List (List NumberedLine)) → (rounds : List (List NumberedLine))
    × (round_of so_far rest ≡ rounds ++ rest) × (joined rounds ≡ so_far ++ [])
last_round [] rest = ([], refl, refl)
last_round (l ∷ ls) rest = ((l ∷ ls) ∷ [], refl, refl)

abbrev here : ℕ → List ℕ → NumberedLine
here number line = record { number = number; content = Kept line }

is_here : (so_far : List NumberedLine) (number : ℕ) (line : List ℕ) → content_of line ≡ Kept line
    → so_far ++ here number line ∷ [] ≡ so_far ++ (record { number = number; content = content_of line }) ∷ []
is_here so_far number line kept = ap (λ c. so_far ++ (record { number = number; content = c }) ∷ []) (sym kept)

one_line : (so_far : List NumberedLine) (number : ℕ) (line : List ℕ) (lines behind : List (List ℕ)) → IsLine line
    → HasRounds [] (number + 1) lines behind → HasRounds (so_far ++ here number line ∷ []) (number + 1) lines behind
    → HasRounds so_far number (line ∷ lines) behind
one_line so_far number line lines behind is alone longer = by (is_full (so_far ++ here number line ∷ [])) refl where
  by : (full : Bool) → is_full (so_far ++ here number line ∷ []) ≡ full → HasRounds so_far number (line ∷ lines) behind
  by true full = record {
    rounds = (so_far ++ here number line ∷ []) ∷ alone.rounds;
    next = alone.next;
    below = omega (arith, alone.below);
    split = rounds_from-full true so_far (so_far ++ here number line ∷ []) number line (lines ++ [] ∷ behind) is.some
        (is_here so_far number line is.kept) full
        ∙ ap (λ rs. (so_far ++ here number line ∷ []) ∷ rs) alone.split;
    whole = ap (λ ls. (so_far ++ here number line ∷ []) ++ ls) alone.whole
        ∙ append_assoc so_far (here number line ∷ []) (numbered_from (number + 1) lines);
  }
  by false open_yet = record {
    rounds = longer.rounds;
    next = longer.next;
    below = omega (arith, longer.below);
    split = rounds_from-open true so_far (so_far ++ here number line ∷ []) number line (lines ++ [] ∷ behind) is.some
        (is_here so_far number line is.kept) open_yet ∙ longer.split;
    whole = longer.whole ∙ append_assoc so_far (here number line ∷ []) (numbered_from (number + 1) lines);
  }

pub has_rounds : (so_far : List NumberedLine) (number : ℕ) (lines behind : List (List ℕ)) → AllByRecursion IsLine lines
    → HasRounds so_far number lines behind
has_rounds so_far number [] behind all =
    let last = last_round so_far (rounds_from true [] (number + 1) behind) in
    record {
      rounds = last.0;
      next = number + 1;
      below = omega arith;
      split = rounds_from-empty_line true so_far number [] behind refl ∙ last.1;
      whole = last.2;
    }
has_rounds so_far number (line ∷ lines) behind all =
    one_line so_far number line lines behind all.0 (has_rounds [] (number + 1) lines behind all.1)
    (has_rounds (so_far ++ here number line ∷ []) (number + 1) lines behind all.1)
