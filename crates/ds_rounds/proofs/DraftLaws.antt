-- A draft's lines, and what ending a line makes of its rounds.
use Rattle.std.proofs.Common.{◌≡◌, ℕ, suc, ◌+◌, ◌<◌, ◌≤◌, List, [], ◌∷◌, ◌++◌, length, refl, ap, sym, ◌∙◌, arith, Bool, true, false}
use Rattle.std.proofs.Common.{length-append, ◌⊎◌, inl, inr}
use Rattle.std.specs.Prelude.{nat_le, sum_by}
use Rattle.ds_base.specs.Limits.{most_round_bytes, most_round_lines}
use Rattle.std.proofs.lemmas.Bool.{cases_lt, le-leb, lt-leb}
use Rattle.std.proofs.lemmas.List.Sums.{sum_by-cons}
use Rattle.ds_rounds.specs.Drafts.{DraftParts, EndsInput, EndsLine, IsLine, IsOpen, IsUnbroken, Leaves, number_in, so_far}
use Rattle.ds_rounds.specs.Lines.{Content, content_of, is_blank, kept_bytes, lines_in}
use Rattle.ds_rounds.specs.Rounds.{NumberedLine, is_full, numbered, round_bytes, round_of, rounds_from}
use Rattle.ds_rounds.proofs.LineLaws.{content_of-kept, lines_in-last, lines_in-nothing}

abbrev pub numbered_at : ℕ → Content → NumberedLine
numbered_at number content = record { number = number; content = content }

pub numbered-push : (n : ℕ) (lines : List Content) (line : Content) → numbered n lines ++ (record { number = n + length lines; content = line }) ∷ [] ≡ numbered n (lines ++ line ∷ [])
numbered-push n [] line = let same : n + 0 ≡ n = omega arith in ap (λ k. numbered_at k line ∷ []) same
numbered-push n (first ∷ lines) line =
    let next : n + suc (length lines) ≡ (n + 1) + length lines = omega arith in
    ap (λ k. numbered_at n first ∷ (numbered (n + 1) lines ++ numbered_at k line ∷ [])) next ∙ ap (λ ls. numbered_at n first ∷ ls) (numbered-push (n + 1) lines line)

pub length-numbered : (n : ℕ) (lines : List Content) → length (numbered n lines) ≡ length lines
length-numbered n [] = refl
length-numbered n (line ∷ lines) = ap (λ k. suc k) (length-numbered (n + 1) lines)

pub round_bytes-numbered : (n : ℕ) (lines : List Content) → round_bytes (numbered n lines) ≡ sum_by kept_bytes lines
round_bytes-numbered n [] = refl
round_bytes-numbered n (line ∷ lines) =
    sum_by-cons (λ l. kept_bytes l.content) (numbered_at n line) (numbered (n + 1) lines)
    ∙ ap (λ k. kept_bytes line + k) (round_bytes-numbered (n + 1) lines)
    ∙ sym (sum_by-cons kept_bytes line lines)

-- ---- one line more

pub rounds_from-empty_line : (ended : Bool) (lines : List NumberedLine) (number : ℕ) (line : List ℕ) (more : List (List ℕ)) → is_blank line ≡ true → rounds_from ended lines number (line ∷ more) ≡ round_of lines (rounds_from ended [] (number + 1) more)
unfolding rounds_from
rounds_from-empty_line ended lines number line more blank = rw blank refl

pub rounds_from-full : (ended : Bool) (lines longer : List NumberedLine) (number : ℕ) (line : List ℕ) (more : List (List ℕ)) → is_blank line ≡ false → longer ≡ lines ++ (record { number = number; content = content_of line }) ∷ [] → is_full longer ≡ true → rounds_from ended lines number (line ∷ more) ≡ longer ∷ rounds_from ended [] (number + 1) more
unfolding rounds_from
rounds_from-full ended lines longer number line more filled is full = rw (filled, ← is, full) refl

pub rounds_from-open : (ended : Bool) (lines longer : List NumberedLine) (number : ℕ) (line : List ℕ) (more : List (List ℕ)) → is_blank line ≡ false → longer ≡ lines ++ (record { number = number; content = content_of line }) ∷ [] → is_full longer ≡ false → rounds_from ended lines number (line ∷ more) ≡ rounds_from ended longer (number + 1) more
unfolding rounds_from
rounds_from-open ended lines longer number line more filled is open_still = rw (filled, ← is, open_still) refl

pub is_full-many : (n : ℕ) (lines : List Content) → most_round_lines ≤ length lines → is_full (numbered n lines) ≡ true
is_full-many n lines many = rw (length-numbered n lines, le-leb most_round_lines (length lines) many) refl

pub is_full-much : (n : ℕ) (lines : List Content) → length lines < most_round_lines → is_full (numbered n lines) ≡ nat_le most_round_bytes (sum_by kept_bytes lines)
is_full-much n lines few =
    rw (length-numbered n lines, lt-leb most_round_lines (length lines) few, round_bytes-numbered n lines) refl

-- ---- what ending a line makes of a draft

-- the line that was read is the next one
pub record IsAdded (old new : DraftParts) : Type 0 where
  pub first : new.first ≡ old.first
  pub lines : new.lines ≡ old.lines ++ content_of old.kept ∷ []
  pub kept : new.kept ≡ []
  pub blank : new.blank ≡ true

-- the line that was read is none
pub record IsDropped (old new : DraftParts) : Type 0 where
  pub lines : new.lines ≡ old.lines
  pub kept : new.kept ≡ []
  pub blank : new.blank ≡ true

pub Leaves-added : (old new : DraftParts) → IsOpen old → IsAdded old new → (ended : Bool) → ended ≡ is_full (so_far new) → Leaves ended old new
Leaves-added old new room added true is =
    let more : length new.lines ≡ length old.lines + 1 = ap length added.lines ∙ length-append old.lines (content_of old.kept ∷ []) in (
      record { some = omega (arith, more); within = omega (arith, more, room); between = added.kept },
      omega (arith, more, added.first),
      omega (arith, added.first),
    )
Leaves-added old new room added false is =
    let more : length new.lines ≡ length old.lines + 1 = ap length added.lines ∙ length-append old.lines (content_of old.kept ∷ []) in
    (few (cases_lt (length new.lines) most_round_lines), omega (arith, more, added.first), omega (arith, added.first)) where
      few : (length new.lines < most_round_lines) ⊎ (most_round_lines ≤ length new.lines) → length new.lines < most_round_lines
      few (inl less) = less
      few (inr many) = let never : false ≡ true = is ∙ is_full-many new.first new.lines many in absurd (cc)

IsLine-nothing : (draft : DraftParts) → draft.kept ≡ [] → draft.blank ≡ true → IsLine draft []
IsLine-nothing draft kept blank = record { unbroken = tt; kept = kept; blank = blank }

-- the added line among the others
so_far-added : (old new : DraftParts) (line : List ℕ) → IsLine old line → IsAdded old new → so_far new ≡ so_far old ++ numbered_at (number_in old) (content_of line) ∷ []
so_far-added old new line is_line added =
    ap (λ n. numbered n new.lines) added.first
    ∙ ap (numbered old.first) added.lines
    ∙ ap (λ kept. numbered old.first (old.lines ++ content_of kept ∷ [])) is_line.kept
    ∙ ap (λ content. numbered old.first (old.lines ++ content ∷ [])) (content_of-kept line)
    ∙ sym (numbered-push old.first old.lines (content_of line))

pub EndsLine-added : (old new : DraftParts) (line : List ℕ) → IsLine old line → old.blank ≡ false → IsAdded old new → (ended : Bool) → ended ≡ is_full (so_far new) → EndsLine ended old new line
EndsLine-added old new line is_line filled added true is =
    λ ended lines. rounds_from-full ended (so_far old) (so_far new) (number_in old) line lines (sym is_line.blank ∙ filled) (so_far-added old new line is_line added) (sym is)
EndsLine-added old new line is_line filled added false is = (
  IsLine-nothing new added.kept added.blank,
  λ ended lines. rounds_from-open ended (so_far old) (so_far new) (number_in old) line lines (sym is_line.blank ∙ filled) (so_far-added old new line is_line added) (sym is),
)

pub round_of-some : (n : ℕ) (lines : List Content) (rounds : List (List NumberedLine)) → 0 < length lines → round_of (numbered n lines) rounds ≡ numbered n lines ∷ rounds
round_of-some n [] rounds some = absurd (omega arith)
round_of-some n (line ∷ lines) rounds some = refl

-- an empty line in front of a round
pub EndsLine-skipped : (old new : DraftParts) (line : List ℕ) → IsLine old line → old.blank ≡ true → old.lines ≡ [] → new.lines ≡ [] → new.kept ≡ [] → new.blank ≡ true → EndsLine false old new line
EndsLine-skipped old new line is_line blank none still kept fresh = (
  IsLine-nothing new kept fresh,
  λ ended lines.
      rounds_from-empty_line ended (so_far old) (number_in old) line lines (sym is_line.blank ∙ blank)
      ∙ ap (λ ls. round_of (numbered old.first ls) (rounds_from ended [] (number_in old + 1) lines)) none
      ∙ ap (λ ls. rounds_from ended (numbered new.first ls) (number_in old + 1) lines) (sym still),
)

-- an empty line behind a round
pub EndsLine-ended : (old new : DraftParts) (line : List ℕ) → IsLine old line → old.blank ≡ true → 0 < length old.lines → new.first ≡ old.first → new.lines ≡ old.lines → EndsLine true old new line
EndsLine-ended old new line is_line blank some first same =
    λ ended lines.
    rounds_from-empty_line ended (so_far old) (number_in old) line lines (sym is_line.blank ∙ blank)
    ∙ round_of-some old.first old.lines (rounds_from ended [] (number_in old + 1) lines) some
    ∙ ap (λ n. numbered n old.lines ∷ rounds_from ended [] (number_in old + 1) lines) (sym first)
    ∙ ap (λ ls. numbered new.first ls ∷ rounds_from ended [] (number_in old + 1) lines) (sym same)

-- ---- the end of the input

rounds_from-end : (lines : List NumberedLine) (number : ℕ) → rounds_from true lines number [] ≡ round_of lines []
unfolding rounds_from
rounds_from-end lines number = refl

pub EndsInput-dropped : (old new : DraftParts) (line : List ℕ) → IsLine old line → old.blank ≡ true → new.first ≡ old.first → new.lines ≡ old.lines → EndsInput old new line
EndsInput-dropped old new line is_line blank first same = by line is_line.unbroken (sym is_line.blank ∙ blank) ∙ ap (λ n. round_of (numbered n old.lines) []) (sym first) ∙ ap (λ ls. round_of (numbered new.first ls) []) (sym same) where
  by : (line : List ℕ) → IsUnbroken line → is_blank line ≡ true → rounds_from true (so_far old) (number_in old) (lines_in true line) ≡ round_of (so_far old) []
  by [] unbroken is = ap (rounds_from true (so_far old) (number_in old)) (lines_in-nothing true) ∙ rounds_from-end (so_far old) (number_in old)
  by (b ∷ line) unbroken is =
      ap (rounds_from true (so_far old) (number_in old)) (lines_in-last b line unbroken)
      ∙ rounds_from-empty_line true (so_far old) (number_in old) (b ∷ line) [] is
      ∙ ap (round_of (so_far old)) (rounds_from-end [] (number_in old + 1))

pub EndsInput-added : (old new : DraftParts) (line : List ℕ) → IsLine old line → old.blank ≡ false → IsAdded old new → EndsInput old new line
EndsInput-added old new line is_line filled added = by line is_line.unbroken (sym is_line.blank ∙ filled) (so_far-added old new line is_line added) where
  some : 0 < length new.lines
  some = omega (arith, ap length added.lines ∙ length-append old.lines (content_of old.kept ∷ []))

  by_size : (line : List ℕ) (full : Bool) → is_blank line ≡ false → so_far new ≡ so_far old ++ numbered_at (number_in old) (content_of line) ∷ [] → is_full (so_far new) ≡ full → rounds_from true (so_far old) (number_in old) (line ∷ []) ≡ round_of (so_far new) []
  by_size line true is longer full =
      rounds_from-full true (so_far old) (so_far new) (number_in old) line [] is longer full ∙ ap (λ rs. so_far new ∷ rs) (rounds_from-end [] (number_in old + 1)) ∙ sym (round_of-some new.first new.lines [] some)
  by_size line false is longer open_still =
      rounds_from-open true (so_far old) (so_far new) (number_in old) line [] is longer open_still ∙ rounds_from-end (so_far new) (number_in old + 1)

  by : (line : List ℕ) → IsUnbroken line → is_blank line ≡ false → so_far new ≡ so_far old ++ numbered_at (number_in old) (content_of line) ∷ [] → rounds_from true (so_far old) (number_in old) (lines_in true line) ≡ round_of (so_far new) []
  by [] unbroken is longer = absurd (cc)
  by (b ∷ line) unbroken is longer =
      ap (rounds_from true (so_far old) (number_in old)) (lines_in-last b line unbroken) ∙ by_size (b ∷ line) (is_full (so_far new)) is longer refl

pub nothing : (lines : List Content) → length lines ≡ 0 → lines ≡ []
nothing [] none = refl
nothing (line ∷ lines) none = absurd (omega arith)
