-- Bytes that are moved into a draft.
use Rattle.std.proofs.Common.{◌≡◌, ℕ, ◌+◌, ◌-◌, ◌<◌, ◌≤◌, List, [], ◌∷◌, ◌++◌, length, take, drop, refl, ap, sym, ◌∙◌, arith, Bool, true}
use Rattle.std.proofs.Common.{false, append_assoc, append-nil, subst, ◌⊎◌, inl, inr, Some}
use Rattle.std.specs.Prelude.{◌&&◌, ◌==◌, position}
use Rattle.std.proofs.Math.Seq.{take-append-add}
use Rattle.std.proofs.lemmas.Bool.{cases_lt}
use Rattle.std.proofs.lemmas.List.{length-take-le, take-append-le, take_all}
use Rattle.std.proofs.lemmas.List.Folds.{list_all-append}
use Rattle.ds_base.specs.Limits.{most_line_bytes}
use Rattle.ds_rounds.specs.Drafts.{DraftParts, EndsLine, IsFirst, IsLine, IsUnbroken, Leaves, Stands, number_in, so_far}
use Rattle.ds_rounds.specs.Lines.{is_blank, is_blank_byte, lines_in}
use Rattle.ds_rounds.specs.Rounds.{NumberedLine, numbered, rounds_from, rounds_in}
use Rattle.ds_rounds.proofs.LineLaws.{IsBroken, IsUnbroken-append, lines_in-newline, position-newline}

-- bytes without a newline were put to the line that is being read
pub record IsExtended (old new : DraftParts) (piece : List ℕ) : Type 0 where
  pub first : new.first ≡ old.first
  pub lines : new.lines ≡ old.lines
  pub kept : new.kept ≡ old.kept ++ take (most_line_bytes + 1 - length old.kept) piece
  pub blank : new.blank ≡ (old.blank && is_blank piece)

kept_more : (most : ℕ) (line piece : List ℕ) → take most line ++ take (most - length (take most line)) piece ≡ take most (line ++ piece)
kept_more most line piece = by (cases_lt (length line) most) where
  by : (length line < most) ⊎ (most ≤ length line) → take most line ++ take (most - length (take most line)) piece ≡ take most (line ++ piece)
  by (inl short) =
      let whole : take most line ≡ line = take_all most line (omega arith) in
      let parts : length line + (most - length line) ≡ most = omega arith in
      ap (λ l. l ++ take (most - length l) piece) whole ∙ sym (take-append-add line piece (most - length line)) ∙ ap (λ k. take k (line ++ piece)) parts
  by (inr long) =
      let none : most - length (take most line) ≡ 0 = omega (arith, length-take-le most line long) in
      ap (λ k. take most line ++ take k piece) none ∙ append-nil (take most line) ∙ sym (take-append-le most line piece long)

blank_more : (line piece : List ℕ) → (is_blank line && is_blank piece) ≡ is_blank (line ++ piece)
blank_more line piece = sym (list_all-append is_blank_byte line piece)

pub IsLine-extended : (old new : DraftParts) (line piece : List ℕ) → IsLine old line → IsUnbroken piece → IsExtended old new piece → IsLine new (line ++ piece)
IsLine-extended old new line piece is_line unbroken extended = record {
  unbroken = IsUnbroken-append line piece is_line.unbroken unbroken;
  kept = extended.kept ∙ ap (λ k. k ++ take (most_line_bytes + 1 - length k) piece) is_line.kept ∙ kept_more (most_line_bytes + 1) line piece;
  blank = extended.blank ∙ ap (λ b. b && is_blank piece) is_line.blank ∙ blank_more line piece;
}

-- the rounds of a draft whose line has ended in front of these bytes
pub record Broke (rounds : Bool → List ℕ → List (List NumberedLine)) (draft : DraftParts) (bytes : List ℕ) : Type 0 where
  pub line : List ℕ
  pub is_line : IsLine draft line
  pub rounds_are : (ended : Bool) (more : List ℕ) → rounds ended more ≡ rounds_from ended (so_far draft) (number_in draft) (line ∷ lines_in ended (bytes ++ more))

pub so_far_same : (old new : DraftParts) → new.first ≡ old.first → new.lines ≡ old.lines → so_far old ≡ so_far new
so_far_same old new first lines = ap (λ n. numbered n old.lines) (sym first) ∙ ap (numbered new.first) (sym lines)

pub number_same : (old new : DraftParts) → new.first ≡ old.first → new.lines ≡ old.lines → number_in old ≡ number_in new
number_same old new first lines = ap (λ n. n + length old.lines) (sym first) ∙ ap (λ ls. new.first + length ls) (sym lines)

pub line_broken : (rounds : Bool → List ℕ → List (List NumberedLine)) (old new : DraftParts) (number : ℕ) (bytes : List ℕ) (at : ℕ) → Stands rounds old number bytes → IsBroken bytes at → IsExtended old new (take at bytes) → Broke rounds new (drop (at + 1) bytes)
line_broken rounds old new number bytes at stands broken extended = record {
  line = stands.line ++ take at bytes;
  is_line = IsLine-extended old new stands.line (take at bytes) stands.is_line broken.front extended;
  rounds_are = λ ended more.
      stands.rounds_are ended more
      ∙ ap (λ bs. rounds_from ended (so_far old) number (lines_in ended bs)) (apart more)
      ∙ ap (λ ls. rounds_from ended (so_far old) number ls) (lines_in-newline ended (stands.line ++ take at bytes) (drop (at + 1) bytes ++ more) (IsUnbroken-append stands.line (take at bytes) stands.is_line.unbroken broken.front))
      ∙ ap (λ lines. rounds_from ended lines number (here ended more)) (so_far_same old new extended.first extended.lines)
      ∙ ap (λ n. rounds_from ended (so_far new) n (here ended more)) (stands.counted ∙ number_same old new extended.first extended.lines);
} where
  here : Bool → List ℕ → List (List ℕ)
  here ended more = (stands.line ++ take at bytes) ∷ lines_in ended (drop (at + 1) bytes ++ more)

  apart : (more : List ℕ) → stands.line ++ (bytes ++ more) ≡ (stands.line ++ take at bytes) ++ 10 ∷ (drop (at + 1) bytes ++ more)
  apart more =
      ap (λ bs. stands.line ++ (bs ++ more)) broken.whole
      ∙ ap (λ bs. stands.line ++ bs) (append_assoc (take at bytes) (10 ∷ drop (at + 1) bytes) more)
      ∙ sym (append_assoc stands.line (take at bytes) (10 ∷ (drop (at + 1) bytes ++ more)))

-- the same, as the code finds the newline
pub broke_at : (rounds : Bool → List ℕ → List (List NumberedLine)) (old new : DraftParts) (number : ℕ) (bytes front rest : List ℕ) (at : ℕ) → Stands rounds old number bytes → position (λ b. b == 10) bytes ≡ Some at → front ≡ take at bytes → IsExtended old new front → rest ≡ drop (at + 1) bytes → Broke rounds new rest
broke_at rounds old new number bytes front rest at stands found front_is extended rest_is =
    subst (λ bs. Broke rounds new bs) (sym rest_is) (line_broken rounds old new number bytes at stands (position-newline bytes at found) (subst (λ bs. IsExtended old new bs) front_is extended))

in_bytes : (ended : Bool) (number : ℕ) (bytes : List ℕ) → rounds_from ended [] number (lines_in ended bytes) ≡ rounds_in ended number bytes
unfolding rounds_in
in_bytes ended number bytes = refl

pub first_round : (rounds : Bool → List ℕ → List (List NumberedLine)) (old new : DraftParts) (number : ℕ) (bytes : List ℕ) → Broke rounds old bytes → number ≡ number_in old → ((line : List ℕ) → IsLine old line → EndsLine true old new line) → IsFirst rounds new (number + 1) bytes
first_round rounds old new number bytes broke counted ends = λ ended more.
    broke.rounds_are ended more
    ∙ ends broke.line broke.is_line ended (lines_in ended (bytes ++ more))
    ∙ ap (λ n. so_far new ∷ rounds_from ended [] (n + 1) (lines_in ended (bytes ++ more))) (sym counted)
    ∙ ap (λ rs. so_far new ∷ rs) (in_bytes ended (number + 1) (bytes ++ more))

pub next_line : (rounds : Bool → List ℕ → List (List NumberedLine)) (old new : DraftParts) (number : ℕ) (bytes : List ℕ) → Broke rounds old bytes → number ≡ number_in old → Leaves false old new → ((line : List ℕ) → IsLine old line → EndsLine false old new line) → Stands rounds new (number + 1) bytes
next_line rounds old new number bytes broke counted leaves ends = record {
  line = [];
  is_line = (ends broke.line broke.is_line).0;
  counted = omega (arith, counted, leaves.1);
  rounds_are = λ ended more.
      broke.rounds_are ended more
      ∙ (ends broke.line broke.is_line).1 ended (lines_in ended (bytes ++ more))
      ∙ ap (λ n. rounds_from ended (so_far new) (n + 1) (lines_in ended (bytes ++ more))) (sym counted);
}

pub bytes_over : (rounds : Bool → List ℕ → List (List NumberedLine)) (old new : DraftParts) (number : ℕ) (bytes : List ℕ) → Stands rounds old number bytes → IsUnbroken bytes → IsExtended old new bytes → Stands rounds new number []
bytes_over rounds old new number bytes stands unbroken extended = record {
  line = stands.line ++ bytes;
  is_line = IsLine-extended old new stands.line bytes stands.is_line unbroken extended;
  counted = stands.counted ∙ number_same old new extended.first extended.lines;
  rounds_are = λ ended more.
      stands.rounds_are ended more
      ∙ ap (λ bs. rounds_from ended (so_far old) number (lines_in ended bs)) (sym (append_assoc stands.line bytes more))
      ∙ ap (λ lines. rounds_from ended lines number (lines_in ended ((stands.line ++ bytes) ++ more))) (so_far_same old new extended.first extended.lines);
}

-- what ending a line says, at the answer that it gave
pub at_answer : (answer ended : Bool) (old new : DraftParts) → answer ≡ ended → ((line : List ℕ) → IsLine old line → EndsLine answer old new line) → (line : List ℕ) → IsLine old line → EndsLine ended old new line
at_answer answer ended old new is ends = subst (λ b. (line : List ℕ) → IsLine old line → EndsLine b old new line) is ends
