-- A text and its lines.
use Rattle.std.proofs.Common.{◌≡◌, ℕ, ◌==◌, Bool, true, false, cond, List, [], ◌∷◌, ◌++◌, refl, ap, sym, ◌∙◌, Option, Some, None}
use Rattle.std.proofs.Common.{append_assoc, subst}
use Rattle.std.specs.Prelude.{option_map, option_and_then, All}
use Rattle.std.proofs.lemmas.Bool.{eqb-true}
use Rattle.std.proofs.lemmas.List.Elements.{All-cons, All-head, All-nil, All-tail}
use Rattle.ds_rounds.specs.Drafts.{IsUnbroken}
use Rattle.ds_reply_lines.specs.ReplyLines.{IsWhole, ended_lines, in_front, whole_lines}

front_of : (b : ℕ) (line : List ℕ) (o : Option (List (List ℕ)))
    → option_and_then (in_front b) (option_map (λ lines. line ∷ lines) o) ≡ option_map (λ lines. (b ∷ line) ∷ lines) o
front_of b line None = refl
front_of b line (Some lines) = refl

-- a line with its newline, and what stands behind it
pub whole-newline : (line behind : List ℕ) → IsUnbroken line → whole_lines (line ++ 10 ∷ behind) ≡ option_map (λ lines. line ∷ lines) (whole_lines behind)
whole-newline [] behind unbroken = refl
whole-newline (b ∷ line) behind unbroken =
    ap (λ t. cond t (option_map (λ lines. [] ∷ lines) (whole_lines (line ++ 10 ∷ behind))) (option_and_then (in_front b) (whole_lines (line ++ 10 ∷ behind))))
    unbroken.0
    ∙ ap (option_and_then (in_front b)) (whole-newline line behind unbroken.1)
    ∙ front_of b line (whole_lines behind)

-- a line without one
pub whole-last : (b : ℕ) (line : List ℕ) → IsUnbroken (b ∷ line) → whole_lines (b ∷ line) ≡ None
whole-last b [] unbroken = ap (λ t. cond t (Some ([] ∷ [])) None) unbroken.0
whole-last b (c ∷ line) unbroken =
    ap (λ t. cond t (option_map (λ lines. [] ∷ lines) (whole_lines (c ∷ line))) (option_and_then (in_front b) (whole_lines (c ∷ line)))) unbroken.0
    ∙ ap (option_and_then (in_front b)) (whole-last c line unbroken.1)

further : (done : List (List ℕ)) (line : List ℕ) (o : Option (List (List ℕ)))
    → option_map (λ lines. done ++ lines) (option_map (λ lines. line ∷ lines) o) ≡ option_map (λ lines. (done ++ line ∷ []) ++ lines) o
further done line None = refl
further done line (Some lines) = ap Some (sym (append_assoc done (line ∷ []) lines))

pub line_more : (text rest line behind : List ℕ) (done : List (List ℕ)) → IsUnbroken line → rest ≡ line ++ 10 ∷ behind
    → whole_lines text ≡ option_map (λ lines. done ++ lines) (whole_lines rest)
    → whole_lines text ≡ option_map (λ lines. (done ++ line ∷ []) ++ lines) (whole_lines behind)
line_more text rest line behind done unbroken is so_far =
    so_far
    ∙ ap (option_map (λ lines. done ++ lines)) (ap whole_lines is ∙ whole-newline line behind unbroken)
    ∙ further done line (whole_lines behind)

-- nothing is left, or a line without its newline
pub no_more : (rest : List ℕ) → IsUnbroken rest → (rest ≡ [] → ⊥) → whole_lines rest ≡ None
no_more [] unbroken some = absurd (some refl)
no_more (b ∷ rest) unbroken some = whole-last b rest unbroken

-- ---- a text of whole lines

pub ended_behind : (line : List ℕ) (lines : List (List ℕ)) → ended_lines (line ∷ lines) ≡ line ++ 10 ∷ ended_lines lines
ended_behind line lines = append_assoc line (10 ∷ []) (ended_lines lines)

-- whole lines are found again
pub whole-ended : (lines : List (List ℕ)) → All IsUnbroken lines → whole_lines (ended_lines lines) ≡ Some lines
whole-ended [] all = refl
whole-ended (line ∷ lines) all =
    ap whole_lines (ended_behind line lines)
    ∙ whole-newline line (ended_lines lines) (All-head IsUnbroken line lines all)
    ∙ ap (option_map (λ ls. line ∷ ls)) (whole-ended lines (All-tail IsUnbroken line lines all))

longer : (b : ℕ) (bytes line : List ℕ) (lines : List (List ℕ)) → (b == 10) ≡ false → IsWhole bytes (line ∷ lines) → IsWhole (b ∷ bytes) ((b ∷ line) ∷ lines)
longer b bytes line lines other is = record {
  unbroken = All-cons IsUnbroken (b ∷ line) lines (other, All-head IsUnbroken line lines is.unbroken) (All-tail IsUnbroken line lines is.unbroken);
  text_is = ap (λ bs. b ∷ bs) is.text_is;
}

empty_line : (b : ℕ) (bytes : List ℕ) (lines : List (List ℕ)) → b ≡ 10 → IsWhole bytes lines → IsWhole (b ∷ bytes) ([] ∷ lines)
empty_line b bytes lines newline is = record {
  unbroken = All-cons IsUnbroken [] lines tt is.unbroken;
  text_is = ap (λ c. c ∷ bytes) newline ∙ ap (λ bs. 10 ∷ bs) is.text_is;
}

same_lines : (found lines : List (List ℕ)) → Some found ≡ Some lines → found ≡ lines
same_lines found lines same = cc

-- and the lines that are found are those of the text
pub ended-whole : (text : List ℕ) (lines : List (List ℕ)) → whole_lines text ≡ Some lines → IsWhole text lines
ended-whole [] lines is = subst (IsWhole []) (same_lines [] lines is) (record { unbroken = All-nil IsUnbroken; text_is = refl })
ended-whole (b ∷ bytes) lines is = by (b == 10) refl (whole_lines bytes) (ended-whole bytes) is where
  by : (newline : Bool) → (b == 10) ≡ newline → (o : Option (List (List ℕ))) → ((ls : List (List ℕ)) → o ≡ Some ls → IsWhole bytes ls)
      → cond newline (option_map (λ ls. [] ∷ ls) o) (option_and_then (in_front b) o) ≡ Some lines → IsWhole (b ∷ bytes) lines
  by true here (Some ls) rest same =
      subst (IsWhole (b ∷ bytes)) (same_lines ([] ∷ ls) lines same) (empty_line b bytes ls (eqb-true b 10 here) (rest ls refl))
  by true here None rest same = cc
  by false here (Some []) rest same = cc
  by false here (Some (line ∷ ls)) rest same =
      subst (IsWhole (b ∷ bytes)) (same_lines ((b ∷ line) ∷ ls) lines same) (longer b bytes line ls here (rest (line ∷ ls) refl))
  by false here None rest same = cc
