-- Reading a file line by line comes to what the definition gives of the whole.
use Rattle.std.proofs.Common.{◌≡◌, ◌<◌, ◌+◌, ℕ, suc, List, [], ◌∷◌, length, refl, sym, ap, subst, ◌∙◌, arith, Ok, Err, Result}
use Rattle.ds_indexdef.specs.Refusals.{GivesUnlessNoMemory}
use Rattle.ds_indexdef.specs.Forms.{form_of}
use Rattle.ds_indexdef.specs.Lines.{lines_of}
use Rattle.ds_indexdef.specs.Reading.{Reading, Line, numbered, numbered_before, and_then, read_from, read_line}
use Rattle.ds_indexdef.specs.declared.IndexDef.{IndexDef}
use Rattle.ds_indexdef.specs.declared.form.Form.{Form}
use Rattle.ds_indexdef.specs.declared.form.Form.TheVariants.{Blank, Indexes, Kind, Ancestor, Properties, Name, Direction, Wrong}
use Rattle.ds_indexdef.specs.declared.refused.YamlRefused.{YamlRefused}
use Rattle.ds_indexdef.specs.declared.refused.YamlRefused.TheVariants as refused

-- what is given by the lines of a text from line n on, behind what was read
abbrev pub left : List ℕ → Reading → ℕ → Result (List IndexDef) ℕ
left rest r n = read_from (numbered n (lines_of rest)) r (length (lines_of rest) + n)

-- an empty line counts for the numbers alone, another is a step
one_line : (form : Form) (n : ℕ) (more : List Line) (r : Reading) (after : ℕ)
    → read_from (numbered_before n form more) r after ≡ and_then (read_line r n form) (λ next. read_from more next after)
one_line Blank n more r after = refl
one_line form n more r after = refl

pub left-line : (rest line more : List ℕ) (form : Form) (r : Reading) (n : ℕ) → lines_of rest ≡ line ∷ lines_of more → form ≡ form_of line
    → left rest r n ≡ and_then (read_line r n form) (λ next. left more next (n + 1))
left-line rest line more form r n lines is =
    let after : length (line ∷ lines_of more) + n ≡ length (lines_of more) + (n + 1) = omega arith in
    let number : suc n ≡ n + 1 = omega arith in
    ap (λ ls. read_from (numbered n ls) r (length ls + n)) lines
    ∙ one_line (form_of line) n (numbered (suc n) (lines_of more)) r (length (line ∷ lines_of more) + n)
    ∙ ap (λ f. and_then (read_line r n f) (λ next. read_from (numbered (suc n) (lines_of more)) next (length (line ∷ lines_of more) + n))) (sym is)
    ∙ ap (λ k. and_then (read_line r n form) (λ next. read_from (numbered (suc n) (lines_of more)) next k)) after
    ∙ ap (λ k. and_then (read_line r n form) (λ next. read_from (numbered k (lines_of more)) next (length (lines_of more) + (n + 1)))) number

pub left-on : (rest line more : List ℕ) (form : Form) (r next : Reading) (n : ℕ) → lines_of rest ≡ line ∷ lines_of more → form ≡ form_of line
    → read_line r n form ≡ Ok next → left rest r n ≡ left more next (n + 1)
left-on rest line more form r next n lines is stepped = left-line rest line more form r n lines is ∙ ap (λ s. and_then s (λ next. left more next (n + 1))) stepped

pub left-refused : (rest line more : List ℕ) (form : Form) (r : Reading) (n : ℕ) (e : YamlRefused) → lines_of rest ≡ line ∷ lines_of more → form ≡ form_of line
    → GivesUnlessNoMemory (Err e) (read_line r n form) → GivesUnlessNoMemory (Err e) (left rest r n)
left-refused rest line more form r n (refused.Line m) lines is stepped = left-line rest line more form r n lines is ∙ ap (λ s. and_then s (λ next. left more next (n + 1))) stepped
left-refused rest line more form r n refused.NoMemory lines is stepped = tt
