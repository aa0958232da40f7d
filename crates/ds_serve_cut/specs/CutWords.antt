-- The form of the words of a run whose index definitions change.
use Rattle.std.specs.Prelude.{ℕ, List, ◌∷◌, Option, None, ◌&&◌, cond, bytes_eq, codes}
use Rattle.std.specs.Option.{option_map}
use Rattle.ds_words.specs.Form.{is_value, number_of}

-- the name of the second index file, behind how many rounds it takes the place of the first, and the words of the server
pub record CutWordsParts : Type 0 where
  pub file : List ℕ
  pub after : ℕ
  pub words : List (List ℕ)

-- `--next`, the name of a file, which is a value as an option's is, `--after` and a number of one to four digits, 1 to 9,999; and then
-- the words of the server
abbrev pub cut_form : List (List ℕ) → Option CutWordsParts
cut_form (next ∷ file ∷ after ∷ number ∷ words) =
    cond (bytes_eq next (codes "--next") && is_value file && bytes_eq after (codes "--after"))
    (option_map (λ n. record { file = file; after = n; words = words }) (number_of 4 1 9999 number)) None
cut_form words = None
