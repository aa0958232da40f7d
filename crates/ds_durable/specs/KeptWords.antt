-- The form of the words of a run over a kept journal.
use Rattle.std.specs.Prelude.{ℕ, List, ◌∷◌, Option, Some, None, ◌&&◌, cond, bytes_eq, codes}
use Rattle.ds_words.specs.Form.{is_value}

-- `--kept` and the name of the kept file, which is a value as an option's is, and then the words of the server
abbrev pub kept_form : List (List ℕ) → Option (List ℕ × List (List ℕ))
kept_form (flag ∷ file ∷ words) = cond (bytes_eq flag (codes "--kept") && is_value file) (Some (file, words)) None
kept_form words = None
