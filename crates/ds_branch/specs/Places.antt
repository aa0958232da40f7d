-- Places as bytes, and how many results are wanted.
use Rattle.std.specs.Prelude.{ℕ, Bool, true, false, nat_lt, List, Option, Some, None, option_map}
use Rattle.ds_query.specs.declared.row.Place.{Place}
use Rattle.ds_zigzag.specs.Walks.{steps_to_end, steps_up_to}

abbrev pub bytes_of : Option Place → Option (List ℕ)
bytes_of = option_map (λ (p : Place). p.bytes)

-- more are wanted than were found
abbrev pub is_wanted : Option ℕ → ℕ → Bool
is_wanted None found = true
is_wanted (Some most) found = nat_lt found most

-- what a walk over n scans may take from the start: to its end where more are wanted, else to the last string that it gave
abbrev pub walk_steps : Bool → ℕ → Option (List ℕ) → Option (List ℕ) → List (List (List ℕ)) → List (List (List ℕ)) → ℕ
walk_steps true n start last strings passed = steps_to_end n start strings passed
walk_steps false n start last strings passed = steps_up_to n start last strings passed
