-- Tables of members, which are filled in whatever order the members stand.
use Rattle.std.specs.Prelude.{◌≡◌, ℕ, ◌<◌, List, [], ◌∷◌, Bool, true, not, ◌&&◌, bytes_eq, Some, length}
use Rattle.std.specs.List.{list_any}
use Rattle.json.specs.Token.{Token}
use Rattle.json.specs.Json.{value}
use Rattle.serde_json.specs.Data.{Data, Members, put}
use Rattle.serde_json.specs.Read.{of_json}
use Rattle.ds_json_values.specs.Outcomes.{Gives}

-- is it one of these names?
abbrev pub is_among : List (List ℕ) → List ℕ → Bool
is_among names name = list_any (λ other. bytes_eq name other) names

-- no name comes twice
abbrev pub are_apart : List (List ℕ) → Bool
are_apart [] = true
are_apart (name ∷ names) = not (is_among names name) && are_apart names

-- the tokens begin with the value of a member of this name, which is put among those before; so much holds then
abbrev pub Fills : ℕ → List Token → List ℕ → Members → (Members → Type 0) → List Token → Type 0
Fills depth old name before Holds left =
    (d : Data) × Gives of_json (value depth old) (Some d) left × (length left < length old) × Holds (put name d before)
