-- What is read from a line's tokens: a part of the JSON value that they are, by the definitions of json and serde_json.
use Rattle.std.specs.Prelude.{◌≡◌, ℕ, ◌<◌, ◌≤◌, List, ◌∷◌, Option, Some, None, option_map, Result, Ok, length}
use Rattle.json.specs.Token.{Token}
use Rattle.json.specs.Json as json
use Rattle.json.specs.Json.{value, items, members}
use Rattle.serde_json.specs.Data.{Data, null, boolean, number, string, Items, Members}
use Rattle.serde_json.specs.Read.{number_of, of_json, of_items, of_members}
use Rattle.ds_json_reading.specs.declared.refusal.Refusal.{Refusal}
use Rattle.ds_json_values.specs.Outcomes.{Gives}

-- the value of one token, where it opens and closes nothing
abbrev pub data_of : Token → Option Data
data_of (Token.string s) = Some (string s)
data_of (Token.number s) = option_map number (number_of s)
data_of (Token.boolean b) = Some (boolean b)
data_of Token.null = Some null
data_of _ = None

-- the tokens begin with one of this value, and these are behind it
abbrev pub BeginsWith : List Token → Data → List Token → Type 0
BeginsWith old d left = (t : Token) × (old ≡ t ∷ left) × (data_of t ≡ Some d)

-- the tokens begin with a value that nests no deeper than `depth` and that the form reads as this, and these are behind it
abbrev pub IsRead : {A : Type 0} → ℕ → (Data → Result A Refusal) → List Token → A → List Token → Type 0
IsRead depth form old x left =
    (d : Data) × Gives of_json (value depth old) (Some d) left × (form d ≡ Ok x) × (length left < length old)

-- in an array that has begun, these items come up to its end, and these tokens are behind it
abbrev pub AreItems : ℕ → List Token → Items → List Token → Type 0
AreItems depth old ds left = (most : ℕ) → length old ≤ most → Gives of_items (items (value depth) most old) (Some ds) left

-- the members that come behind others
abbrev pub behind : Members → json.Members → Option Members
behind before ms = of_members ms before

-- in an object that has begun, and of which some members were read, these are its members at its end, and these tokens are behind it
abbrev pub AreMembers : ℕ → Members → List Token → Members → List Token → Type 0
AreMembers depth before old ms left =
    (most : ℕ) → length old ≤ most → Gives (behind before) (members (value depth) most old) (Some ms) left
