-- What a pass over an object's members has found at a name.
use Rattle.std.proofs.Common.{◌≡◌, ℕ, List, ◌∷◌, Option, Some, None, option_map, Global, String, string_bytes, refl, sym, ap, ◌∙◌}
use Rattle.std.specs.Option.{option_or}
use Rattle.serde_json.specs.Data.{Data}
use Rattle.serde_json.specs.Find.{get_member}
use Rattle.serde_json.specs.View.{view, members_view}
use Rattle.serde_json.specs.declared.value.Value.{Value}
use Rattle.serde_json.proofs.Views.{Entry, member_here, member_later}

-- what the members before `es` had of this name, or else what these have
abbrev pub found_or_later : List ℕ → Option Value → List Entry → Option Data
found_or_later name found es = option_or (option_map view found) (get_member name (members_view es))

here : (name : List ℕ) (found : Option Value) (e : Entry) (es : List Entry) → name ≡ string_bytes e.0
    → found_or_later name found (e ∷ es) ≡ found_or_later name (option_or found (Some e.1)) es
here name None e es named = member_here name e es named
here name (Some v) e es named = refl

later : (name : List ℕ) (found : Option Value) (e : Entry) (es : List Entry) → (name ≡ string_bytes e.0 → ⊥)
    → found_or_later name found (e ∷ es) ≡ found_or_later name found es
later name found e es other = ap (option_or (option_map view found)) (member_later name e es other)

-- a member of the name is kept where none was found
pub found_here : (all : Option Data) (name : List ℕ) (found next : Option Value) (es : List Entry) (key : String Global) (value : Value) (rest : List Entry)
    → all ≡ found_or_later name found es → es ≡ (key, value) ∷ rest → name ≡ string_bytes key → next ≡ option_or found (Some value) → all ≡ found_or_later name next rest
found_here all name found next es key value rest before step named kept =
    before ∙ ap (found_or_later name found) step ∙ here name found (key, value) rest named ∙ ap (λ f. found_or_later name f rest) (sym kept)

-- a member of another name is passed
pub found_later : (all : Option Data) (name : List ℕ) (found next : Option Value) (es : List Entry) (key : String Global) (value : Value) (rest : List Entry)
    → all ≡ found_or_later name found es → es ≡ (key, value) ∷ rest → (name ≡ string_bytes key → ⊥) → next ≡ found → all ≡ found_or_later name next rest
found_later all name found next es key value rest before step other kept =
    before ∙ ap (found_or_later name found) step ∙ later name found (key, value) rest other ∙ ap (λ f. found_or_later name f rest) (sym kept)
