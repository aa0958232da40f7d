-- What reading gives. The trees are those of json's grammar, and `means` says what data a tree is, as serde_json defines it.
use Rattle.std.specs.Prelude.{◌≡◌, List, Option, Some, None, ⊤}
use Rattle.json.specs.Token.{Token}

-- no tree was found, or one that is no data, as where a number is too large
abbrev pub Refuses : {T D : Type 0} → (T → Option D) → Option (T × List Token) → Type 0
Refuses means None = ⊤
Refuses means (Some found) = means found.0 ≡ None

-- a tree was found that is this data, and these tokens are left; none exactly where it is refused
abbrev pub Gives : {T D : Type 0} → (T → Option D) → Option (T × List Token) → Option D → List Token → Type 0
Gives {T = T} means found (Some d) left = (t : T) × (found ≡ Some (t, left)) × (means t ≡ Some d)
Gives means found None left = Refuses means found
