-- What an index of named arguments holds.
use Rattle.std.specs.Prelude.{◌≡◌, ℕ, List, option_map}
use denote.Bor.{Bor}
use Rattle.std.specs.BTreeMap.{BTreeMap, get_by}
use Rattle.std.specs.Cmp.Lexicographic.{slice_cmp}
use Rattle.std.specs.Ordering.{nat_cmp}
use Rattle.ds_base.specs.declared.value.Value.{Value}
use Rattle.ds_base.specs.declared.named_value.NamedValue.{NamedValue}
use Rattle.ds_gql.specs.Steps.{first_named}

-- the first value of each name
abbrev pub IsIndex : List NamedValue → BTreeMap (Bor (List ℕ)) (Bor Value) → Type 0
IsIndex names index =
    (name : List ℕ) → option_map (λ (v : Bor Value). v.now) (get_by (λ (k : Bor (List ℕ)). slice_cmp nat_cmp name k.now) index)
    ≡ first_named names name
