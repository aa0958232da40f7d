-- Ways to take values, grown from the front.
use Rattle.std.specs.Prelude.{List, [], ◌∷◌, ◌++◌, map}
use Rattle.ds_base.specs.declared.index_value.IndexValue.{IndexValue}

-- a way with each of the values behind it
abbrev pub with_each : List IndexValue → List IndexValue → List (List IndexValue)
with_each values way = map (λ v. way ++ v ∷ []) values
