-- What a call says that gives a definition's result, unless memory was wanting.
use Rattle.std.specs.Prelude.{ℕ, ◌≡◌, Option, Some, None, Result}
use Rattle.ds_base.specs.Memory.{UnlessNoMemory}
use Rattle.ds_indexdef.specs.declared.refused.YamlRefused.{YamlRefused}
use Rattle.ds_indexdef.specs.declared.refused.YamlRefused.TheVariants.{Line, NoMemory}

-- the line that is refused, except when out of memory
abbrev pub refused_at : YamlRefused → Option ℕ
refused_at (Line n) = Some n
refused_at NoMemory = None

-- the result, which is a value or a refused line
abbrev pub GivesUnlessNoMemory : {A : Type 0} → Result A YamlRefused → Result A ℕ → Type 0
GivesUnlessNoMemory {A = A} result given = UnlessNoMemory refused_at (λ told. given ≡ told) result
