-- What the code promises of a step: whether it takes the token, and the draft behind it.
use Rattle.std.specs.Prelude.{◌≡◌, Bool, true, false, Option, Some, None, Result, IfOk}
use Rattle.std.specs.declared.alloc.AllocError.{AllocError}
use Rattle.ds_gql.specs.declared.draft.Draft.{Draft}

abbrev pub Takes : Option Draft → Bool → Draft → Type 0
Takes next true new = next ≡ Some new
Takes next false new = next ≡ None

-- nothing where memory was refused
abbrev pub TakesUnlessNoMemory : Option Draft → Result Bool AllocError → Draft → Type 0
TakesUnlessNoMemory next result new = IfOk result (λ taken. Takes next taken new)
