-- What a reader answers, where the answer is the definition's.
use Rattle.std.proofs.Common.{◌≡◌, Result, Ok, Err}
use Rattle.ds_json_reading.specs.Reading.{Reads}

-- what is answered exactly, is answered except when out of memory
pub Reads-exact : {A E : Type 0} (no_memory : E) (given answer : Result A E) → given ≡ answer → Reads no_memory given answer
Reads-exact no_memory given (Ok x) is = is
Reads-exact no_memory given (Err e) is = λ known. is
