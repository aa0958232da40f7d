-- Calls that may be refused: what holds where they aren't.
use Rattle.ds_core.proofs.Words.{Ok}
use Rattle.std.specs.Prelude.{Err, OnOk, Result}

pub ok-then : {A E P Q : Type 0} (r : Result A E) → (P → Q) → OnOk r P → OnOk r Q
ok-then (Ok x) f p = f p
ok-then (Err e) f p = tt

-- what three clauses say
pub ok-three : {A E P Q R S : Type 0} (r : Result A E) → (P → Q × R × S) → OnOk r P → OnOk r Q × OnOk r R × OnOk r S
ok-three (Ok x) f p = f p
ok-three (Err e) f p = (tt, tt, tt)
