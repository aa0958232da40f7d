use Rattle.std.proofs.Common.{Bool, true, false, refl}
use Rattle.ds_store_tests.proofs.asking.all.Goals as goal

pub returns : goal.returns
returns c true = record { start = refl; end = refl }
returns c false = tt
