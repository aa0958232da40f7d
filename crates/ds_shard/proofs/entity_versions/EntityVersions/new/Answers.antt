use Rattle.std.proofs.Common.{sym, subst}
use Rattle.ds_shard.specs.Histories.{AreByKey, in_key_order}
use Rattle.ds_shard.proofs.KeyOrdered.{none_by_key}
use Rattle.ds_shard.proofs.entity_versions.EntityVersions.new.Goals as goal

pub invariant_of-result : goal.invariant_of-result
invariant_of-result c = subst (λ es. AreByKey (in_key_order es)) (sym c.new.ensures.empty) none_by_key
