use Rattle.std.proofs.Common.{◌∙◌, ap}
use Rattle.std.specs.BTreeMap.{is_at}
use Rattle.std.specs.Map.{lookup}
use Rattle.ds_base.specs.KeyOrder.{key_cmp}
use Rattle.ds_model.specs.Results.{entity_of}
use Rattle.ds_applied.specs.ByKey.{entities_in}
use Rattle.ds_model.proofs.FoundByKey.{entity_of-keyed}
use Rattle.ds_applied.proofs.entity_map.EntityMap.get.Goals as goal

pub returns : goal.returns
returns c =
    c.get.ensures.value ∙ ap (lookup (is_at (key_cmp c.args.key.now))) c.self.invariant
    ∙ entity_of-keyed (entities_in c.self.inside.by_key.entries) c.args.key.now
    ∙ ap (λ es. entity_of es c.args.key.now) c.self.view_is
