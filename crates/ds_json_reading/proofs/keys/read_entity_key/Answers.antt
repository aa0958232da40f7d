use Rattle.serde_json.specs.View.{items_view}
use Rattle.ds_json_reading.proofs.CompletedKeys.{read-ends}
use Rattle.ds_json_reading.proofs.keys.read_entity_key.Goals as goal

pub returns-in-Array-clause-completes : goal.returns-in-Array-clause-completes
returns-in-Array-clause-completes c = read-ends (items_view c.in-Array.items.items) c.read_entity_items.result c.read_entity_items.ensures
