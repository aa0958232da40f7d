use Rattle.std.specs.Prelude.{map}
use Rattle.std.specs.String.{string_bytes}
use Rattle.ds_serving.proofs.Bounds.{appliers_within, shards_within, window_within}
use Rattle.ds_serving.proofs.settings.set_up.Goals as goal

pub returns-clause-shards : goal.returns-clause-shards
returns-clause-shards g c = shards_within (map string_bytes c.args.words.now) c.in-Ok.options c.in-Ok.ensures.read

pub returns-clause-window : goal.returns-clause-window
returns-clause-window g c = window_within (map string_bytes c.args.words.now) c.in-Ok.options c.in-Ok.ensures.read

pub returns-clause-few : goal.returns-clause-few
returns-clause-few g c = appliers_within (map string_bytes c.args.words.now) c.in-Ok.options c.in-Ok.ensures.read
