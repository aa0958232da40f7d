-- What is written from here on for what is left makes the whole text.
use Rattle.std.proofs.Common.{drop, false}
use Rattle.serde_json.specs.Written.{items_text}
use Rattle.ds_query.specs.declared.query.Select.TheVariants as select
use Rattle.ds_reply.specs.Results.{result_items}
use Rattle.ds_reply.proofs.results.write_keys.Given as goal

abbrev pub invariant-loop-result : goal.invariant-loop-result
invariant-loop-result g l = (u : _) → g.O.Output.Writes (items_text l.later (result_items select.Keys (drop l.result-index l.results))) l.out u → g.O.Output.Writes (items_text false (result_items select.Keys l.results)) l.initial.out u
