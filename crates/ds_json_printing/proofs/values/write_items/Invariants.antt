-- What is written from here on for what is left makes the whole text.
use Rattle.std.proofs.Common.{drop, false}
use Rattle.serde_json.specs.Written.{items_text}
use Rattle.ds_json_printing.specs.Printing.{value_items}
use Rattle.ds_json_printing.proofs.values.write_items.Given as goal

abbrev pub invariant-loop-value : goal.invariant-loop-value
invariant-loop-value g l = (u : _) → g.O.Output.Writes (items_text l.later (value_items (drop l.value-index l.values))) l.out u → g.O.Output.Writes (items_text false (value_items l.values)) l.initial.out u
