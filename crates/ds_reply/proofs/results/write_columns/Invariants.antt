-- What is written from here on for what is left makes the whole text.
use Rattle.std.proofs.Common.{drop, false}
use Rattle.serde_json.specs.Written.{items_text}
use Rattle.ds_reply.specs.Results.{column_items}
use Rattle.ds_reply.proofs.results.write_columns.Given as goal

abbrev pub invariant-loop-column : goal.invariant-loop-column
invariant-loop-column g l = (u : _) → g.O.Output.Writes (items_text l.later (column_items (drop l.column-index l.columns))) l.out u → g.O.Output.Writes (items_text false (column_items l.columns)) l.initial.out u
