-- What is written from here on for what is left makes the whole text.
use Rattle.std.proofs.Common.{drop, false}
use Rattle.serde_json.specs.Written.{items_text}
use Rattle.ds_reply.specs.Results.{count_items}
use Rattle.ds_reply.proofs.results.write_counts.Given as goal

abbrev pub invariant-loop-count : goal.invariant-loop-count
invariant-loop-count g l = (u : _) → g.O.Output.Writes (items_text l.later (count_items (drop l.count-index l.counts))) l.out u → g.O.Output.Writes (items_text false (count_items l.counts)) l.initial.out u
