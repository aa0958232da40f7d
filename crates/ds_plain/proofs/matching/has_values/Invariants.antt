-- The pairs so far are met.
use Rattle.std.proofs.Common.{◌≡◌, drop}
use Rattle.std.specs.List.{list_all}
use Rattle.ds_model.specs.Rows.{has_value}
use Rattle.ds_plain.proofs.matching.has_values.Given as goal

abbrev pub invariant-loop-pair : goal.invariant-loop-pair
invariant-loop-pair l = list_all (has_value l.entity) (drop l.pair-index l.pairs) ≡ list_all (has_value l.entity) l.pairs
