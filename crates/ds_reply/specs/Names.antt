-- The names of the rules that a query may break, as refusals tell them.
use Rattle.std.specs.Prelude.{ℕ, List, codes}
use Rattle.ds_query.specs.declared.refusal.Reason.{Reason}
use Rattle.ds_query.specs.declared.refusal.Reason.TheVariants as reason

abbrev pub reason_name : Reason → List ℕ
reason_name reason.KeyValue = codes "key_value"
reason_name reason.UnindexedValue = codes "unindexed_value"
reason_name reason.Kindless = codes "kindless"
reason_name reason.Inequalities = codes "inequalities"
reason_name reason.EqualAndRange = codes "equal_and_range"
reason_name reason.FirstOrder = codes "first_order"
reason_name reason.ProjectionKey = codes "projection_key"
reason_name reason.ProjectionRepeat = codes "projection_repeat"
reason_name reason.ProjectionEqual = codes "projection_equal"
reason_name reason.SeveralCursor = codes "several_cursor"
