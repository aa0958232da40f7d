use Rattle.std.proofs.Common.{◌≡◌, take, fold, map}
use Rattle.ds_query.specs.ColumnLists.{AreNamesOf, with_column, ascending}
use Rattle.ds_query.proofs.columns.Distinct.push_names.Given as goal

abbrev pub invariant-loop-name : goal.invariant-loop-name
invariant-loop-name l =
    AreNamesOf l.self.names l.self.columns.items × (l.self.columns.items ≡ fold with_column l.initial.self.columns.items (map ascending (take l.name-index l.names)))
