-- What becomes of each version in a change of all.
use Rattle.std.specs.Prelude.{ℕ, ◌==◌, nat_lt, if◌then◌else◌, Option, Some, None, List}
use Rattle.std.specs.Option.{option_map}
use Rattle.std.specs.List.{filter_map}
use Rattle.ds_table.specs.declared.change.Change.{Change}
use Rattle.ds_table.specs.declared.change.Change.TheVariants.{Undo, Trim}
use Rattle.ds_table.specs.Versions.{RowVersion, never, ended_at}

-- the end of a version after the change; none where the version goes
abbrev pub kept_end : Change → ℕ → ℕ → Option ℕ
kept_end (Undo stamp) from to = if from == stamp then None else (if to == stamp then Some never else Some to)
kept_end (Trim floor) from to = if nat_lt floor to then Some to else None

-- the version with the end that it has after the change
abbrev pub kept : Change → RowVersion → Option RowVersion
kept change v = option_map (λ to. ended_at to v) (kept_end change v.from v.to)

-- the versions after the change
abbrev pub changed : Change → List RowVersion → List RowVersion
changed change vs = filter_map (kept change) vs
