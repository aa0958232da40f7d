use Rattle.std.proofs.Common.{◌≡◌, ◌||◌, drop}
use Rattle.std.specs.List.{list_any}
use Rattle.ds_query.specs.Reasons.{has_name, repeats}
use Rattle.ds_query.proofs.reasons.repeats.Given as goal

-- what is left repeats one of the names before, or itself
abbrev pub invariant-loop-name : goal.invariant-loop-name
invariant-loop-name l = repeats l.names ≡ (list_any (has_name l.seen) (drop l.name-index l.names) || repeats (drop l.name-index l.names))
