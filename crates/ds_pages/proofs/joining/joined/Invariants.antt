-- The rows of the lists so far.
use Rattle.std.proofs.Common.{◌≡◌}
use Rattle.ds_pages.specs.Pages.{all_rows}
use Rattle.ds_pages.proofs.joining.joined.Given as goal

abbrev pub invariant-loop-list : goal.invariant-loop-list
invariant-loop-list l = l.rows.items ≡ all_rows l.yielded
