-- The bytes so far stand for themselves.
use Rattle.std.proofs.Common.{◌≡◌, ◌≤◌, ◌-◌, take, length}
use Rattle.json.specs.Print.{escape}
use Rattle.ds_json_printing.proofs.text.plain_run.Given as goal

abbrev pub invariant-loop-run : goal.invariant-loop-run
invariant-loop-run l = record {
  within : l.run ≤ length l.text;
  plain : escape (take l.run l.text) ≡ take l.run l.text;
}

abbrev pub decreases-loop-run : goal.decreases-loop-run
decreases-loop-run l = length l.text - l.run
