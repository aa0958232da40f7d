-- What is written from here on for what is left makes the whole text.
use Rattle.std.proofs.Common.{◌≡◌, ◌≤◌, ◌<◌, ◌^◌, take, length}
use Rattle.json.specs.Print.{escape}
use Rattle.ds_json_printing.proofs.text.write_escaped.Given as goal

abbrev pub invariant-loop-run : goal.invariant-loop-run
invariant-loop-run g l = record {
  within : l.run ≤ length l.rest;
  in_memory : l.run < 2 ^ 63;
  plain : escape (take l.run l.rest) ≡ take l.run l.rest;
  whole : (u : _) → g.O.Output.Writes (escape l.rest) l.out u → g.O.Output.Writes (escape l.text) l.initial.out u;
}

abbrev pub decreases-loop-run : goal.decreases-loop-run
decreases-loop-run g l = length l.rest
