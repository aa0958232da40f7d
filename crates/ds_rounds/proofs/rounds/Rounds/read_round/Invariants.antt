use Rattle.std.proofs.Common.{◌≡◌, ◌-◌}
use Rattle.ds_base.specs.Limits.{most_input_bytes}
use Rattle.ds_rounds.specs.declared.stage.Stage.TheVariants.{Failed}
use Rattle.ds_rounds.proofs.CallLaws.{IsReading}
use Rattle.ds_rounds.proofs.rounds.Rounds.read_round.Given as goal

abbrev pub decreases-read : goal.decreases-read
decreases-read g l = most_input_bytes - l.self-inside.taken

abbrev pub invariant-read : goal.invariant-read
invariant-read g l = record {
  reading : IsReading (g.I.Source.left l.fn.input) (g.I.Source.left l.input) l.fn.self l.draft l.self-inside.number l.self-inside.taken l.self-inside.piece;
  failed : l.self-inside.stage ≡ Failed;
  faults : g.I.Source.faults l.input ≡ g.I.Source.faults l.fn.input;
}
