-- The scans so far are those of the planned ones so far.
use Rattle.std.proofs.Common.{◌≡◌, take}
use Rattle.std.specs.Prelude.{All}
use Rattle.std.specs.Option.{option_copied}
use Rattle.ds_scan.specs.Ranging.{ranges_over}
use Rattle.ds_scan.specs.Scans.{IsLawfulScan}
use Rattle.ds_scan.proofs.ranging.scans_of.Given as goal

abbrev pub invariant-loop-planned : goal.invariant-loop-planned
invariant-loop-planned g l = record {
  made : l.scans.items ≡ ranges_over (record { tables = l.tables; stamp = l.at }) l.branch l.defs (option_copied l.end) (take
      l.planned-index l.plan.scans);
  lawful : All (IsLawfulScan l.defs) (take l.planned-index l.plan.scans);
}
