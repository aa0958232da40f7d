use Rattle.std.proofs.Common.{◌≡◌, ℕ, length}
use Rattle.ds_shard.specs.Histories.{trimmed}
use Rattle.ds_shard.specs.Expiries.{AreBy, AreNoted}
use Rattle.ds_shard.proofs.contents.trim_due.Given as goal

abbrev pub invariant-due : goal.invariant-due
invariant-due l = record {
  entities : trimmed l.floor l.entities ≡ trimmed l.floor l.initial.entities;
  noted : AreNoted l.expiring l.entities;
  still_by : (most : ℕ) → AreBy most l.initial.expiring → AreBy most l.expiring;
}

abbrev pub decreases-due : goal.decreases-due
decreases-due l = length l.expiring
