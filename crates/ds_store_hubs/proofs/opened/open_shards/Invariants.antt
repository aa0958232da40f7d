use Rattle.std.proofs.Common.{◌≡◌, length, map}
use Rattle.std.specs.Prelude.{Option}
use Rattle.ds_hub.specs.Line.{HubId}
use Rattle.ds_shard.specs.States.{StateParts}
use Rattle.ds_store_hubs.specs.Opening.{ledger_parts}
use Rattle.ds_store_hubs.specs.Origins.{origins_from}
use Rattle.ds_store_hubs.proofs.opened.open_shards.Given as goal

abbrev pub invariant-loop-number : goal.invariant-loop-number
invariant-loop-number g l = record {
  many : length l.opened.items ≡ l.number;
  begun : l.opened.items ≡ origins_from ledger_parts l.shards l.defs l.window 0 (map (λ (s : HubId × Option StateParts). s.0) l.opened.items);
}
