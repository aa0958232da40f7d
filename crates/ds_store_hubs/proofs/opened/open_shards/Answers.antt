use Rattle.std.proofs.Common.{◌≡◌, ◌+◌, List, [], ◌∷◌, length, map, ap, sym, subst, ◌∙◌, arith, length-append}
use Rattle.std.specs.Prelude.{Option, Some}
use Rattle.ds_hub.specs.Line.{HubId}
use Rattle.ds_shard.specs.States.{StateParts, begun}
use Rattle.ds_store_hubs.specs.Opening.{ledger_parts}
use Rattle.ds_store_hubs.specs.Origins.{origins_from}
use Rattle.ds_store_hubs.proofs.ShardHubs.{origins-push}
use Rattle.ds_store_hubs.proofs.opened.open_shards.Goals as goal

pub loop-number-preserved : goal.loop-number-preserved
loop-number-preserved g c =
    let before = c.loop-number.opened.items in
    let shard = c.in_ok-open_shard.field-0 in
    let shards = c.args.shards in
    let items = c.in_ok-push.ensures.items in
    let longer = ap (λ (os : List (HubId × Option StateParts)). length os) items in
    let Are : List (HubId × Option StateParts) → Type 0 =
    λ os. os ≡ origins_from ledger_parts shards c.args.defs.now c.args.window 0 (map (λ (s : HubId × Option StateParts). s.0) os) in
    let here : shard.1 ≡ Some (begun ledger_parts (record { shards = shards; number = c.loop-number.number }) c.args.defs.now c.args.window) =
    c.in_ok-open_shard.ensures ∙ ap (λ (s : StateParts). Some s) c.in_ok-both.ensures.first in
    let next : c.loop-number.number ≡ 0 + length before = omega (arith, c.loop-number.invariant.many) in
    record {
      many = omega (arith, longer, length-append before (shard ∷ []), c.loop-number.invariant.many);
      begun = subst Are (sym items)
          (origins-push ledger_parts shards c.args.defs.now c.args.window 0 before shard c.loop-number.invariant.begun
          (subst
          (λ n. shard.1 ≡ Some (begun ledger_parts (record { shards = shards; number = n }) c.args.defs.now c.args.window))
          next here));
    }
