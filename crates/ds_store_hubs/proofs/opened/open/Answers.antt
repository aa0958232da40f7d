use Rattle.std.proofs.Common.{◌≡◌, ℕ, List, length, map, sym, subst, ◌∙◌}
use Rattle.std.specs.Prelude.{Option}
use Rattle.std.proofs.lemmas.List.{length-map}
use Rattle.ds_hub.specs.Line.{HubId}
use Rattle.ds_indexdef.specs.declared.IndexDef.{IndexDef}
use Rattle.ds_shard.specs.States.{StateParts}
use Rattle.ds_store_hubs.specs.Opening.{ledger_parts}
use Rattle.ds_store_hubs.specs.Origins.{origins_from}
use Rattle.ds_store_hubs.proofs.opened.open.Goals as goal

pub returns-clause-begun : goal.returns-clause-begun
returns-clause-begun g c =
    let shards = c.in_ok-shards.shards.items in
    let hubs : List HubId = map (λ (s : HubId × Option StateParts). s.0) shards in
    let Are : ℕ → List IndexDef → Type 0 = λ n ds. shards ≡ origins_from ledger_parts n ds c.args.window 0 hubs in
    let many : length hubs ≡ c.args.shards = length-map shards (λ (s : HubId × Option StateParts). s.0) ∙ c.in_ok-shards.ensures.many in
    subst (λ (ds : List IndexDef). Are (length hubs) ds) (sym c.in_ok-definitions.ensures.copied)
    (subst (λ n. Are n c.args.defs.now) (sym many) c.in_ok-shards.ensures.begun)
