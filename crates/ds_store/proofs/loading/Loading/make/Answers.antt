use Rattle.std.proofs.Common.{◌≡◌, ◌-◌, List, [], length, replicate, ap, sym, ◌∙◌, arith}
use Rattle.std.specs.Prelude.{Option}
use Rattle.std.proofs.lemmas.List.{length-map}
use Rattle.ds_base.specs.Limits.{first_drawn_id}
use Rattle.ds_hub.specs.Line.{HubId}
use Rattle.ds_shard.specs.States.{StateParts}
use Rattle.ds_store_hubs.specs.Opening.{OpenedParts}
use Rattle.ds_store_passes.specs.Loads.{loaded}
use Rattle.ds_store_passes.specs.Passes.{PassParts, nothing_seen}
use Rattle.ds_store.proofs.Loads.{by_its_counter, nothing_loaded}
use Rattle.ds_store.proofs.loading.Loading.make.Goals as goal

pub make_parts-requires-clause-readers : goal.make_parts-requires-clause-readers
make_parts-requires-clause-readers g c k d low =
    let hub = ap (λ (o : OpenedParts). o.journal) c.opened.view_is ∙ sym c.requires.names.journal_is in
    let reader = c.opened.invariant.1 k d low in
    (reader.0 ∙ hub, reader.1)

pub first_desk-desk-requires-clause-hub : goal.first_desk-desk-requires-clause-hub
first_desk-desk-requires-clause-hub g c = ap (λ (o : OpenedParts). o.journal) c.opened.view_is ∙ sym c.requires.names.journal_is

pub new-requires-clause-own : goal.new-requires-clause-own
new-requires-clause-own g c = ap (λ (o : OpenedParts). o.ledger) c.opened.view_is ∙ sym c.requires.names.ledger_is

pub invariant_of-result-2 : goal.invariant_of-result-2
invariant_of-result-2 g c =
    let opened = c.args.opened in
    let shards = length g.J.Names.shards in
    let same = c.in_ok-parts.ensures.shards in
    let own = c.in_ok-parts.ensures.pass in
    let next : c.in_ok-parts.parts.pass.next ≡ first_drawn_id = ap (λ (p : PassParts). p.next) own in
    let many : length c.opened.inside.shards.items ≡ shards = ap (λ (o : OpenedParts). length o.shards) c.opened.view_is
    ∙ sym (length-map opened.shards (λ (s : HubId × Option StateParts). s.0))
    ∙ sym (ap (λ (hs : List HubId). length hs) c.requires.names.shards_are) in
    let window : c.opened.inside.window ≡ g.J.Names.window = ap (λ (o : OpenedParts). o.window) c.opened.view_is
    ∙ sym c.requires.names.window_is in (
      by_its_counter c.in_ok-parts.parts.pass (length c.in_ok-parts.parts.shards.items) [] c.first_desk-desk.result.book.journal first_drawn_id
          (own ∙ sym (nothing_loaded shards) ∙ ap (λ n. loaded n [] first_drawn_id) (sym same)) c.first_desk-desk.ensures.journal,
      omega (arith, next, c.first_desk-desk.ensures.next),
      (omega (arith, next), omega (arith, next)),
      (
        c.in_ok-parts.ensures.others ∙ ap (λ n. replicate (c.opened.inside.passes - 1) (nothing_seen n)) (sym same),
        c.in_ok-parts.ensures.room,
        c.in_ok-parts.ensures.some,
      ),
      (
        same,
        (omega (arith, many, c.opened.invariant.2.0), omega (arith, many, c.opened.invariant.2.1)),
        ap (λ (o : OpenedParts). o.definitions) c.opened.view_is ∙ sym c.requires.names.definitions_are,
        window,
        (omega (arith, window, c.opened.invariant.3.0), omega (arith, window, c.opened.invariant.3.1)),
        (c.opened.invariant.4.1, c.opened.invariant.5.1),
      ),
    )

pub returns : goal.returns
returns g c =
    let many = ap (λ (hs : List HubId). length hs) c.requires.names.shards_are
    ∙ length-map c.args.opened.shards (λ (s : HubId × Option StateParts). s.0) in
    λ i. record {
      shards = (c.in_ok-parts.ensures.shards ∙ many) i;
      passes = ap (λ (o : OpenedParts). o.passes) c.opened.view_is i;
      journal = c.first_desk-desk.ensures.journal i;
      next = ap (λ (p : PassParts). p.next) c.in_ok-parts.ensures.pass i;
    }
