use Rattle.ds_protocol.proofs.Words.{◌≡◌, true, Bor, arith, length-map, get_or-map, same_key, EntityParts}
use Rattle.ds_protocol.proofs.Halving.{entity_at, no_entity_at}
use Rattle.ds_protocol.proofs.finishing.entity_of.Goals.{then-place-entities+else-eq, else-place-entities}
use Rattle.ds_protocol.proofs.finishing.entity_of.Goals as goal

pub returns-then-eq : goal.returns-then-eq
returns-then-eq c =
    let e = c.index-entities-place.result in
    let same : same_key e.now.key c.args.key.now ≡ true = cc in
    entity_at c.args.entities.now c.args.key.now c.place_of-place.result e c.place_of-place.ensures c.if-place-entities.true
    c.index-entities-place.is same

pub returns : goal.returns
returns c =
    let es = c.args.entities.now in
    let place = c.place_of-place.result in
    let all = length-map es (λ (e : Bor EntityParts). e.now) in
    no_entity_at es c.args.key.now place c.requires c.place_of-place.ensures (λ d inside. elim c.if-place-entities.branch [
      | then-place-entities+else-eq w ↦
          let item = get_or-map (λ (e : Bor EntityParts). e.now) es place w.index-entities-place.result d (omega (arith, all, inside)) in
          cc item
      | else-place-entities w ↦ absurd (omega (arith, all, inside, w.if-place-entities.false))
    ])
