use Rattle.std.proofs.Common.{◌≡◌, ◌<◌, arith, length, map, set}
use Rattle.std.proofs.lemmas.List.{length-map, length-set}
use Rattle.std.specs.List.{refill}
use Rattle.ds_reply.proofs.OrderLemmas.{ordered-insert, ordered-set, refill-whole}
use Rattle.ds_reply.proofs.order.place.Goals as goal

pub returns-in-Before : goal.returns-in-Before
returns-in-Before g c =
    let ns = map g.T.HasName.text c.args.items.now in
    let lt : c.args.i < length ns = omega (arith, length-map c.args.items.now g.T.HasName.text) in
    let rank = rw c.as_slice.ensures.value at c.in-Before.ensures in
    rw c.insert.ensures.items (ordered-insert ns c.args.i c.args.places.now.items c.in-Before.at lt c.requires.ordered rank.0 rank.1 rank.2)

pub returns-in-At : goal.returns-in-At
returns-in-At g c =
    let ns = map g.T.HasName.text c.args.items.now in
    let lt : c.args.i < length ns = omega (arith, length-map c.args.items.now g.T.HasName.text) in
    let rank = rw c.as_slice.ensures.value at c.in-At.ensures in
    let written : refill (length c.args.places.now.items) c.args.places.now.items (set c.deref_mut.result.now c.in-At.at c.args.i) ≡ set c.args.places.now.items c.in-At.at c.args.i =
    rw c.deref_mut.ensures.value (refill-whole c.args.places.now.items (set c.args.places.now.items c.in-At.at c.args.i) (length-set c.args.places.now.items c.in-At.at c.args.i)) in
    rw written (ordered-set ns c.args.i c.args.places.now.items c.in-At.at lt c.requires.ordered rank.0 rank.1)
