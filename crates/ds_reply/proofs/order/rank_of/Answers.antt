use Rattle.std.proofs.Common.{◌∙◌, ◌-◌, List, ℕ, [], arith, get_or, map, subst, sym}
use Rattle.ds_reply.specs.Orders.{IsBefore}
use Rattle.ds_reply.proofs.OrderLemmas.{named-at, turned}
use Rattle.ds_reply.proofs.order.rank_of.Goals as goal

pub loop-at-preserved : goal.loop-at-preserved
loop-at-preserved g c =
    let text = g.T.HasName.text in
    let p : ℕ = get_or c.args.places.now (c.loop-at.at - 1) 0 in
    let there = named-at text c.args.items.now p c.index-items-places.result (c.requires.places (c.loop-at.at - 1) (omega arith)) c.index-items-places.is in
    let mine = named-at text c.args.items.now c.args.i c.index-items-i.result c.requires.within c.index-items-i.is in
    let before = turned (text c.index-items-i.result) (text c.index-items-places.result) (sym c.compare.ensures ∙ c.in-Greater.is) in
    record {
      within = omega arith;
      behind = λ lt. subst (λ (n : List ℕ). IsBefore n (get_or (map text c.args.items.now) p [])) (sym mine) (subst (λ (n : List ℕ). IsBefore (text c.index-items-i.result) n) (sym there) before);
    }
