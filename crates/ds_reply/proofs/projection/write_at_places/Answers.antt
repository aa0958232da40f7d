use Rattle.std.proofs.Common.{List, ℕ, arith, get_or, subst, false}
use Rattle.serde_json.specs.Data.{Members}
use Rattle.serde_json.specs.Written.{members_text}
use Rattle.ds_json_printing.specs.Objects.{Named}
use Rattle.ds_reply.specs.Results.{projected}
use Rattle.ds_reply.specs.Orders.{member_text}
use Rattle.ds_reply.proofs.Projecting.{members_at-more, projected-read, projected-ordered}
use Rattle.ds_reply.proofs.projection.write_at_places.Goals as goal

pub loop-place-init : goal.loop-place-init
loop-place-init g c =
    let all = projected-ordered c.args.names.now c.args.values.now c.args.places.now c.requires.ordered c.requires.given in
    λ u h. subst (λ (ms : Members). g.O.Output.Writes (members_text false ms) c.args.out.now u) all h

pub loop-place-preserved : goal.loop-place-preserved
loop-place-preserved g c =
    let j = g.met.O.Output.joined in
    let ns = c.args.names.now in
    let vs = c.args.values.now in
    let k : ℕ = c.loop-place.place-index in
    let below = c.requires.ordered.below k c.loop-place-test.true in
    let here = projected-read ns vs (get_or c.args.places.now k 0) c.index-names-i.result c.index-values-i.result below (omega (arith, below, c.requires.given)) c.index-names-i.is c.index-values-i.is in
    let one = subst (λ (m : Named). g.O.Output.Writes (member_text m) c.write_comma.new.out c.write_value_of.new.out) here c.write_value_of.ensures in
    let more = members_at-more (projected ns vs) c.loop-place.later c.args.places.now k c.loop-place-test.true in
    λ u h. c.loop-place.invariant u (subst (λ (l : List ℕ). g.O.Output.Writes l c.loop-place.out u) more (j _ _ _ _ _ c.write_comma.ensures (j _ _ _ _ _ one h)))
