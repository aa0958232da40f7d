use Rattle.std.proofs.Common.{◌∷◌, [], List, ℕ, arith, sym, subst, false}
use Rattle.serde_json.specs.Data.{Members}
use Rattle.serde_json.specs.Written.{members_text}
use Rattle.ds_json_printing.specs.Objects.{Named}
use Rattle.ds_reply.specs.Results.{projected}
use Rattle.ds_reply.specs.Orders.{member_text}
use Rattle.ds_reply.proofs.Projecting.{in_turn-more, in_turn-end, projected-read, projected-in_turn, projected-length}
use Rattle.ds_reply.proofs.projection.write_in_turn.Goals as goal

pub loop-i-init : goal.loop-i-init
loop-i-init g c =
    let all = projected-in_turn c.args.names.now c.args.values.now c.requires in
    λ u h. subst (λ (ms : Members). g.O.Output.Writes (members_text false ms) c.args.out.now u) (sym all) h

pub loop-i-preserved : goal.loop-i-preserved
loop-i-preserved g c =
    let j = g.met.O.Output.joined in
    let ns = c.args.names.now in
    let vs = c.args.values.now in
    let here = projected-read ns vs c.loop-i.i c.index-names-i.result c.index-values-i.result (omega arith) (omega arith) c.index-names-i.is c.index-values-i.is in
    let one = subst (λ (m : Named). g.O.Output.Writes (member_text m) c.write_comma.new.out c.write_value_of.new.out) here c.write_value_of.ensures in
    let more = in_turn-more (projected ns vs) c.loop-i.later c.loop-i.i (omega (arith, projected-length ns vs)) in
    λ u h. c.loop-i.invariant u (subst (λ (l : List ℕ). g.O.Output.Writes l c.loop-i.out u) more (j _ _ _ _ _ c.write_comma.ensures (j _ _ _ _ _ one h)))

pub returns : goal.returns
returns g c =
    let none = in_turn-end c.args.names.now c.args.values.now c.loop-i.i (omega arith) in
    c.loop-i.invariant c.put.new.self (subst (λ (ms : Members). g.O.Output.Writes (members_text c.loop-i.later ms) c.loop-i.out c.put.new.self) (sym none) c.put.ensures)
