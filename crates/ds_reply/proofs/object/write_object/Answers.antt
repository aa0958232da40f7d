use Rattle.std.proofs.Common.{◌∷◌, List, ℕ, false, map, subst}
use Rattle.serde_json.specs.Data.{Members}
use Rattle.serde_json.specs.Written.{members_text}
use Rattle.ds_reply.proofs.Projecting.{object-ordered}
use Rattle.ds_reply.proofs.object.write_object.Goals as goal

pub returns : goal.returns
returns g c =
    let j = g.met.O.Output.joined in
    let whole = object-ordered c.args.members.now c.places_by_name-places.result.items c.places_by_name-places.ensures in
    let rest = rw c.as_slice.ensures.value at c.write_members.ensures in
    subst (λ (ms : Members). g.O.Output.Writes (123 ∷ members_text false ms) c.args.out.now c.write_members.new.out) whole (j _ _ _ _ _ c.put.ensures rest)
