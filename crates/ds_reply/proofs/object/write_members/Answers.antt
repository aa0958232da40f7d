use Rattle.std.proofs.Common.{◌++◌, List, ℕ, ◌+◌, true, drop, ◌∙◌, append_assoc, get_or, map, sym, ap, subst, []}
use Rattle.std.proofs.lemmas.List.{get_or-map}
use Rattle.serde_json.specs.Data.{null}
use Rattle.serde_json.specs.Written.{comma_if, members_text}
use Rattle.ds_json_printing.specs.Objects.{Named, named}
use Rattle.ds_reply.specs.Orders.{members_at, member_text}
use Rattle.ds_reply.specs.Shown.{member_named}
use Rattle.ds_reply.proofs.OrderLemmas.{at_place}
use Rattle.ds_reply.proofs.Projecting.{members_at-more}
use Rattle.ds_reply.proofs.object.write_members.Goals as goal

pub loop-place-preserved : goal.loop-place-preserved
loop-place-preserved g c =
    let j = g.met.O.Output.joined in
    let ms = map member_named c.args.members.now in
    let i : ℕ = c.loop-place.place-index in
    let p : ℕ = get_or c.args.places.now i 0 in
    let comma : List ℕ = comma_if c.loop-place.later in
    let here = get_or-map member_named c.args.members.now p c.index-members-place.result (named [] null) (c.requires i c.loop-place-test.true) in
    let at = ap member_named c.index-members-place.is ∙ sym here in
    let one = subst (λ (m : Named). g.O.Output.Writes (comma ++ member_text m) c.loop-place.out c.write_member.new.out) at c.write_member.ensures in
    let rest : List ℕ = members_text true (members_at ms (drop (i + 1) c.args.places.now)) in
    let more = append_assoc comma (member_text (at_place ms p)) rest ∙ members_at-more ms c.loop-place.later c.args.places.now i c.loop-place-test.true in
    λ u h. c.loop-place.invariant u (subst (λ (l : List ℕ). g.O.Output.Writes l c.loop-place.out u) more (j _ _ _ _ _ one h))
