use Rattle.std.proofs.Common.{◌≡◌, ℕ, List, [], true, get_or, ◌∙◌, sym, subst, ap}
use Rattle.serde_json.specs.Data.{Members, no_members}
use Rattle.serde_json.specs.Written.{members_text}
use Rattle.ds_base.specs.declared.index_value.IndexValue.{IndexValue}
use Rattle.ds_base.specs.declared.index_value.IndexValue.TheVariants as index
use Rattle.ds_json_printing.specs.Objects.{Named, named}
use Rattle.ds_json_printing.specs.Printing.{index_value_data}
use Rattle.ds_reply.specs.Orders.{member_text}
use Rattle.ds_reply.specs.Projections.{projected_members, past}
use Rattle.std.proofs.lemmas.List.{get_or_default}
use Rattle.ds_reply.proofs.Selection.{past-none}
use Rattle.ds_reply.proofs.Projecting.{member-before}
use Rattle.ds_reply.proofs.projection.write_by_search.Goals as goal

pub loop-place-init : goal.loop-place-init
loop-place-init g c =
    let all = past-none [] (projected_members c.args.names.now c.args.values.now no_members) in
    λ u h. rw all at h

pub loop-place-preserved : goal.loop-place-preserved
loop-place-preserved g c =
    let j = g.met.O.Output.joined in
    let ns = c.args.names.now in
    let vs = c.args.values.now in
    let all = projected_members ns vs no_members in
    let i = c.in-Some.place in
    let next = c.in-Some.ensures in
    let name : c.index-names-place.result ≡ get_or ns i [] = c.index-names-place.is ∙ get_or_default ns i c.index-names-place.result [] next.0 in
    let value : c.index-values-place.result ≡ get_or vs i index.Null = c.index-values-place.is ∙ get_or_default vs i c.index-values-place.result index.Null next.1 in
    let last : c.bytes-last.result.now ≡ get_or ns i [] = c.bytes-last.ensures.value ∙ c.index-names-place-in-Some.is ∙ get_or_default ns i c.index-names-place-in-Some.result [] next.0 in
    let here : named c.index-names-place.result (index_value_data c.index-values-place.result) ≡ named (get_or ns i []) (index_value_data (get_or vs i index.Null)) =
    ap (λ (n : List ℕ). named n (index_value_data c.index-values-place.result)) name ∙ ap (λ (v : IndexValue). named (get_or ns i []) (index_value_data v)) value in
    let one = subst (λ (m : Named). g.O.Output.Writes (member_text m) c.write_comma.new.out c.write_value_of.new.out) here c.write_value_of.ensures in
    λ u h.
    let rest = subst (λ (k : List ℕ). g.O.Output.Writes (members_text true (past true k all)) c.write_value_of.new.out u) last h in
    let both = subst (λ (l : List ℕ). g.O.Output.Writes l c.write_comma.new.out u) (member-before (named (get_or ns i []) (index_value_data (get_or vs i index.Null))) (members_text true (past true (get_or ns i []) all))) (j _ _ _ _ _ one rest) in
    c.loop-place.invariant u (subst (λ (ms : Members). g.O.Output.Writes (members_text c.loop-place.later ms) c.loop-place.out u) (sym next.2) (j _ _ _ _ _ c.write_comma.ensures both))
