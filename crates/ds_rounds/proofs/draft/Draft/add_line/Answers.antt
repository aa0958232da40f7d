use Rattle.std.proofs.Common.{◌≡◌, ◌+◌, ◌-◌, ◌∙◌, ◌++◌, ◌∷◌, [], ap, refl, arith, length, subst, sym, take}
use Rattle.std.proofs.lemmas.List.{take_all}
use Rattle.ds_rounds.specs.Drafts.{IsDraft}
use Rattle.ds_rounds.specs.Lines.{content_of, contents, lines_of_chunks}
use Rattle.ds_rounds.proofs.SpanLaws.{IsDraft-push, lines-push}
use Rattle.ds_rounds.proofs.draft.Draft.add_line.Goals as goal

pub drop_long-requires : goal.drop_long-requires
drop_long-requires c = c.self.invariant.within

pub invariant_of-self-2 : goal.invariant_of-self-2
invariant_of-self-2 c =
    let d = c.self.inside in
    let before = lines_of_chunks d.chunks.items in
    let after = c.drop_long.new.bytes.items in
    let spans = c.push.new.self.items in
    let whole : c.len-end.result ≡ length d.bytes.items = c.len-end.ensures ∙ d.bytes.ok.0 in
    let all : c.len-self-inside.result ≡ length after = c.len-self-inside.ensures ∙ c.drop_long.new.bytes.ok.0 in
    subst (λ n. IsDraft n (d.count + 1) (d.total + (c.len-end.result - d.start)) after spans
    (before ++ contents (take c.len-self-inside.result after) spans)) (sym all)
    (IsDraft-push c.len-end.result c.self.invariant whole c.drop_long.ensures.longer
    (λ short. c.drop_long.ensures.kept (omega (arith, short, whole))) c.in_ok-push.ensures.items
    (ap (λ bs. before ++ contents bs spans) (take_all c.len-self-inside.result after (omega (arith, all)))
    ∙ ap (λ ss. before ++ contents after ss) c.in_ok-push.ensures.items
    ∙ lines-push before d.start d.bytes.items after d.spans.items (record { from = d.start; to = c.len-end.result })
    c.self.invariant.ordered refl whole c.drop_long.ensures.front
    (λ short. c.drop_long.ensures.kept (omega (arith, short, whole)))))

pub returns-clause-lines : goal.returns-clause-lines
returns-clause-lines c =
    let d = c.self.inside in
    let before = lines_of_chunks d.chunks.items in
    let after = c.drop_long.new.bytes.items in
    let whole : c.len-end.result ≡ length d.bytes.items = c.len-end.ensures ∙ d.bytes.ok.0 in
    let all : c.len-self-inside.result ≡ length after = c.len-self-inside.ensures ∙ c.drop_long.new.bytes.ok.0 in
    ap (λ bs. before ++ contents bs c.push.new.self.items) (take_all c.len-self-inside.result after (omega (arith, all)))
    ∙ ap (λ ss. before ++ contents after ss) c.in_ok-push.ensures.items
    ∙ lines-push before d.start d.bytes.items after d.spans.items (record { from = d.start; to = c.len-end.result })
    c.self.invariant.ordered refl whole c.drop_long.ensures.front
    (λ short. c.drop_long.ensures.kept (omega (arith, short, whole)))
    ∙ ap (λ d. d.lines ++ content_of d.kept ∷ []) c.self.view_is
