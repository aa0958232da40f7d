use Rattle.std.proofs.Common.{◌≡◌, ℕ, ◌∷◌, ◌+◌, drop, not, Bool, true, false, cond, sym, ap, ◌∙◌, subst, ◌<◌, length, List, Some, get_or}
use Rattle.std.specs.List.{list_any, find}
use Rattle.std.proofs.lemmas.List.{at_drop_more}
use Rattle.ds_query.specs.declared.branch.Pair.{Pair}
use Rattle.ds_planner.specs.Indexes.{leads}
use Rattle.ds_planner.proofs.missing.first_unled.Goals as goal

-- the search goes on at the next element, unless this one passes
next : (p : Pair → Bool) (xs ys : List Pair) (i : ℕ) (x : Pair) → ys ≡ xs → i < length ys → x ≡ get_or ys i x → find p (drop i xs) ≡ cond (p x) (Some x) (find p (drop (i + 1) xs))
next p xs ys i x e h is =
    at_drop_more (find p) xs i x (subst (λ zs. i < length zs) e h)
    ∙ ap (λ y. find p (y ∷ drop (i + 1) xs)) (ap (λ zs. get_or zs i x) (sym e) ∙ sym is)

pub returns-then-not-any_leads : goal.returns-then-not-any_leads
returns-then-not-any_leads c =
    let b = c.args.branch.now in
    let p : Pair → Bool = λ q. not (list_any (λ i. leads b c.args.defs.now i q.property) c.args.found.now) in
    let x = c.pair-item.result in
    let passes : p x ≡ true = ap not (sym c.any_leads.ensures ∙ c.if-not-any_leads.true) in
    sym (c.loop-pair.invariant ∙ next p b.equal c.as_slice-pair-items.result.now c.loop-pair.pair-index x c.as_slice-pair-items.ensures c.loop-pair-test.true c.pair-item.is ∙ ap (λ r. cond r (Some x) (find p (drop (c.loop-pair.pair-index + 1) b.equal))) passes)

pub loop-pair-preserved : goal.loop-pair-preserved
loop-pair-preserved c =
    let b = c.args.branch.now in
    let p : Pair → Bool = λ q. not (list_any (λ i. leads b c.args.defs.now i q.property) c.args.found.now) in
    let x = c.pair-item.result in
    let fails : p x ≡ false = ap not (sym c.any_leads.ensures ∙ c.if-not-any_leads.false) in
    c.loop-pair.invariant ∙ next p b.equal c.as_slice-pair-items.result.now c.loop-pair.pair-index x c.as_slice-pair-items.ensures c.loop-pair-test.true c.pair-item.is ∙ ap (λ r. cond r (Some x) (find p (drop (c.loop-pair.pair-index + 1) b.equal))) fails
