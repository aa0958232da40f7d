use Rattle.std.proofs.Common.{◌≡◌, ℕ, ◌+◌, ◌<◌, List, ◌++◌, Bool, drop, length, get_or, sym, ap, ◌∙◌, subst, append_assoc}
use Rattle.std.specs.Prelude.{filter, flat_map}
use Rattle.std.proofs.lemmas.List.{at_drop_more}
use Rattle.std.proofs.lemmas.List.Elements.{filter-append}
use Rattle.ds_base.specs.declared.column.Column.{Column}
use Rattle.ds_planner.specs.declared.planned.PlannedIndex.{PlannedIndex}
use Rattle.ds_planner.specs.Indexes.{is_candidate}
use Rattle.ds_planner.specs.Missing.{two_ways}
use Rattle.ds_planner.proofs.candidates.push_columns.Goals as goal

-- the next column gives the first of those to come
next : (p : PlannedIndex → Bool) (f : Column → List PlannedIndex) (all before after : List PlannedIndex) (xs ys : List Column) (i : ℕ) (x : Column) → ys ≡ xs → i < length ys → x ≡ get_or ys i x
    → all ≡ before ++ filter p (flat_map f (drop i xs)) → after ≡ before ++ filter p (f x) → all ≡ after ++ filter p (flat_map f (drop (i + 1) xs))
next p f all before after xs ys i x e h is now then =
    let rest = flat_map f (drop (i + 1) xs) in
    now
    ∙ ap (λ zs. before ++ filter p zs) (at_drop_more (flat_map f) xs i x (subst (λ zs. i < length zs) e h) ∙ ap (λ y. f y ++ rest) (ap (λ zs. get_or zs i x) (sym e) ∙ sym is))
    ∙ ap (λ zs. before ++ zs) (filter-append p (f x) rest)
    ∙ sym (append_assoc before (filter p (f x)) (filter p rest))
    ∙ ap (λ zs. zs ++ filter p rest) (sym then)

pub loop-column-preserved : goal.loop-column-preserved
loop-column-preserved c =
    let b = c.args.branch.now in
    let p = is_candidate b c.args.defs.now in
    let f : Column → List PlannedIndex = λ d. two_ways d.name in
    next p f (c.args.found.now.items ++ filter p (flat_map f b.columns)) c.loop-column.found.items c.push_two_ways.new.found.items b.columns c.as_slice-column-items.result.now c.loop-column.column-index c.column-item.result c.as_slice-column-items.ensures c.loop-column-test.true c.column-item.is c.loop-column.invariant c.in_ok-push_two_ways.ensures
