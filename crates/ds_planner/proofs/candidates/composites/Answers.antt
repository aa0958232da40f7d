use Rattle.std.proofs.Common.{◌≡◌, ℕ, suc, ◌+◌, ◌-◌, ◌<◌, List, [], ◌∷◌, ◌++◌, Bool, map, sym, ap, ◌∙◌, append_assoc, arith, length}
use Rattle.std.specs.Prelude.{filter}
use Rattle.std.specs.List.{range_with_len}
use Rattle.std.proofs.lemmas.List.Elements.{filter-append}
use Rattle.ds_planner.specs.declared.planned.PlannedIndex.{PlannedIndex}
use Rattle.ds_planner.specs.declared.planned.PlannedIndex.TheVariants.{Composite}
use Rattle.ds_planner.specs.Indexes.{is_candidate}
use Rattle.ds_planner.proofs.candidates.composites.Goals as goal

-- the next place is the first of those to come
next : (p : PlannedIndex → Bool) (all before after : List PlannedIndex) (i n : ℕ) → i < n → all ≡ before ++ filter p (map Composite (range_with_len i (n - i))) → after ≡ before ++ filter p (Composite i ∷ []) → all ≡ after ++ filter p (map Composite (range_with_len (i + 1) (n - (i + 1))))
next p all before after i n h e f =
    let left : n - i ≡ suc (n - (i + 1)) = omega arith in
    let rest = map Composite (range_with_len (i + 1) (n - (i + 1))) in
    e ∙ ap (λ m. before ++ filter p (map Composite (range_with_len i m))) left
    ∙ ap (λ xs. before ++ xs) (filter-append p (Composite i ∷ []) rest)
    ∙ sym (append_assoc before (filter p (Composite i ∷ [])) (filter p rest))
    ∙ ap (λ xs. xs ++ filter p rest) (sym f)

pub loop-position-preserved : goal.loop-position-preserved
loop-position-preserved c =
    next (is_candidate c.args.branch.now c.args.defs.now) (filter (is_candidate c.args.branch.now c.args.defs.now) (map Composite (range_with_len 0 (length c.args.defs.now)))) c.loop-position.found.items c.push.new.found.items c.loop-position.position (length c.args.defs.now) (omega (arith, c.len-position-end.ensures.count)) c.loop-position.invariant c.in_ok-push.ensures
