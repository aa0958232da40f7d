use Rattle.std.proofs.Common.{◌≡◌, false, ℕ, [], ◌++◌, suc, take, drop, get_or, find, option_copied, refl, ap, sym, ◌∙◌, arith, add-one}
use Rattle.std.specs.Prelude.{Option, Some, None, option_map, MatchOption}
use Rattle.std.proofs.lemmas.List.{get_or_read}
use Rattle.ds_table.specs.Versions.{RowVersion, is_before, is_seen, in_range, seen_rows, unseen_before, versions_within}
use Rattle.ds_table.specs.Blocks.{joined}
use Rattle.ds_table.proofs.Placing.{block_ordered}
use Rattle.ds_table.proofs.Spacing.{joined_parts, joined_drop_at}
use Rattle.ds_table.proofs.Looking.{within_behind, find_by, first_row, rest_out, find_here, count_here, find_past, count_past}
use Rattle.ds_table.proofs.view.seek_from.Goals as goal

none_found : (o : Option ℕ) (P : Type 0) (Q : ℕ → Type 0) → MatchOption o P Q → ((x : ℕ) → o ≡ Some x → ⊥) → P
none_found None P Q h n = h
none_found (Some x) P Q h n = absurd (n x refl)

pub loop-i-init : goal.loop-i-init
loop-i-init g c =
    let bs = c.args.blocks.now in
    let s = c.args.start in
    let a = c.args.at_least.now in
    let b = option_copied c.args.below in
    let w = ap (versions_within a b) (sym (joined_parts bs s)) ∙ within_behind a b (joined (take s bs)) (joined (drop s bs)) c.requires.start in
    record {
      least = find_by a b c.args.at (joined bs) (joined (drop s bs)) w;
      steps = rw w refl;
    }

pub returns-then-not-is_below_bound-clause-least : goal.returns-then-not-is_below_bound-clause-least
returns-then-not-is_below_bound-clause-least g c =
    let bs = c.args.blocks.now in
    let i = c.loop-i.i in
    let a = c.args.at_least.now in
    let b = option_copied c.args.below in
    let d : RowVersion = record { row = []; from = 0; to = 0 } in
    let f : is_before b (get_or (get_or bs i []) 0 d).row ≡ false = rw (← get_or_read bs i c.index-blocks-i.result c.loop-i-test.true c.index-blocks-i.is [], ← c.row.ensures d, ← c.is_below_bound.ensures) c.if-not-is_below_bound.true in
    let out = rest_out a b bs i d c.loop-i-test.true c.requires.filled c.requires.ordered f in
    sym (c.loop-i.invariant.least ∙ (first_row (in_range a b) c.args.at (joined (drop i bs)) ∙ ap (λ l. option_map (λ (v : RowVersion). v.row) (find (is_seen c.args.at) l)) out))

pub returns-then-not-is_below_bound-clause-steps : goal.returns-then-not-is_below_bound-clause-steps
returns-then-not-is_below_bound-clause-steps g c =
    let bs = c.args.blocks.now in
    let i = c.loop-i.i in
    let a = c.args.at_least.now in
    let b = option_copied c.args.below in
    let d : RowVersion = record { row = []; from = 0; to = 0 } in
    let f : is_before b (get_or (get_or bs i []) 0 d).row ≡ false = rw (← get_or_read bs i c.index-blocks-i.result c.loop-i-test.true c.index-blocks-i.is [], ← c.row.ensures d, ← c.is_below_bound.ensures) c.if-not-is_below_bound.true in
    let out = rest_out a b bs i d c.loop-i-test.true c.requires.filled c.requires.ordered f in
    let q = ap (unseen_before c.args.at) out in
    omega (arith, q, c.loop-i.invariant.steps, c.tick.ensures)

pub look-found-requires : goal.look-found-requires
look-found-requires g c =
    rw (get_or_read c.args.blocks.now c.loop-i.i c.index-blocks-i.result c.loop-i-test.true c.index-blocks-i.is []) (block_ordered c.args.blocks.now c.loop-i.i c.requires.ordered)

pub returns-in-Some-clause-least : goal.returns-in-Some-clause-least
returns-in-Some-clause-least g c =
    let bs = c.args.blocks.now in
    let i = c.loop-i.i in
    let a = c.args.at_least.now in
    let b = option_copied c.args.below in
    let d : RowVersion = record { row = []; from = 0; to = 0 } in
    let blk = c.index-blocks-i.result in
    let rest = joined (drop (suc i) bs) in
    let v = get_or blk c.in-Some.place d in
    let e = get_or_read bs i blk c.loop-i-test.true c.index-blocks-i.is [] in
    let j : joined (drop i bs) ≡ blk ++ rest = joined_drop_at bs i c.loop-i-test.true ∙ ap (λ x. x ++ rest) (sym e) in
    let f = rw c.in-Some.is at c.look-found.ensures.found in
    sym (c.loop-i.invariant.least ∙ (ap (λ l. find (in_range a b) (seen_rows c.args.at l)) j ∙ (find_here a b c.args.at blk rest v (f.1 d) ∙ ap (λ r. Some r) (sym (c.row-in-Some.ensures d)))))

pub returns-in-Some-clause-steps : goal.returns-in-Some-clause-steps
returns-in-Some-clause-steps g c =
    let bs = c.args.blocks.now in
    let i = c.loop-i.i in
    let a = c.args.at_least.now in
    let b = option_copied c.args.below in
    let d : RowVersion = record { row = []; from = 0; to = 0 } in
    let blk = c.index-blocks-i.result in
    let rest = joined (drop (suc i) bs) in
    let v = get_or blk c.in-Some.place d in
    let e = get_or_read bs i blk c.loop-i-test.true c.index-blocks-i.is [] in
    let j : joined (drop i bs) ≡ blk ++ rest = joined_drop_at bs i c.loop-i-test.true ∙ ap (λ x. x ++ rest) (sym e) in
    let f = rw c.in-Some.is at c.look-found.ensures.found in
    let n = ap (λ l. unseen_before c.args.at (versions_within a b l)) j ∙ count_here a b c.args.at blk rest v (f.1 d) in
    omega (arith, n, c.loop-i.invariant.steps, c.tick.ensures, c.tick_times.ensures, c.look-found.ensures.passed)

pub loop-i-preserved : goal.loop-i-preserved
loop-i-preserved g c =
    let bs = c.args.blocks.now in
    let i = c.loop-i.i in
    let a = c.args.at_least.now in
    let b = option_copied c.args.below in
    let blk = c.index-blocks-i.result in
    let rest = joined (drop (suc i) bs) in
    let e = get_or_read bs i blk c.loop-i-test.true c.index-blocks-i.is [] in
    let j : joined (drop i bs) ≡ blk ++ rest = joined_drop_at bs i c.loop-i-test.true ∙ ap (λ x. x ++ rest) (sym e) in
    let f : find (is_seen c.args.at) (versions_within a b blk) ≡ None = none_found c.look-found.result.place _ _ c.look-found.ensures.found c.in_default.not-Some in
    let n = ap (λ l. unseen_before c.args.at (versions_within a b l)) j ∙ count_past a b c.args.at blk rest f in
    record {
      least = c.loop-i.invariant.least ∙ (ap (λ l. find (in_range a b) (seen_rows c.args.at l)) j ∙ rw add-one (find_past a b c.args.at blk rest f));
      steps = rw add-one (omega (arith, n, c.loop-i.invariant.steps, c.tick_times.ensures, c.look-found.ensures.passed));
    }
