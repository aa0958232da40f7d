-- Rows of which the first ones are counted and not kept: one row more.
use Rattle.std.proofs.Common.{◌≡◌, ℕ, ◌+◌, ◌<◌, ◌≤◌, List, [], ◌∷◌, ◌++◌, length, length-append, sym, ap, ◌∙◌, arith}
use Rattle.std.proofs.lemmas.List.{drop_all, drop-append-le, length-drop}
use Rattle.ds_query.specs.declared.row.Row.{Row}
use Rattle.ds_branch.specs.Kept.{IsBehind}

-- at the front it is counted
pub passed : (skip skipped : ℕ) (kept rows : List Row) (row : Row) → skipped < skip → IsBehind skip skipped kept rows
    → IsBehind skip (skipped + 1) kept (rows ++ row ∷ [])
passed skip skipped kept rows row front b =
    let more = length-append rows (row ∷ []) in
    let left = ap length b.are ∙ length-drop skip rows in
    let few : length rows < skip = omega (arith, left, b.long, front) in
    record {
      are = b.are ∙ drop_all skip rows (omega (arith, few)) ∙ sym (drop_all skip (rows ++ row ∷ []) (omega (arith, few, more)));
      long = omega (arith, more, b.long);
      few = omega (arith, front);
    }

-- behind it is kept
pub read : (skip skipped : ℕ) (kept rows : List Row) (row made : Row) → skip ≤ skipped → made ≡ row → IsBehind skip skipped kept rows
    → IsBehind skip skipped (kept ++ made ∷ []) (rows ++ row ∷ [])
read skip skipped kept rows row made behind same b =
    let more = length-append rows (row ∷ []) in
    let kept_more = length-append kept (made ∷ []) in
    let enough : skip ≤ length rows = omega (arith, behind, b.long) in
    record {
      are = (λ i. b.are i ++ same i ∷ []) ∙ sym (drop-append-le skip rows (row ∷ []) enough);
      long = omega (arith, more, kept_more, b.long);
      few = b.few;
    }
