use Rattle.std.proofs.Common.{rules, ◌≤◌, length, arith}
use Rattle.ds_scan.proofs.Kept.{slice_of_bytes}
use Rattle.ds_scan.proofs.range.behind.Goals as goal

pub slice_bounds-result-count : goal.slice_bounds-result-count
slice_bounds-result-count c = c.requires (slice_of_bytes c.args.row.now (λ k. omega (arith, c.type_inv.row k)))

pub slice_bounds-result-start : goal.slice_bounds-result-start
slice_bounds-result-start c =
    let long : c.args.front ≤ length c.args.row.now = c.requires (slice_of_bytes c.args.row.now (λ k. omega (arith, c.type_inv.row k))) in
    search rules

pub returns-clause-of_bytes : goal.returns-clause-of_bytes
returns-clause-of_bytes c = slice_of_bytes c.args.row.now (λ k. omega (arith, c.type_inv.row k))
