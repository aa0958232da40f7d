use Rattle.std.proofs.Common.{◌≡◌, ◌+◌, ◌-◌, ◌≤◌, length, take, drop, option_copied, refl, sym, subst, arith}
use Rattle.ds_table.specs.Versions.{unseen_before}
use Rattle.ds_table.specs.Blocks.{IsOrdered, versions_of}
use Rattle.ds_table.specs.Places.{IsRising}
use Rattle.ds_table.proofs.Columns.{as_many, rows_in_columns}
use Rattle.ds_table.proofs.Placing.{rising}
use Rattle.ds_table.proofs.Looking.{block_range, block_passed, block_found, block_none}
use Rattle.ds_table.proofs.block.Block.look.Goals as goal

pub place-low-requires : goal.place-low-requires
place-low-requires c =
    let b = c.self.inside in
    let o = subst (λ v. IsOrdered v) (sym c.self.view_is) c.requires in
    let e = rows_in_columns b.rows b.froms.items b.tos.items c.self.invariant.froms_long c.self.invariant.tos_long in
    subst IsRising e (rising (versions_of b.rows b.froms.items b.tos.items) o)

pub place_of_bound-high-requires : goal.place_of_bound-high-requires
place_of_bound-high-requires c =
    let b = c.self.inside in
    let o = subst (λ v. IsOrdered v) (sym c.self.view_is) c.requires in
    let e = rows_in_columns b.rows b.froms.items b.tos.items c.self.invariant.froms_long c.self.invariant.tos_long in
    subst IsRising e (rising (versions_of b.rows b.froms.items b.tos.items) o)

pub returns-then-high-low-clause-passed : goal.returns-then-high-low-clause-passed
returns-then-high-low-clause-passed c =
    let b = c.self.inside in
    let vs = versions_of b.rows b.froms.items b.tos.items in
    let low = c.place-low.result in
    let high = c.place_of_bound-high.result in
    let e = rows_in_columns b.rows b.froms.items b.tos.items c.self.invariant.froms_long c.self.invariant.tos_long in
    let n = as_many b.rows b.froms.items b.tos.items c.self.invariant.froms_long c.self.invariant.tos_long in
    let p = c.place-low.ensures in
    let q = c.place_of_bound-high.ensures in
    let r = block_range c.args.at_least.now (option_copied c.args.below) b.rows vs low high (high - low) e n p q refl in
    let z : high - low ≡ 0 = omega (arith, c.if-high-low.true) in
    rw (← c.self.view_is, r, z) refl

pub returns-then-high-low-clause-found : goal.returns-then-high-low-clause-found
returns-then-high-low-clause-found c =
    let b = c.self.inside in
    let vs = versions_of b.rows b.froms.items b.tos.items in
    let low = c.place-low.result in
    let high = c.place_of_bound-high.result in
    let e = rows_in_columns b.rows b.froms.items b.tos.items c.self.invariant.froms_long c.self.invariant.tos_long in
    let n = as_many b.rows b.froms.items b.tos.items c.self.invariant.froms_long c.self.invariant.tos_long in
    let p = c.place-low.ensures in
    let q = c.place_of_bound-high.ensures in
    let r = block_range c.args.at_least.now (option_copied c.args.below) b.rows vs low high (high - low) e n p q refl in
    let z : high - low ≡ 0 = omega (arith, c.if-high-low.true) in
    rw (← c.self.view_is, r, z) refl

pub returns-then-passed-wide-clause-passed : goal.returns-then-passed-wide-clause-passed
returns-then-passed-wide-clause-passed c =
    let b = c.self.inside in
    let vs = versions_of b.rows b.froms.items b.tos.items in
    let low = c.place-low.result in
    let high = c.place_of_bound-high.result in
    let e = rows_in_columns b.rows b.froms.items b.tos.items c.self.invariant.froms_long c.self.invariant.tos_long in
    let n = as_many b.rows b.froms.items b.tos.items c.self.invariant.froms_long c.self.invariant.tos_long in
    let p = c.place-low.ensures in
    let q = c.place_of_bound-high.ensures in
    let r = block_range c.args.at_least.now (option_copied c.args.below) b.rows vs low high (high - low) e n p q refl in
    let t = block_passed c.args.at b.rows b.froms.items b.tos.items low (high - low) c.self.invariant.froms_long c.self.invariant.tos_long in
    let v : c.first_visible-passed.result ≡ unseen_before c.args.at (take (high - low) (drop low vs)) = rw (← t, ← c.deref.ensures.value, ← c.deref-2.ensures.value) c.first_visible-passed.ensures.value in
    let k : low + (high - low) ≤ length vs = omega (arith, n, q.within, c.if-high-low.false) in
    rw (← c.self.view_is, r) v

pub returns-then-passed-wide-clause-found : goal.returns-then-passed-wide-clause-found
returns-then-passed-wide-clause-found c =
    let b = c.self.inside in
    let vs = versions_of b.rows b.froms.items b.tos.items in
    let low = c.place-low.result in
    let high = c.place_of_bound-high.result in
    let e = rows_in_columns b.rows b.froms.items b.tos.items c.self.invariant.froms_long c.self.invariant.tos_long in
    let n = as_many b.rows b.froms.items b.tos.items c.self.invariant.froms_long c.self.invariant.tos_long in
    let p = c.place-low.ensures in
    let q = c.place_of_bound-high.ensures in
    let r = block_range c.args.at_least.now (option_copied c.args.below) b.rows vs low high (high - low) e n p q refl in
    let t = block_passed c.args.at b.rows b.froms.items b.tos.items low (high - low) c.self.invariant.froms_long c.self.invariant.tos_long in
    let v : c.first_visible-passed.result ≡ unseen_before c.args.at (take (high - low) (drop low vs)) = rw (← t, ← c.deref.ensures.value, ← c.deref-2.ensures.value) c.first_visible-passed.ensures.value in
    let k : low + (high - low) ≤ length vs = omega (arith, n, q.within, c.if-high-low.false) in
    let d = block_found c.args.at vs low (high - low) c.first_visible-passed.result in
    rw (← c.self.view_is, r) (omega (arith, k, c.if-passed-wide.true), λ x. d x k v (omega (arith, c.if-passed-wide.true)))

pub returns-clause-passed : goal.returns-clause-passed
returns-clause-passed c =
    let b = c.self.inside in
    let vs = versions_of b.rows b.froms.items b.tos.items in
    let low = c.place-low.result in
    let high = c.place_of_bound-high.result in
    let e = rows_in_columns b.rows b.froms.items b.tos.items c.self.invariant.froms_long c.self.invariant.tos_long in
    let n = as_many b.rows b.froms.items b.tos.items c.self.invariant.froms_long c.self.invariant.tos_long in
    let p = c.place-low.ensures in
    let q = c.place_of_bound-high.ensures in
    let r = block_range c.args.at_least.now (option_copied c.args.below) b.rows vs low high (high - low) e n p q refl in
    let t = block_passed c.args.at b.rows b.froms.items b.tos.items low (high - low) c.self.invariant.froms_long c.self.invariant.tos_long in
    let v : c.first_visible-passed.result ≡ unseen_before c.args.at (take (high - low) (drop low vs)) = rw (← t, ← c.deref.ensures.value, ← c.deref-2.ensures.value) c.first_visible-passed.ensures.value in
    let k : low + (high - low) ≤ length vs = omega (arith, n, q.within, c.if-high-low.false) in
    rw (← c.self.view_is, r) v

pub returns-clause-found : goal.returns-clause-found
returns-clause-found c =
    let b = c.self.inside in
    let vs = versions_of b.rows b.froms.items b.tos.items in
    let low = c.place-low.result in
    let high = c.place_of_bound-high.result in
    let e = rows_in_columns b.rows b.froms.items b.tos.items c.self.invariant.froms_long c.self.invariant.tos_long in
    let n = as_many b.rows b.froms.items b.tos.items c.self.invariant.froms_long c.self.invariant.tos_long in
    let p = c.place-low.ensures in
    let q = c.place_of_bound-high.ensures in
    let r = block_range c.args.at_least.now (option_copied c.args.below) b.rows vs low high (high - low) e n p q refl in
    let t = block_passed c.args.at b.rows b.froms.items b.tos.items low (high - low) c.self.invariant.froms_long c.self.invariant.tos_long in
    let v : c.first_visible-passed.result ≡ unseen_before c.args.at (take (high - low) (drop low vs)) = rw (← t, ← c.deref.ensures.value, ← c.deref-2.ensures.value) c.first_visible-passed.ensures.value in
    let k : low + (high - low) ≤ length vs = omega (arith, n, q.within, c.if-high-low.false) in
    rw (← c.self.view_is, r) (block_none c.args.at vs low (high - low) c.first_visible-passed.result k v (omega (arith, c.if-passed-wide.false)))
