use Rattle.std.proofs.Common.{◌≡◌, ◌<◌, ◌-◌, true, [], suc, length, get_or, ap, sym, ◌∙◌, subst, arith}
use Rattle.std.proofs.lemmas.List.{get_or_read, take_all}
use Rattle.std.specs.List.{AllByRecursion as Each}
use Rattle.ds_table.specs.Heads.{Shares, head_of}
use Rattle.ds_table.specs.Places.{row_before}
use Rattle.ds_table.proofs.Lists.{each_at}
use Rattle.ds_table.proofs.Heads.{heads_at, heads_long}
use Rattle.ds_table.proofs.Placing.{rising_before}
use Rattle.ds_table.proofs.rows.last_is_before.Goals as goal

pub bounds-heads-last : goal.bounds-heads-last
bounds-heads-last c =
    let n = heads_long c.args.shared c.args.rows.now in
    omega (arith, n, ap length c.requires.headed)

pub returns : goal.returns
returns c = λ t.
    let rs = c.args.rows.now in
    let s = c.args.shared in
    let o = c.args.row.now in
    let m = length rs - 1 in
    let r = c.index-rows-last.result in
    let l : m < length rs = omega arith in
    let f = c.bytes.ensures ∙ get_or_read rs m r l c.index-rows-last.is [] in
    let g : Shares s o c.bytes.result.now = subst (Shares s o) (sym f) (each_at (Shares s o) rs m [] l c.requires.alike) in
    let h : get_or c.args.heads.now m 0 ≡ head_of s c.bytes.result.now = ap (λ hs. get_or hs m 0) c.requires.headed ∙ (heads_at s m rs 0 l ∙ ap (head_of s) (sym f)) in
    let is = c.is_before_at.ensures s g h c.requires.head in
    let b : row_before o c.args.same_too (get_or rs m r) ≡ true = rw (← c.index-rows-last.is, ← c.bytes.ensures) (sym is ∙ t) in
    subst (Each (λ r. row_before o c.args.same_too r ≡ true)) (take_all (suc m) rs (omega arith)) (rising_before o c.args.same_too rs m r c.requires.rising l b)
