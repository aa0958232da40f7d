use Rattle.std.proofs.Common.{◌≡◌, ◌<◌, List, ℕ, [], ◌∷◌, take, length, get_or, sym, ◌∙◌, subst, arith, add-one, refl}
use Rattle.std.proofs.lemmas.List.{get_or_read, take_all}
use Rattle.std.specs.List.{AllByRecursion as Each}
use Rattle.ds_table.specs.Heads.{Shares, IsAlike}
use Rattle.ds_table.proofs.Heads.{all_fewer, alike_by, each_take_next}
use Rattle.ds_table.proofs.rows.shared_by.Goals as goal

pub returns-then-many-eq0 : goal.returns-then-many-eq0
returns-then-many-eq0 c = none c.args.rows.now (omega (arith, c.if-many-eq0.true))
  where
    none : (rs : List (List ℕ)) → length rs ≡ 0 → IsAlike 0 rs
    none [] n = tt
    none (r ∷ rs) n = absurd (omega (arith, n))

pub loop-row-preserved : goal.loop-row-preserved
loop-row-preserved c =
    let rs = c.args.rows.now in
    let k = c.loop-row.row-index in
    let l : k < length rs = c.loop-row-test.true in
    let first = c.bytes-first.result.now in
    let m = c.alike_with-shared.result in
    let r = c.row-item.result in
    let e = c.alike_with-shared.ensures in
    let f = c.bytes.ensures ∙ get_or_read rs k r l c.row-item.is [] in
    let new : Shares m first (get_or rs k []) = subst (λ x. Shares m first x) f (record { long = e.within_other; same = sym e.same }) in
    record {
      long = e.within_row;
      alike = rw add-one (each_take_next (Shares m first) k rs [] l (all_fewer m c.loop-row.shared first first e.within refl (take k rs) c.loop-row.invariant.alike) new);
    }

pub returns : goal.returns
returns c =
    let rs = c.args.rows.now in
    let first = c.bytes-first.result.now in
    let s = c.loop-row.shared in
    let e = take_all c.loop-row.row-index rs (omega (arith, c.loop-row-test.false)) in
    alike_by s first rs (subst (Each (Shares s first)) e c.loop-row.invariant.alike)
