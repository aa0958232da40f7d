use Rattle.std.proofs.Common.{◌≡◌, ◌<◌, [], take, length, get_or, ◌∙◌, subst, arith}
use Rattle.std.proofs.lemmas.List.{get_or_read}
use Rattle.ds_table.proofs.Heads.{all_fewer, alike_first}
use Rattle.std.specs.List.{AllByRecursion as Each}
use Rattle.ds_table.specs.Heads.{Shares}
use Rattle.std.proofs.Common.{List, ℕ, ◌∷◌}
use Rattle.ds_table.proofs.rows.shared_with.Goals as goal

pub returns-then-many-eq0-clause-alike : goal.returns-then-many-eq0-clause-alike
returns-then-many-eq0-clause-alike c = none c.args.rows.now (omega (arith, c.if-many-eq0.true))
  where
    none : (rs : List (List ℕ)) → length rs ≡ 0 → Each (Shares (length c.args.row.now) c.args.row.now) rs
    none [] n = tt
    none (r ∷ rs) n = absurd (omega (arith, n))

pub returns-clause-alike : goal.returns-clause-alike
returns-clause-alike c =
    let rs = c.args.rows.now in
    let l : 0 < length rs = omega (arith, c.if-many-eq0.false) in
    let f = c.bytes.ensures ∙ get_or_read rs 0 c.index-rows-0.result l c.index-rows-0.is [] in
    let n = c.alike_with.result in
    let e = subst (λ x. take n x ≡ take n c.args.row.now) f c.alike_with.ensures.same in
    all_fewer n c.args.shared (get_or rs 0 []) c.args.row.now c.alike_with.ensures.within e rs (alike_first c.args.shared rs c.requires)
