use Rattle.std.proofs.Common.{refl, sym, subst}
use Rattle.ds_pages.specs.Places.{placed}
use Rattle.ds_branch.specs.Kept.{IsBehind}
use Rattle.std.proofs.Common.{◌∷◌, ◌++◌, []}
use Rattle.ds_branch.proofs.Skipping.{passed, read}
use Rattle.ds_branch.proofs.kept.put_behind.Goals as goal

pub returns-then-skipped-skip : goal.returns-then-skipped-skip
returns-then-skipped-skip c = λ rows r b.
    (passed c.args.skip c.args.skipped.now c.args.whole.now.items rows (placed c.args.columns.now r.row) c.if-skipped-skip.true b, refl)

pub returns : goal.returns
returns c = λ rows r b.
    let row = placed c.args.columns.now r.row in (
      subst (λ ks. IsBehind c.args.skip c.args.skipped.now ks (rows ++ row ∷ [])) (sym c.in_ok-push.ensures.items)
          (read c.args.skip c.args.skipped.now c.args.whole.now.items rows row c.in_ok-row.row c.if-skipped-skip.false (c.in_ok-row.ensures r) b),
      refl,
    )
