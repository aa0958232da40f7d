use Rattle.std.proofs.Common.{◌≡◌, ◌≤◌, ◌-◌, ◌∙◌, ap, arith, cond, length, sym, take}
use Rattle.std.proofs.lemmas.List.{take_all}
use Rattle.ds_history.specs.Versions.{seen_at}
use Rattle.ds_history.proofs.VersionLaws.{seen_back}
use Rattle.ds_history.proofs.seeing.seen_at.Goals as goal

pub back-init : goal.back-init
back-init c =
    let versions = c.args.versions.now in (
      omega arith,
      ap (seen_at c.args.counts.now) (sym (take_all (length versions) versions (omega arith))),
    )

pub back-preserved : goal.back-preserved
back-preserved c =
    let counts = c.args.counts.now in
    let versions = c.args.versions.now in
    let within = c.back.invariant.0 in
    let some : 1 ≤ c.back.earlier = omega (arith, c.back-test.true) in (
      omega (arith, within),
      c.back.invariant.1
          ∙ seen_back counts versions c.back.earlier c.index-versions-earlier.result _ some within c.index-versions-earlier.is
          ∙ ap (λ b. cond b c.index-versions-earlier.result.left (seen_at counts (take (c.back.earlier - 1) versions)))
          (sym c.is_counted.ensures ∙ c.if-is_counted.false),
    )

pub returns : goal.returns
returns c =
    let none : c.back.earlier ≡ 0 = omega (arith, c.back-test.false) in
    sym (c.back.invariant.1 ∙ ap (λ n. seen_at c.args.counts.now (take n c.args.versions.now)) none)
