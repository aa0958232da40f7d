use Rattle.std.proofs.Common.{◌≡◌, ℕ, ◌+◌, List, [], ◌∷◌, take, sym, ap, ◌∙◌, subst}
use Rattle.std.specs.Prelude.{IsTrue}
use Rattle.ds_disk.specs.Crashes.{written, length_written, Torn, Cut}
use Rattle.ds_kept_file.specs.Files.{Kept, StandsFor}
use Rattle.ds_keep.specs.Keepers.{IsClosedAt, IsWholeTo}
use Rattle.ds_keep.proofs.Images.{cut_stands, gate_stands, closed_whole}
use Rattle.ds_keep.proofs.Runs.{on_ok, two_runs}
use Rattle.ds_disk.specs.CrashLaws.{weakened}
use Rattle.ds_keep.proofs.opening.close.Goals as goal

pub returns-in_err-cut_synced-clause-any_moment : goal.returns-in_err-cut_synced-clause-any_moment
returns-in_err-cut_synced-clause-any_moment g c = λ kept honest only closed.
    let contents = g.D.Disk.contents c.args.disk.now in
    weakened g.D.Disk.moment g.D.Disk.left_since c.args.disk.now c.cut_synced.new.disk (Cut (c.args.gate + 1) contents) (StandsFor kept)
    (c.cut_synced.ensures.any_moment honest only) (cut_stands c.args.gate kept contents closed)

pub returns-clause-any_moment : goal.returns-clause-any_moment
returns-clause-any_moment g c = λ kept honest only closed.
    let contents = g.D.Disk.contents c.args.disk.now in
    let mid = g.D.Disk.contents c.cut_synced.new.disk in
    let cut : mid ≡ take (c.args.gate + 1) contents = c.in_ok-cut_synced.ensures.cut honest in
    let Steps : List ℕ → List ℕ → Type 0 = λ file. Torn c.args.gate 1 (length_written file c.args.gate (0 ∷ [])) file in
    let still = subst IsTrue (sym c.cut_synced.ensures.honest) honest in
    two_runs g.D.Disk.moment g.D.Disk.left_since g.D.Disk.images c.args.disk.now c.cut_synced.new.disk c.write_synced.new.disk
    (Cut (c.args.gate + 1) contents) (Steps mid) (StandsFor kept)
    (c.cut_synced.ensures.any_moment honest only) (cut_stands c.args.gate kept contents closed)
    (c.write_synced.ensures.any_moment still (c.in_ok-cut_synced.ensures.durable honest))
    (λ image torn. gate_stands c.args.gate kept contents closed image (subst (λ (file : List ℕ). Steps file image) cut torn))

pub returns-clause-closed : goal.returns-clause-closed
returns-clause-closed g c =
    let contents = g.D.Disk.contents c.args.disk.now in
    let mid = g.D.Disk.contents c.cut_synced.new.disk in
    let now = g.D.Disk.contents c.write_synced.new.disk in
    on_ok c.write_synced.result (IsTrue (g.D.Disk.is_honest c.cut_synced.new.disk) → now ≡ written mid c.args.gate (0 ∷ []))
    ((kept : Kept) → IsTrue (g.D.Disk.is_honest c.args.disk.now) → IsClosedAt c.args.gate kept contents → IsWholeTo c.args.gate kept now)
    (λ wrote kept honest closed.
    subst (IsWholeTo c.args.gate kept)
    (sym (wrote (subst IsTrue (sym c.cut_synced.ensures.honest) honest)
    ∙ ap (λ (file : List ℕ). written file c.args.gate (0 ∷ [])) (c.in_ok-cut_synced.ensures.cut honest)))
    (closed_whole c.args.gate kept contents closed))
    c.write_synced.ensures.written
