use Rattle.std.proofs.Common.{◌≡◌, ℕ, ◌+◌, List, [], ◌∷◌, ◌++◌, length, sym, ap, ◌∙◌, subst}
use Rattle.std.proofs.Common.{inl}
use Rattle.std.specs.Prelude.{IsTrue}
use Rattle.ds_disk.specs.Crashes.{written, length_written, Torn}
use Rattle.ds_disk.specs.CrashLaws.{weakened}
use Rattle.ds_kept_file.specs.Files.{Kept, Batch, Continues, body_of, next_number, sized, with_batch}
use Rattle.ds_keep.specs.Keepers.{IsWholeTo, StandsForEither}
use Rattle.ds_keep.proofs.Images.{still_closed, either, put_whole}
use Rattle.ds_keep.proofs.Runs.{on_ok, two_runs}
use Rattle.ds_keep.proofs.appending.put.Goals as goal

pub returns-in_err-write_synced-clause-any_moment : goal.returns-in_err-write_synced-clause-any_moment
returns-in_err-write_synced-clause-any_moment g c = λ kept batch honest only whole continues is.
    let contents = g.D.Disk.contents c.args.disk.now in
    let piece = c.args.written.now in
    let most = length_written contents (c.args.gate + 1) piece in
    weakened g.D.Disk.moment g.D.Disk.left_since c.args.disk.now c.write_synced.new.disk (Torn (c.args.gate + 1) (length piece) most contents)
    (StandsForEither kept batch) (c.write_synced.ensures.any_moment honest only)
    (λ image torn. inl (still_closed c.args.gate kept contents whole (length piece) most image torn))

pub returns-clause-any_moment : goal.returns-clause-any_moment
returns-clause-any_moment g c = λ kept batch honest only whole continues is.
    let contents = g.D.Disk.contents c.args.disk.now in
    let piece = c.args.written.now in
    let most = length_written contents (c.args.gate + 1) piece in
    let mid = g.D.Disk.contents c.write_synced.new.disk in
    let staged : mid ≡ written contents (c.args.gate + 1) piece = c.in_ok-write_synced.ensures.written honest in
    let Steps : List ℕ → List ℕ → Type 0 = λ file. Torn c.args.gate 1 (length_written file c.args.gate (1 ∷ [])) file in
    two_runs g.D.Disk.moment g.D.Disk.left_since g.D.Disk.images c.args.disk.now c.write_synced.new.disk c.write_synced-2.new.disk
    (Torn (c.args.gate + 1) (length piece) most contents) (Steps mid) (StandsForEither kept batch)
    (c.write_synced.ensures.any_moment honest only)
    (λ image torn. inl (still_closed c.args.gate kept contents whole (length piece) most image torn))
    (c.write_synced-2.ensures.any_moment (subst IsTrue (sym c.write_synced.ensures.honest) honest) (c.in_ok-write_synced.ensures.durable honest))
    (λ image torn. either c.args.gate kept contents whole batch continues piece is image (subst (λ (file : List ℕ). Steps file image) staged torn))

pub returns-clause-kept : goal.returns-clause-kept
returns-clause-kept g c =
    let contents = g.D.Disk.contents c.args.disk.now in
    let piece = c.args.written.now in
    let mid = g.D.Disk.contents c.write_synced.new.disk in
    let now = g.D.Disk.contents c.write_synced-2.new.disk in
    on_ok c.write_synced-2.result (IsTrue (g.D.Disk.is_honest c.write_synced.new.disk) → now ≡ written mid c.args.gate (1 ∷ []))
    ((kept : Kept) (batch : Batch) → IsTrue (g.D.Disk.is_honest c.args.disk.now) → IsWholeTo c.args.gate kept contents → Continues kept batch
    → piece ≡ sized (body_of (next_number kept) batch) ++ 0 ∷ [] → IsWholeTo (c.args.gate + length piece) (with_batch kept batch) now)
    (λ wrote kept batch honest whole continues is.
    subst (IsWholeTo (c.args.gate + length piece) (with_batch kept batch))
    (sym (wrote (subst IsTrue (sym c.write_synced.ensures.honest) honest)
    ∙ ap (λ (file : List ℕ). written file c.args.gate (1 ∷ [])) (c.in_ok-write_synced.ensures.written honest)))
    (put_whole c.args.gate kept contents whole batch continues piece is))
    c.write_synced-2.ensures.written
