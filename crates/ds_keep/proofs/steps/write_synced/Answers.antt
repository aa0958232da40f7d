use Rattle.std.proofs.Common.{length, sym, subst}
use Rattle.std.specs.Prelude.{IsTrue}
use Rattle.ds_disk.specs.Crashes.{Torn, length_written}
use Rattle.ds_disk.specs.CrashLaws.{from_only}
use Rattle.ds_keep.proofs.Runs.{one_step, then_same, torn_same}
use Rattle.ds_keep.proofs.steps.write_synced.Goals as goal

pub returns-in_err-write_at-clause-any_moment : goal.returns-in_err-write_at-clause-any_moment
returns-in_err-write_at-clause-any_moment g c = λ honest only.
    let contents = g.D.Disk.contents c.args.disk.now in
    let n = length c.args.piece.now in
    let most = length_written contents c.args.place c.args.piece.now in
    one_step g.D.Disk.moment g.D.Disk.left_since g.D.Disk.images g.met.D.Disk.only_now (Torn c.args.place n most) contents c.args.disk.now c.write_at.new.self
    (torn_same c.args.place n most contents) only (c.write_at.ensures.crash honest) c.write_at.ensures.time

pub returns-clause-any_moment : goal.returns-clause-any_moment
returns-clause-any_moment g c = λ honest only.
    let contents = g.D.Disk.contents c.args.disk.now in
    let n = length c.args.piece.now in
    let most = length_written contents c.args.place c.args.piece.now in
    let first = one_step g.D.Disk.moment g.D.Disk.left_since g.D.Disk.images g.met.D.Disk.only_now (Torn c.args.place n most) contents c.args.disk.now c.write_at.new.self
    (torn_same c.args.place n most contents) only (c.write_at.ensures.crash honest) c.write_at.ensures.time in
    then_same g.D.Disk.moment g.D.Disk.left_since g.D.Disk.images c.args.disk.now c.write_at.new.self c.sync.new.self (Torn c.args.place n most contents) first
    (from_only contents (Torn c.args.place n most) (g.D.Disk.images c.args.disk.now) (g.D.Disk.images c.write_at.new.self) only (c.write_at.ensures.crash honest))
    (c.sync.ensures.crash (subst IsTrue (sym c.write_at.ensures.honest) honest)) c.sync.ensures.time
