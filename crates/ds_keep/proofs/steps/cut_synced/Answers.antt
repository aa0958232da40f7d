use Rattle.std.proofs.Common.{sym, subst}
use Rattle.std.specs.Prelude.{IsTrue}
use Rattle.ds_disk.specs.Crashes.{Cut}
use Rattle.ds_disk.specs.CrashLaws.{from_only}
use Rattle.ds_keep.proofs.Runs.{one_step, then_same, cut_same}
use Rattle.ds_keep.proofs.steps.cut_synced.Goals as goal

pub returns-in_err-cut-clause-any_moment : goal.returns-in_err-cut-clause-any_moment
returns-in_err-cut-clause-any_moment g c = λ honest only.
    let contents = g.D.Disk.contents c.args.disk.now in
    one_step g.D.Disk.moment g.D.Disk.left_since g.D.Disk.images g.met.D.Disk.only_now (Cut c.args.len) contents c.args.disk.now c.cut.new.self
    (cut_same c.args.len contents) only (c.cut.ensures.crash honest) c.cut.ensures.time

pub returns-clause-any_moment : goal.returns-clause-any_moment
returns-clause-any_moment g c = λ honest only.
    let contents = g.D.Disk.contents c.args.disk.now in
    let first = one_step g.D.Disk.moment g.D.Disk.left_since g.D.Disk.images g.met.D.Disk.only_now (Cut c.args.len) contents c.args.disk.now c.cut.new.self
    (cut_same c.args.len contents) only (c.cut.ensures.crash honest) c.cut.ensures.time in
    then_same g.D.Disk.moment g.D.Disk.left_since g.D.Disk.images c.args.disk.now c.cut.new.self c.sync.new.self (Cut c.args.len contents) first
    (from_only contents (Cut c.args.len) (g.D.Disk.images c.args.disk.now) (g.D.Disk.images c.cut.new.self) only (c.cut.ensures.crash honest))
    (c.sync.ensures.crash (subst IsTrue (sym c.cut.ensures.honest) honest)) c.sync.ensures.time
