use Rattle.std.proofs.Common.{◌≡◌, ℕ, List, length, take, drop, sym, ap, ◌∙◌, subst, rules, arith}
use Rattle.ds_keep.specs.Reading.{IsPrefix}
use Rattle.ds_keep.proofs.Runs.{more_read, stays_at_first, stays_on}
use Rattle.ds_keep.proofs.reading.read_piece.Goals as goal

pub returns-in_err-read-clause-stays : goal.returns-in_err-read-clause-stays
returns-in_err-read-clause-stays g c =
    stays_on g.D.Disk.is_honest g.D.Disk.images g.D.Disk.moment g.D.Disk.left_since g.D.Disk.faults c.args.disk.now c.args.disk.now c.read.new.self
    (stays_at_first g.D.Disk.is_honest g.D.Disk.images g.D.Disk.moment g.D.Disk.left_since g.D.Disk.faults g.met.D.Disk.only_now c.args.disk.now) c.read.ensures.honest c.read.ensures.crash c.read.ensures.time
    c.read.ensures.faults_stay_counted

pub returns-in_err-extend_from_slice-clause-stays : goal.returns-in_err-extend_from_slice-clause-stays
returns-in_err-extend_from_slice-clause-stays g c =
    stays_on g.D.Disk.is_honest g.D.Disk.images g.D.Disk.moment g.D.Disk.left_since g.D.Disk.faults c.args.disk.now c.args.disk.now c.read.new.self
    (stays_at_first g.D.Disk.is_honest g.D.Disk.images g.D.Disk.moment g.D.Disk.left_since g.D.Disk.faults g.met.D.Disk.only_now c.args.disk.now) c.read.ensures.honest c.read.ensures.crash c.read.ensures.time
    c.read.ensures.faults_stay_counted

pub returns-clause-stays : goal.returns-clause-stays
returns-clause-stays g c =
    stays_on g.D.Disk.is_honest g.D.Disk.images g.D.Disk.moment g.D.Disk.left_since g.D.Disk.faults c.args.disk.now c.args.disk.now c.read.new.self
    (stays_at_first g.D.Disk.is_honest g.D.Disk.images g.D.Disk.moment g.D.Disk.left_since g.D.Disk.faults g.met.D.Disk.only_now c.args.disk.now) c.read.ensures.honest c.read.ensures.crash c.read.ensures.time
    c.read.ensures.faults_stay_counted

pub returns-clause-bytes : goal.returns-clause-bytes
returns-clause-bytes g c = λ honest prefix.
    let contents = g.D.Disk.contents c.args.disk.now in
    let n = c.in_ok-read.read in
    let long : c.len.result ≡ length c.args.file.now.items = first_of (search rules, omega (arith, c.len.ensures)) in
    subst (λ (l : List ℕ). IsPrefix l contents) (sym c.in_ok-extend_from_slice.ensures.items)
    (more_read contents c.args.file.now.items c.read.new.buf n prefix
    (c.in_ok-read.ensures.bytes honest ∙ ap (λ m. take n (drop m contents)) long) c.in_ok-read.ensures.within)
