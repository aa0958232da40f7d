use Rattle.std.proofs.Common.{◌≡◌, sym, ◌∙◌, subst}
use Rattle.std.specs.Prelude.{IsTrue}
use Rattle.ds_disk.specs.Crashes.{Only}
use Rattle.ds_keep.proofs.Runs.{if_ok, on_ok, rose_later, stays_at_first, stays_on, stays_both}
use Rattle.ds_keep.proofs.reading.read_disk.Goals as goal

pub returns-clause-stays : goal.returns-clause-stays
returns-clause-stays g c =
    stays_both g.D.Disk.is_honest g.D.Disk.images g.D.Disk.moment g.D.Disk.left_since g.D.Disk.faults c.args.disk.now c.sync.new.self c.read_synced.new.disk
    (stays_on g.D.Disk.is_honest g.D.Disk.images g.D.Disk.moment g.D.Disk.left_since g.D.Disk.faults c.args.disk.now c.args.disk.now c.sync.new.self
    (stays_at_first g.D.Disk.is_honest g.D.Disk.images g.D.Disk.moment g.D.Disk.left_since g.D.Disk.faults g.met.D.Disk.only_now c.args.disk.now) c.sync.ensures.honest c.sync.ensures.crash c.sync.ensures.time
    c.sync.ensures.faults_stay_counted)
    c.read_synced.ensures.stays

pub returns-clause-durable : goal.returns-clause-durable
returns-clause-durable g c =
    let now = g.D.Disk.contents c.read_synced.new.disk in
    on_ok c.read_synced.result (IsTrue (g.D.Disk.is_honest c.sync.new.self) → now ≡ g.D.Disk.contents c.sync.new.self)
    (IsTrue (g.D.Disk.is_honest c.args.disk.now) → Only now (g.D.Disk.images c.read_synced.new.disk))
    (λ same honest image left.
    let still = subst IsTrue (sym c.sync.ensures.honest) honest in
    c.in_ok-sync.ensures.durable honest image (c.read_synced.ensures.stays.crash still image left) ∙ sym (same still))
    c.read_synced.ensures.contents_stay

pub returns-clause-failed_by_a_fault : goal.returns-clause-failed_by_a_fault
returns-clause-failed_by_a_fault g c = λ is.
    rose_later (g.D.Disk.faults c.args.disk.now) (g.D.Disk.faults c.sync.new.self) (g.D.Disk.faults c.read_synced.new.disk)
    c.sync.ensures.faults_stay_counted (c.read_synced.ensures.failed_by_a_fault is)

pub returns-clause-bytes : goal.returns-clause-bytes
returns-clause-bytes g c =
    let old = c.args.disk.now in
    let mid = c.sync.new.self in
    if_ok c.read_synced.result (λ file. IsTrue (g.D.Disk.is_honest mid) → file.items ≡ g.D.Disk.contents mid)
    (λ file. IsTrue (g.D.Disk.is_honest old) → file.items ≡ g.D.Disk.contents old)
    (λ file bytes honest. bytes (subst IsTrue (sym c.sync.ensures.honest) honest) ∙ c.in_ok-sync.ensures.contents_stay honest) c.read_synced.ensures.bytes

pub returns-clause-contents_stay : goal.returns-clause-contents_stay
returns-clause-contents_stay g c =
    let old = c.args.disk.now in
    let mid = c.sync.new.self in
    let now = g.D.Disk.contents c.read_synced.new.disk in
    on_ok c.read_synced.result (IsTrue (g.D.Disk.is_honest mid) → now ≡ g.D.Disk.contents mid)
    (IsTrue (g.D.Disk.is_honest old) → now ≡ g.D.Disk.contents old)
    (λ same honest. same (subst IsTrue (sym c.sync.ensures.honest) honest) ∙ c.in_ok-sync.ensures.contents_stay honest) c.read_synced.ensures.contents_stay
