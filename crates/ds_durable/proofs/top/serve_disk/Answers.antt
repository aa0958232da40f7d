use Rattle.std.proofs.Common.{◌≡◌, ◌∙◌, ap, subst, sym}
use Rattle.std.specs.Prelude.{Err, IsTrue}
use Rattle.ds_disk.specs.Crashes.{LeavesOnly}
use Rattle.ds_kept_file.specs.Files.{Kept, StandsFor}
use Rattle.ds_keeping.specs.Moments.{IsLeft}
use Rattle.ds_durable.proofs.Outcomes.{behind_over, moments_over, not_opened}
use Rattle.ds_durable.proofs.top.serve_disk.Goals as goal

pub returns-in-Ok-clause-run : goal.returns-in-Ok-clause-run
returns-in-Ok-clause-run g c =
    let old = c.args.disk.now in
    let mid = c.open.new.disk in
    let new = c.serve_opened.new.disk in
    behind_over (record { journal = c.in-Ok.opened.journal; next = c.in-Ok.opened.next }) (g.D.Disk.is_honest old)
    (g.D.Disk.is_honest mid) (g.D.Disk.contents old) (g.D.Disk.images old) (g.D.Disk.images new) (g.D.Disk.faults old)
    (g.D.Disk.faults mid) (g.D.Disk.faults new) c.serve_opened.result c.open.ensures.honest c.in-Ok.ensures.read c.in-Ok.ensures.alone
    (λ front place honest broken. c.in-Ok.ensures.tells_damage front place honest broken) c.open.ensures.faults_stay_counted
    c.serve_opened.ensures.run

pub returns-in-Ok-clause-every_moment : goal.returns-in-Ok-clause-every_moment
returns-in-Ok-clause-every_moment g c = λ kept honest all.
    let old = c.args.disk.now in
    let mid = c.open.new.disk in
    let new = c.serve_opened.new.disk in
    let before : Kept = record { journal = c.in-Ok.opened.journal; next = c.in-Ok.opened.next } in
    let same : before ≡ kept = c.in-Ok.ensures.alone kept honest all in
    subst (λ (k : Kept). LeavesOnly g.D.Disk.moment g.D.Disk.left_since old new (IsLeft k c.serve_opened.result.journal)) same
    (moments_over g.D.Disk.moment g.D.Disk.left_since old mid new before c.serve_opened.result c.serve_opened.ensures.run
    (subst (λ (k : Kept). LeavesOnly g.D.Disk.moment g.D.Disk.left_since old mid (StandsFor k)) (sym same)
    (c.in-Ok.ensures.any_moment kept honest all))
    (c.serve_opened.ensures.any_moment (subst IsTrue (sym c.open.ensures.honest) honest)))

pub returns-in-Err-clause-run : goal.returns-in-Err-clause-run
returns-in-Err-clause-run g c =
    let old = c.args.disk.now in
    let mid = c.open.new.disk in
    not_opened (g.I.Source.left c.args.input.now) (g.O.Sink.held c.args.output.now) (g.I.Source.faults c.args.input.now)
    (g.O.Sink.faults c.args.output.now) (g.D.Disk.is_honest old) (g.D.Disk.contents old) (g.D.Disk.images old) (g.D.Disk.images mid)
    (g.D.Disk.faults old) (g.D.Disk.faults mid) c.in-Err.refused c.not_served.result
    (record {
      status_is = c.not_served.ensures.status ∙ c.status_of.ensures;
      start_is = c.not_served.ensures.start;
      none = c.not_served.ensures.journal;
      all_sent = c.not_served.ensures.unsent;
    })
    (λ is. c.in-Err.ensures.failed_by_a_fault (ap Err is)) c.open.ensures.faults_stay_counted
    (λ place is honest. c.in-Err.ensures.damaged place (ap Err is) honest)
    (λ stands place honest all is. c.in-Err.ensures.undamaged stands place honest all (ap Err is))
    (λ front place honest broken. c.in-Err.ensures.tells_damage front place honest broken)
