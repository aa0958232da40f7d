use Rattle.std.proofs.Common.{◌≡◌, ap, subst}
use Rattle.ds_disk.specs.Crashes.{LeavesOnly}
use Rattle.ds_kept_file.specs.Files.{Kept}
use Rattle.ds_store.specs.Passes.{PassParts}
use Rattle.ds_keeping.specs.Holding.{kept_at}
use Rattle.ds_keeping.specs.Moments.{IsLeft}
use Rattle.ds_keeping.proofs.Between.{left_none, untouched}
use Rattle.ds_durable.proofs.running.run_opened.Goals as goal

pub returns-in-Ok-clause-any_moment : goal.returns-in-Ok-clause-any_moment
returns-in-Ok-clause-any_moment g c = λ honest.
    let origin = c.args.origin.kept in
    let pass = c.in-Ok.ready.pass in
    let found : Kept = record { journal = origin.journal; next = origin.next } in
    let same : kept_at pass origin.keeper.next ≡ found = λ i. record {
      journal = ap (λ (p : PassParts). p.journal) c.in-Ok.ensures.follows i;
      next = c.requires.numbers.1 i;
    } in
    subst (λ (k : Kept). LeavesOnly g.D.Disk.moment g.D.Disk.left_since c.args.disk.now c.run_ready.new.disk
    (IsLeft k c.run_ready.result.journal)) same
    (c.run_ready.ensures.any_moment honest)

pub returns-in-Err-clause-any_moment : goal.returns-in-Err-clause-any_moment
returns-in-Err-clause-any_moment g c = λ honest.
    let origin = c.args.origin.kept in
    let found : Kept = record { journal = origin.journal; next = origin.next } in
    untouched g.D.Disk.is_honest g.D.Disk.contents g.D.Disk.images g.D.Disk.moment g.D.Disk.left_since origin.keeper found c.args.disk.now
    (IsLeft found c.not_served.result.journal) g.met.D.Disk.only_now (c.requires.settled honest)
    (λ image stands. left_none found c.not_served.result.journal c.not_served.ensures.journal image stands)
