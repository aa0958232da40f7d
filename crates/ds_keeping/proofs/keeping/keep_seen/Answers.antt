use Rattle.std.proofs.Common.{◌≡◌, ◌+◌, ◌≤◌, ◌++◌, length, sym, subst, ◌∙◌, arith}
use mathlib.Core.List.{IsPrefix}
use Rattle.ds_disk.specs.CrashLaws.{weakened}
use Rattle.ds_keep.specs.Keepers.{IsSettled, KeeperParts, MayAppend, StandsForEither, batch_of}
use Rattle.ds_kept_file.specs.Files.{Kept, with_batch}
use Rattle.ds_log.specs.Conflicts.{IsSerial}
use Rattle.ds_store_passes.proofs.Growing.{begins_through}
use Rattle.ds_keeping.specs.Holding.{kept_at}
use Rattle.ds_keeping.specs.Moments.{IsBetween}
use Rattle.ds_keeping.proofs.Between.{between_first, either_between, since_behind, since_few, untouched}
use Rattle.ds_keeping.proofs.Lists.{if_both}
use Rattle.ds_keeping.proofs.keeping.keep_seen.Goals as goal

pub append_since-requires-clause-few : goal.append_since-requires-clause-few
append_since-requires-clause-few g c = since_few _ _ _ _ _ _ c.in-Ok.ensures.since c.in-Ok.ensures.serial

pub returns-in-Ok-clause-settled : goal.returns-in-Ok-clause-settled
returns-in-Ok-clause-settled g c =
    let p = c.args.follower.now.pass in
    let q = c.commits_after.new.pass in
    let since = c.in-Ok.since in
    let Settled : KeeperParts → Kept → g.row.D.Denot → Type 0 = IsSettled g.D.Disk.is_honest g.D.Disk.contents g.D.Disk.images in
    if_both c.append_since.result
    (λ k. (k.commits ≡ c.args.keeper.commits + length since.commits) × (k.next ≡ since.next))
    (λ k. (kept : Kept) → Settled c.args.keeper kept c.args.disk.now → MayAppend kept since.commits since.next
    → Settled k (with_batch kept (batch_of since.commits since.next)) c.append_since.new.disk)
    (λ k. (kept : Kept) → Settled c.args.keeper kept c.args.disk.now → IsPrefix kept.journal p.journal
    → Settled k (kept_at q k.next) c.append_since.new.disk)
    (λ k numbers later kept settled begins.
    let whole : kept.journal ++ since.commits ≡ q.journal =
    since_behind _ _ _ _ _ _ c.in-Ok.ensures.since kept.journal begins (c.kept.ensures ∙ settled.commits) in
    subst (λ (now : Kept). Settled k now c.append_since.new.disk)
    (λ i. record { journal = whole i; next = (sym numbers.1) i })
    (later kept settled (subst IsSerial (sym whole) c.in-Ok.ensures.serial, c.in-Ok.ensures.issued)))
    c.append_since.ensures.numbers c.append_since.ensures.settled

pub returns-in-Ok-clause-any_moment : goal.returns-in-Ok-clause-any_moment
returns-in-Ok-clause-any_moment g c = λ kept settled begins.
    let q = c.commits_after.new.pass in
    let since = c.in-Ok.since in
    let whole : kept.journal ++ since.commits ≡ q.journal =
    since_behind _ _ _ _ _ _ c.in-Ok.ensures.since kept.journal begins (c.kept.ensures ∙ settled.commits) in
    let rises : kept.next ≤ since.next =
    omega (arith, settled.next, c.requires.next, c.in-Ok.ensures.since.looked.read.next, c.in-Ok.ensures.since.next_is) in
    weakened g.D.Disk.moment g.D.Disk.left_since c.args.disk.now c.append_since.new.disk
    (StandsForEither kept (batch_of since.commits since.next)) (IsBetween kept q.journal)
    (c.append_since.ensures.any_moment kept settled (subst IsSerial (sym whole) c.in-Ok.ensures.serial, c.in-Ok.ensures.issued))
    (λ image is. either_between kept since.commits q.journal since.next image whole rises is)

pub returns-in-Err-clause-any_moment : goal.returns-in-Err-clause-any_moment
returns-in-Err-clause-any_moment g c = λ kept settled begins.
    let p = c.args.follower.now.pass in
    let q = c.commits_after.new.pass in
    untouched g.D.Disk.is_honest g.D.Disk.contents g.D.Disk.images g.D.Disk.moment g.D.Disk.left_since c.args.keeper kept c.args.disk.now
    (IsBetween kept q.journal) g.met.D.Disk.only_now settled
    (λ image stands.
    between_first kept q.journal image (begins_through kept.journal p.journal q.journal begins c.in-Err.ensures.read.journal) stands)
