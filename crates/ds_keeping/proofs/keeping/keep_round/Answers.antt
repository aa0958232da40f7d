use Rattle.std.proofs.Common.{◌≤◌, arith}
use Rattle.std.specs.Prelude.{IsTrue}
use mathlib.Core.List.{IsPrefix}
use Rattle.ds_keep.specs.Keepers.{IsSettled, KeeperParts}
use Rattle.ds_kept_file.specs.Files.{Kept}
use Rattle.ds_store_passes.proofs.Seeing.{HasRead-through}
use Rattle.ds_keeping.specs.Holding.{AreCovered, kept_at}
use Rattle.ds_keeping.proofs.Covering.{covered_up_to}
use Rattle.ds_keeping.proofs.Lists.{begins_no_longer, if_ok}
use Rattle.ds_keeping.proofs.keeping.keep_round.Goals as goal

pub keep_seen-requires-clause-within : goal.keep_seen-requires-clause-within
keep_seen-requires-clause-within g c =
    omega (arith, c.requires.stands.commits, begins_no_longer _ _ c.meet.ensures.read.journal)

pub returns-clause-read : goal.returns-clause-read
returns-clause-read g c =
    HasRead-through c.args.follower.now.pass c.meet.new.pass c.keep_seen.new.follower.pass c.meet.ensures.read c.keep_seen.ensures.read

pub returns-clause-rises : goal.returns-clause-rises
returns-clause-rises g c =
    if_ok c.keep_seen.result
    (λ k. (c.meet.new.pass.place ≤ k.commits) × (c.meet.new.pass.next ≤ k.next))
    (λ k. (c.args.keeper.commits ≤ k.commits) × (c.args.keeper.next ≤ k.next))
    (λ k reached. (
      omega (arith, c.requires.stands.place, c.meet.ensures.read.place, reached.0),
      omega (arith, c.requires.stands.next, c.meet.ensures.read.next, reached.1),
    ))
    c.keep_seen.ensures.reached

pub returns-clause-covered : goal.returns-clause-covered
returns-clause-covered g c =
    let shown = c.shown-shown in
    if_ok c.keep_seen.result
    (λ k. (c.meet.new.pass.place ≤ k.commits) × (c.meet.new.pass.next ≤ k.next)) (λ k. AreCovered k.commits k.next c.args.sessions.now)
    (λ k reached.
    covered_up_to shown.result.place shown.result.next k.commits k.next c.args.sessions.now
    (omega (arith, c.meet.ensures.place, reached.0)) (omega (arith, c.meet.ensures.next, reached.1)) shown.ensures.commits
    shown.ensures.draws)
    c.keep_seen.ensures.reached

pub returns-clause-settled : goal.returns-clause-settled
returns-clause-settled g c =
    let old = c.args.follower.now.pass in
    let Settled : KeeperParts → Kept → g.row.D.Denot → Type 0 = IsSettled g.D.Disk.is_honest g.D.Disk.contents g.D.Disk.images in
    if_ok c.keep_seen.result
    (λ k. (kept : Kept) → Settled c.args.keeper kept c.args.disk.now → IsPrefix kept.journal c.meet.new.pass.journal
    → Settled k (kept_at c.keep_seen.new.follower.pass k.next) c.keep_seen.new.disk)
    (λ k. IsTrue (g.D.Disk.is_honest c.args.disk.now)
    → Settled k (kept_at c.keep_seen.new.follower.pass k.next) c.keep_seen.new.disk)
    (λ k settles honest. settles (kept_at old c.args.keeper.next) (c.requires.settled honest) c.meet.ensures.read.journal)
    c.keep_seen.ensures.settled

pub returns-clause-any_moment : goal.returns-clause-any_moment
returns-clause-any_moment g c = λ honest.
    c.keep_seen.ensures.any_moment (kept_at c.args.follower.now.pass c.args.keeper.next) (c.requires.settled honest)
    c.meet.ensures.read.journal
