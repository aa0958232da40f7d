use Rattle.std.proofs.Common.{◌≡◌, ◌+◌, ◌≤◌, sym, ap, subst, arith}
use Rattle.ds_journal.specs.Books.{BookParts}
use Rattle.ds_journal.specs.Drafts.{renumbered_commit}
use Rattle.ds_log.specs.declared.Commit.{Commit}
use Rattle.ds_log.specs.Ids.{AreIssued}
use Rattle.ds_log.specs.JournalLaws.{AreIssued-rises}
use Rattle.ds_store_passes.specs.Passes.{PassParts}
use Rattle.ds_store_journal.proofs.Appending.{read-next}
use Rattle.ds_store_passes.proofs.Seeing.{HasRead-through}
use Rattle.ds_store_journal.proofs.desk.JournalDesk.commit_new.Goals as goal

pub returns-then-id-eq-MAX_ID-clause-read : goal.returns-then-id-eq-MAX_ID-clause-read
returns-then-id-eq-MAX_ID-clause-read g c =
    HasRead-through c.args.pass.now c.show.new.pass c.look.new.self c.show.ensures.looked.read
    (read-next c.show.new.pass c.look.new.self c.look.ensures.pass c.look.ensures.risen)

pub returns-then-is_err-clause-read : goal.returns-then-is_err-clause-read
returns-then-is_err-clause-read g c =
    HasRead-through c.args.pass.now c.show.new.pass c.look.new.self c.show.ensures.looked.read
    (read-next c.show.new.pass c.look.new.self c.look.ensures.pass c.look.ensures.risen)

pub append-requires-clause-issued : goal.append-requires-clause-issued
append-requires-clause-issued g c =
    let id = c.next-id.result in
    let shown : c.show.new.pass.next ≡ c.args.pass.now.next = ap (λ (s : PassParts). s.next) c.show.ensures.pass in
    let low : c.args.pass.now.next ≤ id = omega (arith, shown, c.look.ensures.risen, c.next-id.ensures.value) in
    let raised : c.raise.new.self.next ≡ c.look_up_to-found.result = ap (λ (b : BookParts). b.next) c.raise.ensures in
    let rise : id + 1 ≤ c.raise.new.self.next = omega (arith, raised, c.look_up_to-found.ensures.risen.1) in
    subst (λ (d : Commit). AreIssued c.raise.new.self.next d.writes) (sym c.renumber.ensures)
    (AreIssued-rises (id + 1) c.raise.new.self.next (renumbered_commit c.args.draft id).writes rise (c.requires.issued id low))
