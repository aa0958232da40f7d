use Rattle.std.proofs.Common.{◌≡◌, sym, ap, ◌∙◌, arith}
use Rattle.ds_journal.specs.Books.{BookParts}
use Rattle.ds_log.specs.Conflicts.{conflict_of}
use Rattle.ds_log.specs.JournalLaws.{AreIssued-rises}
use Rattle.ds_store_journal.proofs.Appending.{conflicted}
use Rattle.ds_store_journal.proofs.desk.JournalDesk.commit.Goals as goal

pub returns-in-Err-clause-conflict : goal.returns-in-Err-clause-conflict
returns-in-Err-clause-conflict g c =
    conflicted c.args.pass.now c.show.new.pass c.args.self.now.book.journal c.args.draft.touched c.in-Err.conflict c.show.ensures.pass
    c.show.ensures.grown c.requires.place
    (ap (λ (b : BookParts). conflict_of b.journal c.args.draft.touched) (sym c.show.ensures.desk) ∙ sym c.in-Err.ensures)

pub returns-in-Err-clause-read : goal.returns-in-Err-clause-read
returns-in-Err-clause-read g c = c.show.ensures.looked.read

pub returns-then-is_err-clause-read : goal.returns-then-is_err-clause-read
returns-then-is_err-clause-read g c = c.show.ensures.looked.read

pub append-requires-clause-issued : goal.append-requires-clause-issued
append-requires-clause-issued g c =
    let same : c.show.new.self.book.next ≡ c.args.self.now.book.next = ap (λ (b : BookParts). b.next) c.show.ensures.desk in
    AreIssued-rises c.args.pass.now.next c.make_room.new.self.next c.args.draft.writes
    (omega (arith, same, c.make_room.ensures.next, c.requires.caught_up)) c.requires.issued
