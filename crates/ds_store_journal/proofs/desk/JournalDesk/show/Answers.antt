use Rattle.std.proofs.Common.{◌≡◌, List, length, ap, arith}
use Rattle.ds_log.specs.declared.Commit.{Commit}
use Rattle.ds_store_passes.specs.Passes.{PassParts}
use Rattle.ds_store_journal.proofs.Appending.{looked}
use Rattle.ds_store_journal.proofs.desk.JournalDesk.show.Goals as goal

pub returns-clause-looked : goal.returns-clause-looked
returns-clause-looked g c =
    let published = c.args.self.now.writer.writer.published in
    let same = c.see_journal.ensures.pass in
    let long : length published ≡ length c.args.self.now.book.journal = ap (λ (cs : List Commit). length cs) c.args.self.now.told.0 in
    let place : c.see_journal.new.self.place ≡ length published = ap (λ (s : PassParts). s.place) same in
    looked c.args.pass.now c.see_journal.new.self published c.len-place.result same c.see_journal.ensures.grown
    (omega (arith, long, c.requires)) (omega (arith, long, place, c.len-place.ensures.len))
