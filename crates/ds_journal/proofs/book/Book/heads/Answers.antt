use Rattle.std.proofs.Common.{◌∙◌, ap}
use Rattle.ds_log.specs.Conflicts.{conflict_of}
use Rattle.ds_journal.specs.Books.{BookParts}
use Rattle.ds_journal.proofs.Kept.{same_conflict}
use Rattle.ds_journal.proofs.book.Book.heads.Goals as goal

pub returns : goal.returns
returns c = λ touched.
    same_conflict c.self.inside.journal.items c.self.inside.heads c.self.invariant.1 touched
    ∙ ap (λ (b : BookParts). conflict_of b.journal touched) c.self.view_is
