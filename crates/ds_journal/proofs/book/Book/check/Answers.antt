use Rattle.std.proofs.Common.{◌∙◌, ap}
use Rattle.ds_log.specs.declared.Commit.{Commit}
use Rattle.ds_log.specs.Conflicts.{conflict_of}
use Rattle.ds_journal.specs.Books.{BookParts}
use Rattle.ds_journal.proofs.Kept.{same_conflict}
use Rattle.ds_journal.proofs.book.Book.check.Goals as goal

pub returns : goal.returns
returns c =
    let touched = c.as_slice.ensures ∙ ap (λ (d : Commit). d.touched) c.commit.ensures.value in
    c.check_touches.ensures
    ∙ same_conflict c.self.inside.journal.items c.self.inside.heads c.self.invariant.1 c.as_slice.result.now
    ∙ ap (conflict_of c.self.inside.journal.items) touched
    ∙ ap (λ (b : BookParts). conflict_of b.journal c.args.draft.now.touched) c.self.view_is
