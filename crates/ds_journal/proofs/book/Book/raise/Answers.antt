use Rattle.std.proofs.Common.{◌≤◌, ap, subst, sym}
use Rattle.ds_journal.specs.Books.{BookParts}
use Rattle.ds_journal.proofs.Kept.{raised}
use Rattle.ds_journal.proofs.book.Book.raise.Goals as goal

pub invariant_of-self : goal.invariant_of-self
invariant_of-self c =
    let viewed = ap (λ (b : BookParts). b.next) c.self.view_is in
    let rise = subst (λ n. n ≤ c.args.next) (sym viewed) c.requires.rises in
    (raised c.self.inside.journal.items c.self.inside.next c.args.next c.self.invariant.0 rise c.requires.bounded, c.self.invariant.1)
