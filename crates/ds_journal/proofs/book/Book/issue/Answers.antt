use Rattle.std.proofs.Common.{◌+◌, refl, arith}
use Rattle.ds_journal.proofs.Kept.{raised}
use Rattle.ds_journal.proofs.book.Book.issue.Goals as goal

pub invariant_of-self : goal.invariant_of-self
invariant_of-self c =
    let book = c.self.invariant.0 in
    let left = book.left in
    let fits = c.in_ok-check_left.ensures.exact.0 refl in (
      raised c.self.inside.journal.items c.self.inside.next (c.self.inside.next + c.args.count) book (omega arith)
          (omega (arith, fits)),
      c.self.invariant.1,
    )
