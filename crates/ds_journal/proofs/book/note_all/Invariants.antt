use Rattle.ds_journal.proofs.Noting.{IsNoting}
use Rattle.ds_journal.proofs.book.note_all.Given as goal

abbrev pub invariant-loop-group : goal.invariant-loop-group
invariant-loop-group l =
    (goal.iterator-loop-group).can_next l.group-iterator × (goal.iterator-loop-group).is_finite l.group-iterator
    × IsNoting l.fn.groups.items l.group-iterator.rest.items l.commit l.initial.heads l.heads
