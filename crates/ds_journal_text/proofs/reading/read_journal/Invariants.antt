-- What was read and any commits of the rest are the text's; and so is the first wrong line of the rest.
use Rattle.std.proofs.Common.{◌+◌, ◌≤◌, length}
use Rattle.ds_journal_text.proofs.JournalReading.{IsReadTo, IsWrongTo}
use Rattle.ds_journal_text.proofs.reading.read_journal.Given as goal

abbrev pub invariant-lines : goal.invariant-lines
invariant-lines l = record {
  read : IsReadTo l.number l.rest l.commits.items l.text;
  wrong : IsWrongTo l.number l.rest l.text;
  counted : l.number + length l.rest ≤ length l.text + 1;
}

abbrev pub decreases-lines : goal.decreases-lines
decreases-lines l = length l.rest
