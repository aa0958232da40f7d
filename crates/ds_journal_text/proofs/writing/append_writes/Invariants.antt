-- What was put, and what is left, makes the whole text.
use Rattle.std.proofs.Common.{◌≡◌, ◌++◌, drop, false}
use Rattle.serde_json.specs.Written.{items_text}
use Rattle.ds_journal_text.specs.Texts.{write_items}
use Rattle.ds_journal_text.proofs.writing.append_writes.Given as goal

abbrev pub invariant-loop-write : goal.invariant-loop-write
invariant-loop-write l = l.line.bytes ++ items_text l.later (write_items (drop l.write-index l.writes)) ≡ l.initial.line.bytes ++ items_text false (write_items l.writes)
