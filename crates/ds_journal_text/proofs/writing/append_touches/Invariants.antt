-- What was put, and what is left, makes the whole text.
use Rattle.std.proofs.Common.{◌≡◌, ◌++◌, drop, false}
use Rattle.serde_json.specs.Written.{items_text}
use Rattle.ds_journal_text.specs.Texts.{touch_items}
use Rattle.ds_journal_text.proofs.writing.append_touches.Given as goal

abbrev pub invariant-loop-touch : goal.invariant-loop-touch
invariant-loop-touch l = l.line.bytes ++ items_text l.later (touch_items (drop l.touch-index l.touches)) ≡ l.initial.line.bytes ++ items_text false (touch_items l.touches)
