use Rattle.std.proofs.Common.{◌∙◌, append_assoc}
use Rattle.json.specs.Print.{escape_byte}
use Rattle.ds_journal_text.proofs.Appending.{on_ok}
use Rattle.ds_journal_text.proofs.writing.append_commit.Goals as goal

pub returns : goal.returns
unfolding escape_byte
returns c =
    on_ok c.append-5.result
    (λ e. e ∙ rw (
      c.in_ok-append_writes.ensures,
      c.as_slice-2.ensures,
      c.in_ok-append-4.ensures.ok,
      c.in_ok-append_touches.ensures,
      c.as_slice.ensures,
      c.in_ok-append-3.ensures.ok,
      c.in_ok-append_number-2.ensures,
      c.in_ok-append-2.ensures.ok,
      c.in_ok-append_number.ensures,
      c.from.ensures,
      c.in_ok-append.ensures.ok,
    ) (simp append_assoc))
    c.append-5.ensures.ok
