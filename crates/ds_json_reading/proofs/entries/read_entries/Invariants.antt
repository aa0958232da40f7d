use Rattle.std.proofs.Common.{◌≡◌}
use Rattle.serde_json.specs.View.{members_view}
use Rattle.ds_json_reading.specs.Reading.{each_member_of}
use Rattle.ds_json_reading.proofs.EntriesLemmas.{entries_after}
use Rattle.ds_json_reading.proofs.entries.read_entries.Given as goal

abbrev pub invariant-loop-name : goal.invariant-loop-name
invariant-loop-name g l =
    each_member_of (g.F.EntryForm.reads l.form) (members_view l.fn.members.entries) ≡ entries_after (g.F.EntryForm.reads l.form) l.items.items (members_view l.name-iterator)
