-- The form of an event: positions are counted from 1, and an entry is a line.
use Rattle.std.specs.Prelude.{ℕ, Bool, true, ◌&&◌, not, ◌==◌, nat_le, List, length}
use Rattle.std.specs.List.{list_any}
use Rattle.ds_paxos.specs.declared.event.Event.{Event}
use Rattle.ds_paxos.specs.declared.event.Event.TheVariants.{Propose, Deliver, Restart}

-- the most bytes of an entry
abbrev pub most_entry_bytes : ℕ
most_entry_bytes = 1500

-- 1 to 1,500 bytes without a newline
abbrev pub is_entry : List ℕ → Bool
is_entry entry = nat_le 1 (length entry) && (nat_le (length entry) most_entry_bytes && not (list_any (λ byte. byte == 10) entry))

abbrev pub is_well_formed : Event → Bool
is_well_formed (Propose member log position entry) = nat_le 1 position && is_entry entry
is_well_formed (Deliver message) = true
is_well_formed (Restart member) = true
