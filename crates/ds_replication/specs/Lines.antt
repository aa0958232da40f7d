-- The lines of a script, and the event of each: `propose MEMBER LOG POSITION ENTRY`, `deliver MESSAGE` or `restart MEMBER`, with single
-- spaces. Numbers are digits without zeros in front, and the entry is the rest of the line.
use Rattle.std.specs.Prelude.{ℕ, ◌+◌, ◌-◌, ◌*◌, ◌^◌, Bool, ◌&&◌, not, ◌==◌, nat_le, List, [], ◌∷◌, length, codes, bytes_eq}
use Rattle.std.specs.Prelude.{Option, Some, None, option_map, option_and_then, if◌then◌else◌}
use Rattle.std.specs.List.{after_first, before_first}
use Rattle.std.specs.Str.{is_utf8}
use Rattle.ds_paxos.specs.Forms.{is_well_formed}
use Rattle.ds_paxos.specs.declared.event.Event.{Event}
use Rattle.ds_paxos.specs.declared.event.Event.TheVariants.{Propose, Deliver, Restart}

-- ---- lines

-- the byte in front of the first line
abbrev pub with_byte : ℕ → List (List ℕ) → List (List ℕ)
with_byte byte [] = (byte ∷ []) ∷ []
with_byte byte (line ∷ more) = (byte ∷ line) ∷ more

-- The lines of a text: each ends in a newline, and the last one also with the text.
abbrev pub lines_of : List ℕ → List (List ℕ)
lines_of [] = []
lines_of (byte ∷ text) = if byte == 10 then [] ∷ lines_of text else with_byte byte (lines_of text)

abbrev pub is_newline : ℕ → Bool
is_newline byte = byte == 10

-- ---- numbers

abbrev pub is_digit : ℕ → Bool
is_digit byte = nat_le 48 byte && nat_le byte 57

-- the number that digits write behind those of n
abbrev pub digits_after : ℕ → List ℕ → Option ℕ
digits_after n [] = Some n
digits_after n (byte ∷ bytes) = if is_digit byte then digits_after (10 * n + (byte - 48)) bytes else None

-- digits, and no zero in front of others
abbrev pub numeral_of : List ℕ → Option ℕ
numeral_of [] = None
numeral_of (byte ∷ bytes) = if byte == 48 && not (length bytes == 0) then None else digits_after 0 (byte ∷ bytes)

abbrev pub at_most : ℕ → Option ℕ → Option ℕ
at_most most None = None
at_most most (Some n) = if nat_le n most then Some n else None

abbrev pub greatest_u32 : ℕ
greatest_u32 = 2 ^ 32 - 1

abbrev pub greatest_u64 : ℕ
greatest_u64 = 2 ^ 64 - 1

abbrev pub number_of : ℕ → List ℕ → Option ℕ
number_of most bytes = at_most most (numeral_of bytes)

-- ---- words

abbrev pub is_space : ℕ → Bool
is_space byte = byte == 32

-- what stands before the first space, or all
abbrev pub first_word : List ℕ → List ℕ
first_word = before_first is_space

-- what stands behind it
abbrev pub rest_of : List ℕ → List ℕ
rest_of = after_first is_space

-- ---- events

-- an event whose position and entry have their form
abbrev pub well_formed : Event → Option Event
well_formed event = if is_well_formed event then Some event else None

-- an entry is a text
abbrev pub proposing : ℕ → ℕ → ℕ → List ℕ → Option Event
proposing member log position entry = if is_utf8 entry then well_formed (Propose member log position entry) else None

abbrev pub propose_at : ℕ → ℕ → List ℕ → Option Event
propose_at member log rest = option_and_then (λ position. proposing member log position (rest_of rest)) (number_of greatest_u64 (first_word rest))

abbrev pub propose_in : ℕ → List ℕ → Option Event
propose_in member rest = option_and_then (λ log. propose_at member log (rest_of rest)) (number_of greatest_u32 (first_word rest))

abbrev pub propose_of : List ℕ → Option Event
propose_of rest = option_and_then (λ member. propose_in member (rest_of rest)) (number_of greatest_u32 (first_word rest))

abbrev pub deliver_of : List ℕ → Option Event
deliver_of rest = option_map (λ message. Deliver message) (number_of greatest_u64 rest)

abbrev pub restart_of : List ℕ → Option Event
restart_of rest = option_map (λ member. Restart member) (number_of greatest_u32 rest)

-- the event of a line; none where the line leaves the form
abbrev pub event_of : List ℕ → Option Event
event_of line = if bytes_eq (first_word line) (codes "propose") then propose_of (rest_of line)
    else (if bytes_eq (first_word line) (codes "deliver") then deliver_of (rest_of line)
    else (if bytes_eq (first_word line) (codes "restart") then restart_of (rest_of line) else None))
