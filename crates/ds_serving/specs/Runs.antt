-- Which rounds a run ran, and what of their replies was written, by how it ended.
use Rattle.std.specs.Prelude.{◌≡◌, ℕ, ◌+◌, ◌<◌, ◌⊎◌, List, [], ◌++◌, Bool, true, false, Option, Some, None, IfSome, IsSomeAnd, length, ⊤}
use Rattle.std.specs.Io.KnownBytes.{Appends}
use Rattle.ds_base.specs.Limits.{most_input_bytes}
use Rattle.ds_io.specs.Faults.{Rose, next_count}
use Rattle.ds_rounds.specs.Rounds.{NumberedLine, ended_rounds, rounds_in, rounds_of_input}
use Rattle.ds_words.specs.declared.status.Status.{Status}
use Rattle.ds_words.specs.declared.status.Status.TheVariants as status

-- these rounds are the first of them, with so many behind
abbrev pub AreFirst : List (List NumberedLine) → List (List NumberedLine) → List (List NumberedLine) → Type 0
AreFirst rounds behind all = all ≡ rounds ++ behind

-- The rounds that were run, by how the run ended, of an input of which these bytes were read, and whose end was met or not: all
-- of the input's with Done; with a fault of reading and at the limit all that have ended within the bytes; where a write failed the
-- first ones. Where memory ran out they are the first ones too, and some round wasn't run: one of them, or one that was still
-- being read, with fewer bytes than are taken of an input. With the other statuses nothing was read and no round was run.
abbrev pub WereRun : Status → Bool → List ℕ → List (List NumberedLine) → Type 0
WereRun status.Done ended read rounds = (ended ≡ true) × (length read < most_input_bytes) × (rounds ≡ rounds_of_input read)
WereRun status.ReadFault ended read rounds = (length read < most_input_bytes) × (rounds ≡ ended_rounds read)
WereRun status.InputLimit ended read rounds = (length read ≡ most_input_bytes) × (rounds ≡ ended_rounds read)
WereRun status.WriteFault ended read rounds = (behind : List (List NumberedLine)) × AreFirst rounds behind (rounds_in ended 1 read)
WereRun status.NoMemory ended read rounds =
    (behind : List (List NumberedLine)) × AreFirst rounds behind (rounds_in ended 1 read)
    × ((0 < length behind) ⊎ ((ended ≡ false) × (length read < most_input_bytes)))
WereRun _ ended read rounds = (read ≡ []) × (rounds ≡ [])

-- of a text a sink took the first bytes, and these are the rest: nothing is lost and nothing doubled; of a sink that doesn't tell
-- what it holds, nothing is said
abbrev pub Wrote : Option (List ℕ) → Option (List ℕ) → List ℕ → List ℕ → Type 0
Wrote old new unsent text = (taken : List ℕ) × Appends old new taken × (text ≡ taken ++ unsent)

-- what the words and their index file set up, in a run that began to read, and in any that ran a round
abbrev pub WasSetUp : Status → List (List NumberedLine) → Type 0 → Type 0
WasSetUp status.Usage rounds set_up = ⊤
WasSetUp (status.IndexFile line) rounds set_up = ⊤
WasSetUp status.FileFault rounds set_up = ⊤
WasSetUp status.NoMemory rounds set_up = (rounds ≡ []) ⊎ set_up
WasSetUp _ rounds set_up = set_up

-- a source's count of faults after a run: one more exactly where a read failed
abbrev pub read_faults : Status → ℕ → ℕ
read_faults status.ReadFault faults = next_count faults
read_faults _ faults = faults

-- a sink's count of faults after a run: one more exactly where a write failed
abbrev pub write_faults : Status → ℕ → ℕ
write_faults status.WriteFault faults = next_count faults
write_faults _ faults = faults

-- ---- how a run ends

-- a status of a run that began to read
abbrev pub HasBegun : Status → Type 0
HasBegun status.Usage = ⊥
HasBegun (status.IndexFile line) = ⊥
HasBegun status.FileFault = ⊥
HasBegun _ = ⊤

-- so many bytes were taken of a source that tells what it has left
abbrev pub HasTaken : ℕ → Option (List ℕ) → Option (List ℕ) → Type 0
HasTaken n old new = IfSome old (λ before. IsSomeAnd new (λ after. length before ≡ n + length after))

-- a source that tells that it has fewer bytes left than so many
abbrev pub IsBelow : ℕ → Option (List ℕ) → Type 0
IsBelow limit None = ⊥
IsBelow limit (Some bytes) = length bytes < limit

-- a count of faults that didn't rise
abbrev pub IsSteady : ℕ → ℕ → Type 0
IsSteady old new = Rose old new → ⊥
