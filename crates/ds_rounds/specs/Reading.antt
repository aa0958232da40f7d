-- What reading a round does, told of a reader before and after it.
use Rattle.std.specs.Prelude.{◌≡◌, ◌≢◌, ℕ, ◌+◌, ◌<◌, ◌≤◌, ◌⊎◌, List, [], ◌∷◌, ◌++◌, Bool, true, false, Option, Some, None, Result, Ok, Err}
use Rattle.std.specs.Prelude.{length, ⊤}
use Rattle.std.specs.Io.KnownBytes.{Consumes, IsAtEnd}
use Rattle.ds_base.specs.Limits.{most_input_bytes, most_round_lines}
use Rattle.ds_io.specs.Faults.{next_count}
use Rattle.ds_rounds.specs.Rounds.{NumberedLine, lines_of_round, rounds_in}
use Rattle.ds_rounds.specs.declared.round.Round.{Round}
use Rattle.ds_rounds.specs.declared.stage.RoundRefused.{RoundRefused}
use Rattle.ds_rounds.specs.declared.stage.RoundRefused.TheVariants as refused
use Rattle.ds_rounds.specs.declared.stage.Stage.{Stage}
use Rattle.ds_rounds.specs.declared.stage.Stage.TheVariants as stage

-- A reader of rounds: the number of the next line, the bytes that it has taken and not given yet, how many it has taken in
-- all, and whether it goes on.
pub record ReaderParts : Type 0 where
  pub number : ℕ
  pub buffered : List ℕ
  pub taken : ℕ
  pub stage : Stage

-- What holds of every reader: it has taken no more than is taken of an input, the lines that it has passed have a byte each,
-- and nothing is buffered where the limit is reached or where it met the end, which is below the limit.
pub record IsReader (reader : ReaderParts) : Type 0 where
  pub within : reader.taken ≤ most_input_bytes
  pub numbered : reader.number ≤ most_input_bytes + 1
  pub counted : reader.stage ≢ stage.Ended → reader.number + length reader.buffered ≤ reader.taken + 1
  pub at_the_limit : reader.taken ≡ most_input_bytes → reader.buffered ≡ []
  pub before_the_limit : reader.stage ≡ stage.Ended → reader.taken < most_input_bytes
  pub at_the_end : reader.stage ≡ stage.Ended → reader.buffered ≡ []

-- nothing is read yet
abbrev pub first_reader : ReaderParts
first_reader = record { number = 1; buffered = []; taken = 0; stage = stage.Reading }

-- What may stand behind the bytes that a reader has taken: anything while it reads, and nothing where it met the end. Of a
-- reader that refused nothing is told.
abbrev pub MayFollow : Stage → Bool → List ℕ → Type 0
MayFollow stage.Reading ended more = ⊤
MayFollow stage.Ended ended more = (ended ≡ true) × (more ≡ [])
MayFollow stage.Failed ended more = ⊥

-- Whatever stands behind the bytes that were taken: the rounds of what was buffered, read in this call and stands behind are
-- this one, and then those of what is buffered now and stands behind.
abbrev pub Gives : ReaderParts → List ℕ → List NumberedLine → ReaderParts → Type 0
Gives old read round new =
    (ended : Bool) (more : List ℕ) → MayFollow new.stage ended more
    → rounds_in ended old.number (old.buffered ++ (read ++ more)) ≡ round ∷ rounds_in ended new.number (new.buffered ++ more)

-- What a round that is given says: it is the first one, and the number of the next line has risen.
pub record GivesRound (old : ReaderParts) (read : List ℕ) (round : List NumberedLine) (new : ReaderParts) : Type 0 where
  pub first : Gives old read round new
  pub going : new.stage ≢ stage.Failed
  pub rises : old.number < new.number
  pub numbered : new.number ≤ most_input_bytes + 1

-- no round stands in what was buffered and read, of an input that has ended with it or goes on
abbrev pub GivesNone : ReaderParts → List ℕ → Bool → Type 0
GivesNone old read ended = rounds_in ended old.number (old.buffered ++ read) ≡ []

-- What an answer says of the bytes that were read in its call:
-- a round is the first of them; none comes where the input has ended and no line is left; a refusal for the outside or the
-- limit comes where none of their rounds has ended, and the limit is refused exactly where so many bytes were taken.
abbrev pub Outcome : ReaderParts → List ℕ → Result (Option Round) RoundRefused → ReaderParts → Type 0
Outcome old read (Ok (Some round)) new = GivesRound old read (lines_of_round round) new
Outcome old read (Ok None) new = GivesNone old read true × (new.stage ≡ stage.Ended) × (new.taken < most_input_bytes)
Outcome old read (Err refused.ReadFault) new = GivesNone old read false × (new.stage ≡ stage.Failed) × (new.taken < most_input_bytes)
Outcome old read (Err refused.InputLimit) new = GivesNone old read false × (new.stage ≡ stage.Failed) × (new.taken ≡ most_input_bytes)
Outcome old read (Err refused.NoMemory) new = (new.stage ≡ stage.Failed) × (new.taken < most_input_bytes)

-- One call: the bytes that it read, which its source had in front of what it has left, and of which there are none where a
-- round stood in the buffer, the input had ended, or an earlier call was refused; and what its answer says of them. Where it met
-- the end nothing is left.
pub record ReadsRound (old new : ReaderParts) (left_old left_new : Option (List ℕ))
    (result : Result (Option Round) RoundRefused) : Type 0 where
  pub read : List ℕ
  pub told : Consumes left_old left_new read
  pub counted : new.taken ≡ old.taken + length read
  pub at_once : (read ≡ []) ⊎ GivesNone old [] false
  pub past_the_end : old.stage ≡ stage.Ended → (read ≡ []) × (result ≡ Ok None)
  pub past_a_refusal : old.stage ≡ stage.Failed → read ≡ []
  pub to_the_end : old.stage ≡ stage.Reading → new.stage ≡ stage.Ended → IsAtEnd left_new
  pub outcome : Outcome old read result new

-- a source's count of faults after a call: one more exactly where a read failed
abbrev pub faults_after : Result (Option Round) RoundRefused → ℕ → ℕ
faults_after (Err refused.ReadFault) faults = next_count faults
faults_after _ faults = faults

-- a round has at least one line, no more than fit into one, and numbers that an input can have
pub record IsRound (round : Round) : Type 0 where
  pub some : 0 < length round.lines
  pub within : length round.lines ≤ most_round_lines
  pub numbers : round.first + length round.lines ≤ most_input_bytes + 1

-- What all calls of a reader have done so far, for whoever calls it to the end of an input: they read these bytes, which the
-- source had in front of what it has left, and gave these rounds; and whatever stands behind the bytes, the rounds of the
-- whole input are these, and then those of what is buffered and stands behind.
pub record HasRead (first now : Option (List ℕ)) (bytes : List ℕ) (rounds : List (List NumberedLine)) (reader : ReaderParts) : Type 0 where
  pub told : Consumes first now bytes
  pub at_the_end : reader.stage ≡ stage.Ended → IsAtEnd now
  pub going : reader.stage ≢ stage.Failed
  pub so_far : (ended : Bool) (more : List ℕ) → MayFollow reader.stage ended more
      → rounds_in ended 1 (bytes ++ more) ≡ rounds ++ rounds_in ended reader.number (reader.buffered ++ more)
