-- How a run ends, and why.
use Rattle.std.specs.Prelude.{◌≡◌, ℕ, ◌-◌, ◌<◌, List, [], ◌∷◌, Option, Some, None, Ok, Err, length, take, nat_le, ◌&&◌, ⊤, if◌then◌else◌}
use Rattle.std.specs.Io.KnownBytes.{Appends, Consumes, IsAtEnd, Keeps}
use Rattle.ds_io.specs.Faults.{Rose, next_count}
use Rattle.ds_paxos.specs.Worlds.{WorldParts}
use Rattle.ds_replication.specs.Printing.{world_text}
use Rattle.ds_replication.specs.Scripts.{run_script}
use Rattle.ds_replication.specs.declared.status.ReplicaStatus.{ReplicaStatus}
use Rattle.ds_replication.specs.declared.status.ReplicaStatus.TheVariants as status

-- how many members: the words are one digit from 1 to 9
abbrev pub members_in : List ℕ → Option ℕ
members_in (digit ∷ []) = if nat_le 49 digit && nat_le digit 57 then Some (digit - 48) else None
members_in _ = None

abbrev pub members_asked : List (List ℕ) → Option ℕ
members_asked (word ∷ []) = members_in word
members_asked _ = None

-- so many bytes are taken of an input at most
abbrev pub most_script_bytes : ℕ
most_script_bytes = 67108864

-- the input's count of faults after a run: one more exactly where a read failed
abbrev pub read_faults : ReplicaStatus → ℕ → ℕ
read_faults status.ReadFault faults = next_count faults
read_faults _ faults = faults

-- the output's: one more exactly where a write failed
abbrev pub write_faults : ReplicaStatus → ℕ → ℕ
write_faults status.WriteFault faults = next_count faults
write_faults _ faults = faults

-- the whole input was read, and it was below the limit
pub record IsRead (left rest : Option (List ℕ)) (text : List ℕ) : Type 0 where
  pub told : Consumes left rest text
  pub whole : IsAtEnd rest
  pub below : length text < most_script_bytes

-- a script whose events all happened, and the world after them
pub record HasRun (n : ℕ) (left rest : Option (List ℕ)) (w : WorldParts) : Type 0 where
  pub text : List ℕ
  pub read : IsRead left rest text
  pub ran : run_script n text ≡ Ok w

-- why the input couldn't be read, or not to its end
abbrev pub IsUnread : Option (List ℕ) → Option (List ℕ) → ℕ → ℕ → ReplicaStatus → Type 0
IsUnread left rest before after status.ReadFault = Rose before after
IsUnread left rest before after status.NoMemory = ⊤
IsUnread left rest before after status.InputLimit = (text : List ℕ) × Consumes left rest text × (length text ≡ most_script_bytes)
IsUnread left rest before after _ = ⊥

-- why there is nothing to print
abbrev pub IsUnrun : ℕ → Option (List ℕ) → Option (List ℕ) → ℕ → ℕ → ReplicaStatus → Type 0
IsUnrun n left rest before after (status.Script line) = (text : List ℕ) × IsRead left rest text × (run_script n text ≡ Err line)
IsUnrun n left rest before after ended = IsUnread left rest before after ended

-- what is to be printed
abbrev pub HasText : ℕ → Option (List ℕ) → Option (List ℕ) → List ℕ → Type 0
HasText n left rest text = (w : WorldParts) × HasRun n left rest w × (text ≡ world_text w)

-- how printing a text ends: it is written whole, or the output failed and has taken a beginning
abbrev pub IsPrinted : List ℕ → Option (List ℕ) → Option (List ℕ) → ℕ → ℕ → ReplicaStatus → Type 0
IsPrinted text held now before after status.Done = Appends held now text
IsPrinted text held now before after status.WriteFault = Rose before after × ((sent : ℕ) × Appends held now (take sent text))
IsPrinted text held now before after _ = ⊥

-- Why a run of n members ended so. What is told of the input and the output are the bytes before and after it and the counts of faults.
abbrev pub IsEnded : ℕ → Option (List ℕ) → Option (List ℕ) → ℕ → ℕ → Option (List ℕ) → Option (List ℕ) → ℕ → ℕ → ReplicaStatus → Type 0
IsEnded n left rest reads_before reads_after held now writes_before writes_after status.Done =
    (w : WorldParts) × HasRun n left rest w × Appends held now (world_text w)
IsEnded n left rest reads_before reads_after held now writes_before writes_after status.Usage = ⊥
IsEnded n left rest reads_before reads_after held now writes_before writes_after (status.Script line) =
    ((text : List ℕ) × IsRead left rest text × (run_script n text ≡ Err line)) × Keeps held now
IsEnded n left rest reads_before reads_after held now writes_before writes_after status.ReadFault = Rose reads_before reads_after × Keeps held now
IsEnded n left rest reads_before reads_after held now writes_before writes_after status.WriteFault =
    (w : WorldParts) × HasRun n left rest w × Rose writes_before writes_after × ((sent : ℕ) × Appends held now (take sent (world_text w)))
IsEnded n left rest reads_before reads_after held now writes_before writes_after status.NoMemory = Keeps held now
IsEnded n left rest reads_before reads_after held now writes_before writes_after status.InputLimit =
    ((text : List ℕ) × Consumes left rest text × (length text ≡ most_script_bytes)) × Keeps held now

-- the words leave their form exactly with that status, and then nothing was read or written
abbrev pub EndsBy : Option ℕ → Option (List ℕ) → Option (List ℕ) → ℕ → ℕ → Option (List ℕ) → Option (List ℕ) → ℕ → ℕ → ReplicaStatus → Type 0
EndsBy None left rest reads_before reads_after held now writes_before writes_after ended =
    (ended ≡ status.Usage) × Keeps left rest × Keeps held now
EndsBy (Some n) left rest reads_before reads_after held now writes_before writes_after ended =
    IsEnded n left rest reads_before reads_after held now writes_before writes_after ended
