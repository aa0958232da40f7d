-- What a keeper is, and what it and a crash leave on its disk.
use Rattle.std.specs.Prelude.{◌≡◌, ◌⊎◌, ℕ, ◌+◌, ◌≤◌, List, [], ◌∷◌, ◌++◌, length, drop, Bool, false, IsTrue, ⊤}
use Rattle.ds_base.specs.Limits.{first_drawn_id, greatest_id}
use Rattle.ds_disk.specs.Crashes.{Only}
use Rattle.ds_log.specs.declared.Commit.{Commit}
use Rattle.ds_log.specs.Conflicts.{IsSerial}
use Rattle.ds_log.specs.Ids.{AllIssued}
use Rattle.ds_keep.specs.declared.refusals.KeepRefused.{KeepRefused}
use Rattle.ds_keep.specs.declared.refusals.KeepRefused.TheVariants as refused
use Rattle.ds_kept_file.specs.Files.{Kept, Batch, with_batch, next_number, body_of, sized, BeginsWith, Continues, StandsFor, is_open}

-- the place of the closed gate; how many commits are kept; the kept id counter
pub record KeeperParts : Type 0 where
  pub gate : ℕ
  pub commits : ℕ
  pub next : ℕ

-- behind whole batches by which this is kept stands a closed gate, at this place, or nothing in a file without a byte
pub record IsClosedAt (gate : ℕ) (kept : Kept) (file : List ℕ) : Type 0 where
  pub whole : BeginsWith file kept (drop gate file)
  pub closed : is_open (drop gate file) ≡ false
  pub within : gate ≤ length file

-- behind whole batches by which this is kept stands a closed gate, at this place, which is the file's last byte
pub record IsWholeTo (gate : ℕ) (kept : Kept) (file : List ℕ) : Type 0 where
  pub whole : BeginsWith file kept (0 ∷ [])
  pub last : gate + 1 ≡ length file

-- The keeper keeps this on an honest disk, and all of it is on the disk: no crash leaves anything else.
pub record IsSettled {D : Type 0} (is_honest : D → Bool) (contents : D → List ℕ) (images : D → List ℕ → Type 0)
    (keeper : KeeperParts) (kept : Kept) (disk : D) : Type 0 where
  pub honest : IsTrue (is_honest disk)
  pub file : IsWholeTo keeper.gate kept (contents disk)
  pub durable : Only (contents disk) (images disk)
  pub commits : keeper.commits ≡ length kept.journal
  pub next : keeper.next ≡ kept.next

-- What every file keeps: one serial history, whose written ids were drawn below its counter, which is 2^52 at first and at most 2^63 - 1.
pub record IsHistory (kept : Kept) : Type 0 where
  pub serial : IsSerial kept.journal
  pub issued : AllIssued kept.next kept.journal
  pub least : first_drawn_id ≤ kept.next
  pub bounded : kept.next ≤ greatest_id

-- the disk isn't opened, as its file is damaged at this place, or a call of the disk failed, or there was no memory
abbrev pub TellsDamage : ℕ → KeepRefused → Type 0
TellsDamage place (refused.Damaged here) = here ≡ place
TellsDamage place refused.DiskFault = ⊤
TellsDamage place refused.NoMemory = ⊤

-- each of these images stands for what is kept
abbrev pub AllStandFor : Kept → (List ℕ → Type 0) → Type 0
AllStandFor kept images = (image : List ℕ) → images image → StandsFor kept image

-- what commits meet that are appended with a counter: the journal stays one serial history, and each written id was drawn
abbrev pub MayAppend : Kept → List Commit → ℕ → Type 0
MayAppend kept commits next = IsSerial (kept.journal ++ commits) × AllIssued next commits

-- one batch of commits and the counter from then on
abbrev pub batch_of : List Commit → ℕ → Batch
batch_of commits next = record { commits = commits; next = next }

-- a file stands for what was kept, or for it with the whole batch
abbrev pub StandsForEither : Kept → Batch → List ℕ → Type 0
StandsForEither kept batch file = StandsFor kept file ⊎ StandsFor (with_batch kept batch) file

-- what is written behind the closed gate: a batch of so many commits that may follow, with its counter, without its own gate and with a
-- closed gate behind it
pub record IsBatchPut (kept : Kept) (batch : Batch) (commits next : ℕ) (written : List ℕ) : Type 0 where
  pub continues : Continues kept batch
  pub bytes : written ≡ sized (body_of (next_number kept) batch) ++ 0 ∷ []
  pub commits_are : length batch.commits ≡ commits
  pub next_is : batch.next ≡ next
