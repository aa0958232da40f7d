-- How an audit ends, and why.
use Rattle.std.specs.Prelude.{◌≡◌, ℕ, List, [], ◌∷◌, ◌++◌, ◌&&◌, ◌⊎◌, Option, Some, None, Result, Ok, Err, true, cond, codes, decimal}
use Rattle.std.specs.Prelude.{option_map, IfSome, ⊤}
use Rattle.std.specs.Io.KnownBytes.{Appends}
use Rattle.ds_check.specs.Verdicts.{IsVerdict}
use Rattle.ds_check.specs.declared.checking.Verdict.{Verdict}
use Rattle.ds_check.specs.declared.checking.Verdict.TheVariants as verdict
use Rattle.ds_indexdef.specs.declared.IndexDef.{IndexDef}
use Rattle.ds_indexdef.specs.Reading.{yaml_of}
use Rattle.ds_io.specs.Faults.{Rose}
use Rattle.ds_journal_text.specs.Texts.{IsFirstWrongLine, IsJournalOf}
use Rattle.ds_log.specs.declared.Commit.{Commit}
use Rattle.ds_rounds.specs.Lines.{lines_in}
use Rattle.ds_rounds.specs.Rounds.{rounds_of_input}
use Rattle.ds_words.specs.Form.{is_value, options_of}
use Rattle.ds_words.specs.declared.options.Options.{Options}
use Rattle.ds_audit.specs.declared.reading.Names.{Names}
use Rattle.ds_audit.specs.declared.reading.Texts.{Texts}
use Rattle.ds_audit.specs.declared.status.AuditStatus.{AuditStatus}
use Rattle.ds_audit.specs.declared.status.AuditStatus.TheVariants as status

-- ---- words

-- the names of three files, and what the words behind them say
pub record Asked : Type 0 where
  pub input : List ℕ
  pub replies : List ℕ
  pub journal : List ℕ
  pub options : Options

-- three names, which are values of options as `--indexes` takes one, and then a server's words; none where they leave that form
abbrev pub asked_by : List (List ℕ) → Option Asked
asked_by (input ∷ replies ∷ journal ∷ words) =
    cond (is_value input && (is_value replies && is_value journal))
    (option_map (λ options. record { input = input; replies = replies; journal = journal; options = options }) (options_of words))
    None
asked_by _ = None

-- what a server's words say behind three names
abbrev pub names_asked : Names → Asked
names_asked n = record { input = n.input.now; replies = n.replies.now; journal = n.journal.now; options = n.options }

-- ---- files

-- the text is the file's own, where that is told
abbrev pub IsOwn : Option (List ℕ) → List ℕ → Type 0
IsOwn told text = IfSome told (λ content. text ≡ content)

-- the three texts
pub record AreLoaded (a : Asked) (content : List ℕ → Option (List ℕ)) (t : Texts) : Type 0 where
  pub input : IsOwn (content a.input) t.input
  pub replies : IsOwn (content a.replies) t.replies
  pub journal : IsOwn (content a.journal) t.journal

-- without an index file there are no definitions, and a file gives those that stand in it
abbrev pub AreGiven : (List ℕ → Option (List ℕ)) → Option (List ℕ) → List IndexDef → Type 0
AreGiven content None definitions = definitions ≡ []
AreGiven content (Some name) definitions = (text : List ℕ) × IsOwn (content name) text × (yaml_of text ≡ Ok definitions)

-- ---- why no verdict is found

-- lack of memory alone is free
abbrev pub IsUnloaded : ℕ → ℕ → AuditStatus → Type 0
IsUnloaded before after status.FileFault = Rose before after
IsUnloaded before after status.NoMemory = ⊤
IsUnloaded before after _ = ⊥

-- one of the three files failed to load
abbrev pub AreUnloaded : Asked → (List ℕ → ℕ) → (List ℕ → ℕ) → AuditStatus → Type 0
AreUnloaded a before after status.FileFault =
    Rose (before a.input) (after a.input) ⊎ (Rose (before a.replies) (after a.replies) ⊎ Rose (before a.journal) (after a.journal))
AreUnloaded a before after status.NoMemory = ⊤
AreUnloaded a before after _ = ⊥

-- the journal's text isn't one, first at this line
abbrev pub IsNoJournal : List ℕ → AuditStatus → Type 0
IsNoJournal text (status.Journal line) = IsFirstWrongLine 1 (lines_in true text) line
IsNoJournal text status.NoMemory = ⊤
IsNoJournal text _ = ⊥

-- the named index file failed to load, or its text leaves the form, first at this line
abbrev pub IsUnread : Option (List ℕ) → (List ℕ → Option (List ℕ)) → (List ℕ → ℕ) → (List ℕ → ℕ) → AuditStatus → Type 0
IsUnread None content before after status = ⊥
IsUnread (Some name) content before after (status.IndexFile line) =
    (text : List ℕ) × IsOwn (content name) text × (yaml_of text ≡ Err line)
IsUnread (Some name) content before after status.FileFault = Rose (before name) (after name)
IsUnread (Some name) content before after status.NoMemory = ⊤
IsUnread (Some name) content before after _ = ⊥

-- the words say this, and the three texts are loaded
pub record HasTexts (words : List (List ℕ)) (content : List ℕ → Option (List ℕ)) : Type 0 where
  pub asked : Asked
  pub said : asked_by words ≡ Some asked
  pub texts : Texts
  pub loaded : AreLoaded asked content texts

-- Why there is no verdict. It is looked for in the order words, three files, text of the journal, index file.
abbrev pub IsUndecided : List (List ℕ) → (List ℕ → Option (List ℕ)) → (List ℕ → ℕ) → (List ℕ → ℕ) → AuditStatus → Type 0
IsUndecided words content before after status.Usage = asked_by words ≡ None
IsUndecided words content before after status.NoMemory = (a : Asked) × (asked_by words ≡ Some a)
IsUndecided words content before after (status.Journal line) =
    (has : HasTexts words content) × IsFirstWrongLine 1 (lines_in true has.texts.journal) line
IsUndecided words content before after (status.IndexFile line) =
    (has : HasTexts words content) × (journal : List Commit) × IsJournalOf has.texts.journal journal
    × IsUnread has.asked.options.indexes content before after (status.IndexFile line)
IsUndecided words content before after status.FileFault =
    (a : Asked) × (asked_by words ≡ Some a)
    × (AreUnloaded a before after status.FileFault
    ⊎ ((t : Texts) × AreLoaded a content t × (journal : List Commit) × IsJournalOf t.journal journal
    × IsUnread a.options.indexes content before after status.FileFault))
IsUndecided words content before after _ = ⊥

-- ---- the verdict

-- what is found of the run of the three files, served with the words behind their names
pub record IsDecided (words : List (List ℕ)) (content : List ℕ → Option (List ℕ)) (v : Verdict) : Type 0 where
  pub has : HasTexts words content
  pub journal : List Commit
  pub journal_is : IsJournalOf has.texts.journal journal
  pub definitions : List IndexDef
  pub given : AreGiven content has.asked.options.indexes definitions
  pub verdict : IsVerdict definitions has.asked.options.shards has.asked.options.window (rounds_of_input has.texts.input) journal
      has.texts.replies v

-- the line that is printed
abbrev pub verdict_text : Verdict → List ℕ
verdict_text verdict.Legal = codes "legal\n"
verdict_text (verdict.Reply line) = codes "not legal: line " ++ (decimal line ++ codes "\n")
verdict_text verdict.Count = codes "not legal: count\n"
verdict_text verdict.Numbers = codes "not legal: numbers\n"
verdict_text verdict.Ids = codes "not legal: ids\n"

-- the status of a printed verdict
abbrev pub status_of : Verdict → AuditStatus
status_of verdict.Legal = status.Legal
status_of _ = status.NotLegal

-- how printing ends: the verdict's line is written, and tells its status; or the output failed
abbrev pub IsPrinted : Verdict → Option (List ℕ) → Option (List ℕ) → ℕ → ℕ → AuditStatus → Type 0
IsPrinted v held now before after status.WriteFault = Rose before after
IsPrinted v held now before after status.NoMemory = ⊤
IsPrinted v held now before after status = (status ≡ status_of v) × Appends held now (verdict_text v)

-- ---- all of it

-- this holds where no verdict was written, not even a part of one
abbrev pub IfUnwritten : AuditStatus → Type 0 → Type 0
IfUnwritten status.Legal fact = ⊤
IfUnwritten status.NotLegal fact = ⊤
IfUnwritten status.WriteFault fact = ⊤
IfUnwritten _ fact = fact

-- each name's count of faults is as it was
abbrev pub AreSame : (List ℕ → ℕ) → (List ℕ → ℕ) → Type 0
AreSame before after = (name : List ℕ) → after name ≡ before name

-- this holds where the status doesn't say that a file failed
abbrev pub IfUnfaulted : AuditStatus → Type 0 → Type 0
IfUnfaulted status.FileFault fact = ⊤
IfUnfaulted _ fact = fact

-- what was wanted of files is had, and none failed; or the status tells why it isn't
abbrev pub UnlessFaulted : {A : Type 0} → Result A AuditStatus → (List ℕ → ℕ) → (List ℕ → ℕ) → Type 0
UnlessFaulted (Ok x) before after = AreSame before after
UnlessFaulted (Err ended) before after = IfUnfaulted ended (AreSame before after)

-- how the audit of these words, over these files and this output, ends
pub record IsAudited (words : List (List ℕ)) (content : List ℕ → Option (List ℕ)) (before after : List ℕ → ℕ)
    (held now : Option (List ℕ)) (faults_before faults_after : ℕ) (ended : AuditStatus) : Type 0 where
  pub how : IsUndecided words content before after ended
      ⊎ ((v : Verdict) × IsDecided words content v × IsPrinted v held now faults_before faults_after ended)
