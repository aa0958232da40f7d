-- What the words and both index files set up, and why they may not.
use Rattle.std.specs.Prelude.{◌≡◌, ◌⊎◌, ℕ, List, Option, Some, None, Err, IsSome, ⊤}
use Rattle.std.specs.Option.{option_and_then}
use Rattle.ds_indexdef.specs.Reading.{yaml_of}
use Rattle.ds_indexdef.specs.declared.IndexDef.{IndexDef}
use Rattle.ds_io.specs.Faults.{Rose, next_count}
use Rattle.ds_words.specs.Form.{options_of}
use Rattle.ds_words.specs.declared.options.Options.{Options}
use Rattle.ds_words.specs.declared.status.Status.{Status}
use Rattle.ds_words.specs.declared.status.Status.TheVariants as status
use Rattle.ds_serving.specs.Settings.{AreRead, FailedToLoad, IsFine, IsSetting, LeavesForm, NamesWrongFile, indexes_named}
use Rattle.ds_serving.specs.declared.settings.Setting.{Setting}
use Rattle.ds_serve_cut.specs.CutWords.{CutWordsParts, cut_form}
use Rattle.ds_cutting.specs.declared.outcome.CutStatus.{CutStatus}
use Rattle.ds_cutting.specs.declared.outcome.CutStatus.TheVariants as cut

-- what the words say of the server, if they have their form
abbrev pub options_of_cut : List (List ℕ) → Option Options
options_of_cut words = option_and_then (λ (w : CutWordsParts). options_of w.words) (cut_form words)

-- ---- what is set up

-- the words have their form, and with their index file they set up this; the second file has these definitions
pub record AreSetUp (words : List (List ℕ)) (content : List ℕ → Option (List ℕ)) (s : Setting) (second : List IndexDef) (after : ℕ)
    : Type 0 where
  pub parts : CutWordsParts
  pub said : cut_form words ≡ Some parts
  pub after_is : after ≡ parts.after
  pub setting : IsSetting parts.words content s
  pub second_read : AreRead (content parts.file) second

-- ---- why a run doesn't begin

-- the words of the server have their form, and the index file that they name, if they name one, was read
abbrev pub IsFirstRead : CutWordsParts → (List ℕ → Option (List ℕ)) → Type 0
IsFirstRead w content = (s : Setting) × IsSetting w.words content s

-- what the status of a file is where it is the second one
abbrev pub of_second : Status → CutStatus
of_second (status.IndexFile line) = cut.NextFile line
of_second other = cut.Served other

-- Why nothing was set up: looked for are the words, the first file and its text, and then the second file and its text.
abbrev pub IsUnsetBy : CutWordsParts → (List ℕ → Option (List ℕ)) → (List ℕ → ℕ) → (List ℕ → ℕ) → CutStatus → Type 0
IsUnsetBy w content before after (cut.Served status.Usage) = options_of w.words ≡ None
IsUnsetBy w content before after (cut.Served status.NoMemory) = IsSome (options_of w.words)
IsUnsetBy w content before after (cut.Served (status.IndexFile line)) = NamesWrongFile w.words content line
IsUnsetBy w content before after (cut.Served status.FileFault) =
    FailedToLoad w.words before after ⊎ (IsFirstRead w content × Rose (before w.file) (after w.file))
IsUnsetBy w content before after (cut.NextFile line) = IsFirstRead w content × LeavesForm (content w.file) line
IsUnsetBy w content before after _ = ⊥

abbrev pub IsUnsetCut : Option CutWordsParts → (List ℕ → Option (List ℕ)) → (List ℕ → ℕ) → (List ℕ → ℕ) → CutStatus → Type 0
IsUnsetCut None content before after how = how ≡ cut.Served status.Usage
IsUnsetCut (Some w) content before after how = IsUnsetBy w content before after how

-- ---- the files

-- the name of a file that a run loads: the words' index file, if they name one, and the second file
abbrev pub IsLoaded : CutWordsParts → List ℕ → Type 0
IsLoaded w name = (indexes_named w.words ≡ Some name) ⊎ (name ≡ w.file)

-- The files' counts of faults after a run: one more for a file that is loaded exactly where it failed to load; else none rises.
abbrev pub AreFileFaults : CutWordsParts → (List ℕ → ℕ) → (List ℕ → ℕ) → CutStatus → Type 0
AreFileFaults w before after (cut.Served status.FileFault) =
    (name : List ℕ) × IsLoaded w name × (after name ≡ next_count (before name))
AreFileFaults w before after _ = (name : List ℕ) → after name ≡ before name

-- the words have their form, and the second file's text is told and leaves the form of an index file first at this line
pub record IsToldWrongNext (w : CutWordsParts) (content : List ℕ → Option (List ℕ)) (line : ℕ) : Type 0 where
  pub said : IsSome (options_of w.words)
  pub text : List ℕ
  pub told : content w.file ≡ Some text
  pub wrong : yaml_of text ≡ Err line

-- a status of a run that ends before the second file's text is read
abbrev pub EndsBeforeNext : CutStatus → Type 0
EndsBeforeNext (cut.Served (status.IndexFile line)) = ⊤
EndsBeforeNext (cut.Served status.FileFault) = ⊤
EndsBeforeNext (cut.Served status.NoMemory) = ⊤
EndsBeforeNext _ = ⊥

-- both files' texts are told and have the form of an index file, and no count of theirs rose
abbrev pub AreFine : CutWordsParts → (List ℕ → Option (List ℕ)) → (List ℕ → ℕ) → (List ℕ → ℕ) → Type 0
AreFine w content before after =
    IsFine (indexes_named w.words) content before after × IsFine (Some w.file) content before after
