-- What the words of the command line and the index file set up, and why they may not.
use Rattle.std.specs.Prelude.{◌≡◌, ℕ, List, [], Option, Some, None, Ok, Err, IfSome, IsSome, ⊤}
use Rattle.std.specs.Option.{option_and_then}
use Rattle.ds_indexdef.specs.declared.IndexDef.{IndexDef}
use Rattle.ds_indexdef.specs.Reading.{yaml_of}
use Rattle.ds_io.specs.Faults.{Rose, next_count}
use Rattle.ds_words.specs.Form.{options_of}
use Rattle.ds_words.specs.declared.options.Options.{Options}
use Rattle.ds_words.specs.declared.status.Status.{Status}
use Rattle.ds_words.specs.declared.status.Status.TheVariants as status
use Rattle.ds_serving.specs.declared.settings.Setting.{Setting}

-- the name of the index file, if the words name one
abbrev pub indexes_named : List (List ℕ) → Option (List ℕ)
indexes_named words = option_and_then (λ options. options.indexes) (options_of words)

-- ---- what is set up

-- the definitions of a text, which is the file's own where that is told
pub record AreRead (told : Option (List ℕ)) (definitions : List IndexDef) : Type 0 where
  pub text : List ℕ
  pub own : IfSome told (λ content. text ≡ content)
  pub read : yaml_of text ≡ Ok definitions

-- without a file there are no definitions, and a file gives those that stand in it
abbrev pub AreGiven : (List ℕ → Option (List ℕ)) → Option (List ℕ) → List IndexDef → Type 0
AreGiven content None definitions = definitions ≡ []
AreGiven content (Some name) definitions = AreRead (content name) definitions

-- the words say this of shards and window, and their index file has these definitions
pub record IsSetting (words : List (List ℕ)) (content : List ℕ → Option (List ℕ)) (s : Setting) : Type 0 where
  pub options : Options
  pub said : options_of words ≡ Some options
  pub shards : s.shards ≡ options.shards
  pub window : s.window ≡ options.window
  pub definitions : AreGiven content options.indexes s.defs

-- ---- why a run doesn't begin

-- a text that leaves the form of an index file, first at this line; it is the file's own where that is told
pub record LeavesForm (told : Option (List ℕ)) (line : ℕ) : Type 0 where
  pub text : List ℕ
  pub own : IfSome told (λ content. text ≡ content)
  pub wrong : yaml_of text ≡ Err line

-- the words name a file, and its text leaves the form first at this line
abbrev pub NamesWrongFile : List (List ℕ) → (List ℕ → Option (List ℕ)) → ℕ → Type 0
NamesWrongFile words content line = (name : List ℕ) × (indexes_named words ≡ Some name) × LeavesForm (content name) line

-- the same of a file whose text is told
pub record IsToldWrong (words : List (List ℕ)) (content : List ℕ → Option (List ℕ)) (line : ℕ) : Type 0 where
  pub name : List ℕ
  pub text : List ℕ
  pub named : indexes_named words ≡ Some name
  pub told : content name ≡ Some text
  pub wrong : yaml_of text ≡ Err line

-- the words name a file, and its count of faults rose
abbrev pub FailedToLoad : List (List ℕ) → (List ℕ → ℕ) → (List ℕ → ℕ) → Type 0
FailedToLoad words before after = (name : List ℕ) × (indexes_named words ≡ Some name) × Rose (before name) (after name)

-- why nothing was set up
abbrev pub IsUnset : List (List ℕ) → (List ℕ → Option (List ℕ)) → (List ℕ → ℕ) → (List ℕ → ℕ) → Status → Type 0
IsUnset words content before after status.Usage = options_of words ≡ None
IsUnset words content before after status.NoMemory = IsSome (options_of words)
IsUnset words content before after (status.IndexFile line) = NamesWrongFile words content line
IsUnset words content before after status.FileFault = FailedToLoad words before after
IsUnset words content before after _ = ⊥

-- why the file of a name wasn't read
abbrev pub IsUnread : List ℕ → (List ℕ → Option (List ℕ)) → (List ℕ → ℕ) → (List ℕ → ℕ) → Status → Type 0
IsUnread name content before after (status.IndexFile line) = LeavesForm (content name) line
IsUnread name content before after status.FileFault = Rose (before name) (after name)
IsUnread name content before after status.NoMemory = ⊤
IsUnread name content before after _ = ⊥

-- a named file's count of faults after a run: one more exactly where it failed to load
abbrev pub file_faults : Status → ℕ → ℕ
file_faults status.FileFault faults = next_count faults
file_faults _ faults = faults

-- no file is named; or the named one's text is told and has the form of an index file, and its count of faults didn't rise
abbrev pub IsFine : Option (List ℕ) → (List ℕ → Option (List ℕ)) → (List ℕ → ℕ) → (List ℕ → ℕ) → Type 0
IsFine None content before after = ⊤
IsFine (Some name) content before after =
    (text : List ℕ) × (definitions : List IndexDef) × (content name ≡ Some text) × (yaml_of text ≡ Ok definitions)
    × (Rose (before name) (after name) → ⊥)
