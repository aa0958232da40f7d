-- The grammar of an index file: which lines are a file, and the entries that stand in it.
--
-- The lines are those that aren't empty, each with its number, which the grammar doesn't look at, and what it says.
use Rattle.std.specs.Prelude.{ℕ, ◌≡◌, ◌+◌, length, Bool, true, false, not, ◌&&◌, ◌||◌, List, [], ◌∷◌, ◌++◌, bytes_eq, Option, Some, None}
use Rattle.std.specs.Prelude.{option_and_then, Result, Ok, Err, ⊤}
use Rattle.std.specs.List.{list_all}
use Rattle.ds_base.specs.declared.column.Column.{Column}
use Rattle.ds_base.specs.KeyColumn.{key_name}
use Rattle.ds_base.specs.Memory.{UnlessNoMemory}
use Rattle.ds_indexdef.specs.Lines.{lines_of}
use Rattle.ds_indexdef.specs.Reading.{Line, is_bare, numbered, with_entry}
use Rattle.ds_indexdef.specs.Refusals.{refused_at}
use Rattle.ds_indexdef.specs.declared.IndexDef.{IndexDef}
use Rattle.ds_indexdef.specs.declared.form.Form.{Form}
use Rattle.ds_indexdef.specs.declared.form.Form.TheVariants as form
use Rattle.ds_indexdef.specs.declared.refused.YamlRefused.{YamlRefused}

-- line n, which says this
abbrev pub says : ℕ → Form → Line
says n what = record { number = n; form = what }

-- no column has this name
abbrev pub lack : List Column → List ℕ → Bool
lack columns name = list_all (λ c. not (bytes_eq name c.name)) columns

-- no property stands twice, and `__key__` only as the last
abbrev pub are_orderly : List Column → Bool
are_orderly [] = true
are_orderly (c ∷ more) = (lack more c.name && (not (bytes_eq c.name key_name) || is_bare more)) && are_orderly more

-- property = - name: NAME [direction: asc | direction: desc]
pub data IsProperty : List Line → Column → Type 0 where
  plain : (n : ℕ) (name : List ℕ) → IsProperty (says n (form.Name name) ∷ []) (record { name = name; descending = false })
  directed : (n m : ℕ) (name : List ℕ) (descending : Bool)
      → IsProperty (says n (form.Name name) ∷ says m (form.Direction descending) ∷ []) (record { name = name; descending = descending })

-- property {property}
pub data AreProperties : List Line → List Column → Type 0 where
  one : (lines : List Line) (c : Column) → IsProperty lines c → AreProperties lines (c ∷ [])
  several : (lines more : List Line) (c : Column) (cs : List Column) → IsProperty lines c → AreProperties more cs
      → AreProperties (lines ++ more) (c ∷ cs)

-- [ancestor: yes | ancestor: no]
pub data IsFlag : List Line → Bool → Type 0 where
  absent : IsFlag [] false
  given : (n : ℕ) (ancestor : Bool) → IsFlag (says n (form.Ancestor ancestor) ∷ []) ancestor

-- entry = - kind: NAME [ancestor: yes | ancestor: no] properties: property {property}
pub data IsEntry : List Line → IndexDef → Type 0 where
  entry : (n m : ℕ) (kind : List ℕ) (flag properties : List Line) (ancestor : Bool) (columns : List Column)
      → IsFlag flag ancestor → AreProperties properties columns → are_orderly columns ≡ true
      → IsEntry (says n (form.Kind kind) ∷ flag ++ says m form.Properties ∷ properties)
      (record { kind = kind; ancestor = ancestor; columns = columns })

-- {entry}
pub data AreEntries : List Line → List IndexDef → Type 0 where
  none : AreEntries [] []
  further : (lines more : List Line) (e : IndexDef) (es : List IndexDef) → IsEntry lines e → AreEntries more es
      → AreEntries (lines ++ more) (e ∷ es)

-- file = nothing | indexes: {entry}
pub data IsFile : List Line → List IndexDef → Type 0 where
  nothing : IsFile [] []
  indexes : (n : ℕ) (lines : List Line) (es : List IndexDef) → AreEntries lines es → IsFile (says n form.Indexes ∷ lines) es

-- the definitions that come of entries, behind those that are there; none where one would be the 201st
abbrev pub with_entries : List IndexDef → List IndexDef → Option (List IndexDef)
with_entries defs [] = Some defs
with_entries defs (e ∷ es) = option_and_then (λ more. with_entries more es) (with_entry defs e)

-- ---- the texts that are index files, and the line that others are refused with

-- the lines of a text that aren't empty
abbrev pub lines_in : List ℕ → List Line
lines_in text = numbered 1 (lines_of text)

-- these definitions stand in the text: it is a file, and they come of its entries
abbrev pub StandIn : List ℕ → List IndexDef → Type 0
StandIn text defs = (es : List IndexDef) × IsFile (lines_in text) es × (with_entries [] es ≡ Some defs)

-- some file begins with these lines
abbrev pub BeginsFile : List Line → Type 0
BeginsFile lines = (more : List Line) × (es : List IndexDef) × IsFile (lines ++ more) es

-- line n is the first such that no file begins with the lines up to it
pub record IsFirstWrong (lines : List Line) (n : ℕ) : Type 0 where
  pub front : List Line
  pub wrong : Line
  pub behind : List Line
  pub apart : lines ≡ front ++ wrong ∷ behind
  pub number : wrong.number ≡ n
  pub begins : BeginsFile front
  pub begins_none : ¬ BeginsFile (front ++ wrong ∷ [])

-- the lines end too early: some file begins with them, and they are none
pub record EndEarly (lines : List Line) : Type 0 where
  pub begins : BeginsFile lines
  pub is_none : (es : List IndexDef) → ¬ IsFile lines es

-- line n is the last of an entry that would be the 201st definition, behind entries that give 200
pub record EndsTooMany (lines : List Line) (n : ℕ) : Type 0 where
  pub front : List Line
  pub last : Line
  pub behind : List Line
  pub apart : lines ≡ (front ++ last ∷ []) ++ behind
  pub number : last.number ≡ n
  pub before : List IndexDef
  pub entry : IndexDef
  pub file : IsFile (front ++ last ∷ []) (before ++ entry ∷ [])
  pub defs : List IndexDef
  pub given : with_entries [] before ≡ Some defs
  pub refused : with_entry defs entry ≡ None

-- why a text is refused with line n: it is wrong there, it ends before it, or there are too many definitions
pub data RefusedFor : List Line → ℕ → ℕ → Type 0 where
  wrong : (lines : List Line) (after n : ℕ) → IsFirstWrong lines n → RefusedFor lines after n
  early : (lines : List Line) (after : ℕ) → EndEarly lines → RefusedFor lines after after
  many : (lines : List Line) (after n : ℕ) → EndsTooMany lines n → RefusedFor lines after n

abbrev pub IsRefusedAt : List ℕ → ℕ → Type 0
IsRefusedAt text n = RefusedFor (lines_in text) (length (lines_of text) + 1) n

-- the result of reading, in the words of the grammar: definitions stand in the text, and a line is the one that it is refused at
abbrev pub TellsOf : List ℕ → Result (List IndexDef) ℕ → Type 0
TellsOf text (Ok defs) = StandIn text defs
TellsOf text (Err n) = IsRefusedAt text n

abbrev pub Tells : Result (List IndexDef) YamlRefused → List ℕ → Type 0
Tells result text = UnlessNoMemory refused_at (TellsOf text) result
