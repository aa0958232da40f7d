-- What an index file says: how its lines follow one another, and which definitions come of its entries.
use Rattle.std.specs.Prelude.{ℕ, suc, ◌+◌, ◌-◌, ◌≡◌, Bool, true, false, not, ◌&&◌, ◌||◌, ◌==◌, nat_eq, nat_lt, cond, List, [], ◌∷◌, ◌++◌}
use Rattle.std.specs.Prelude.{length, take, map, bytes_eq, Option, Some, None, Result, Ok, Err, ok_or, is_some, ⊤}
use Rattle.std.specs.List.{list_all, list_any, starts_with}
use Rattle.std.proofs.Math.Bool.{beq}
use Rattle.ds_base.specs.Columns.{same_column}
use Rattle.ds_base.specs.Limits.{most_definitions}
use Rattle.ds_base.specs.declared.column.Column.{Column}
use Rattle.ds_indexdef.specs.Definitions.{same_def}
use Rattle.ds_indexdef.specs.Lines.{lines_of}
use Rattle.ds_indexdef.specs.Forms.{either, form_of}
use Rattle.ds_base.specs.KeyColumn.{key_name, is_ascending_key}
use Rattle.ds_indexdef.specs.declared.IndexDef.{IndexDef}
use Rattle.ds_indexdef.specs.declared.form.Form.{Form}
use Rattle.ds_indexdef.specs.declared.form.Form.TheVariants.{Blank, Indexes, Kind, Ancestor, Properties, Name, Direction, Wrong}
use Rattle.ds_indexdef.specs.declared.part.Moved.{Moved}
use Rattle.ds_indexdef.specs.declared.part.Moved.TheVariants.{On, Stuck}
use Rattle.ds_indexdef.specs.declared.part.Part.{Part}
use Rattle.ds_indexdef.specs.declared.part.Part.TheVariants.{Start, Listed, Headed, Flagged, Filled}

-- ---- the definitions that come of entries

-- whether the last is `__key__` ascending, in which each index ends anyway
abbrev pub ends_in_key : List Column → Bool
ends_in_key [] = false
ends_in_key (c ∷ []) = is_ascending_key c
ends_in_key (c ∷ d ∷ more) = ends_in_key (d ∷ more)

-- the columns without a final `__key__` ascending
abbrev pub without_key : List Column → List Column
without_key columns = cond (ends_in_key columns) (take (length columns - 1) columns) columns

-- the definition of an entry
abbrev pub definition_of : IndexDef → IndexDef
definition_of entry = record { kind = entry.kind; ancestor = entry.ancestor; columns = without_key entry.columns }

-- no column, or one that isn't `__key__`: with those that each kind and each property have by themselves
abbrev pub are_builtin : List Column → Bool
are_builtin [] = true
are_builtin (c ∷ []) = not (bytes_eq c.name key_name)
are_builtin (c ∷ d ∷ more) = false

-- its rows are those of a built-in index: one property ascending or descending, or `__key__` ascending alone, without ancestor
abbrev pub is_builtin : IndexDef → Bool
is_builtin def = not def.ancestor && are_builtin def.columns

-- the definition adds nothing to these
abbrev pub adds_nothing : List IndexDef → IndexDef → Bool
adds_nothing defs def = is_builtin def || list_any (same_def def) defs

-- the definitions with that of an entry; none where it would be the 201st
abbrev pub with_entry : List IndexDef → IndexDef → Option (List IndexDef)
with_entry defs entry = cond (adds_nothing defs (definition_of entry)) (Some defs)
    (cond (nat_lt (length defs) most_definitions) (Some (defs ++ definition_of entry ∷ [])) None)

-- ---- how lines follow one another

-- the entry with one column more
abbrev pub with_column : IndexDef → Column → IndexDef
with_column entry column = record { kind = entry.kind; ancestor = entry.ancestor; columns = entry.columns ++ column ∷ [] }

-- the columns with another direction of the last
abbrev pub turned_columns : List Column → Bool → List Column
turned_columns [] descending = []
turned_columns (c ∷ []) descending = record { name = c.name; descending = descending } ∷ []
turned_columns (c ∷ d ∷ more) descending = c ∷ turned_columns (d ∷ more) descending

abbrev pub turned : IndexDef → Bool → IndexDef
turned entry descending = record { kind = entry.kind; ancestor = entry.ancestor; columns = turned_columns entry.columns descending }

-- no property stands there yet
abbrev pub is_bare : List Column → Bool
is_bare [] = true
is_bare (c ∷ more) = false

-- a property of this name may follow these: it doesn't stand there yet, and `__key__` doesn't
abbrev pub may_follow : List Column → List ℕ → Bool
may_follow columns name = list_all (λ c. not (bytes_eq c.name name) && not (bytes_eq c.name key_name)) columns

abbrev pub takes : IndexDef → List ℕ → Bool
takes entry name = may_follow entry.columns name

-- the part of the file after a line that is neither empty nor the first of an entry; the part itself where the line is wrong there
abbrev pub next : Part → Form → Moved
next Start Indexes = On Listed
next (Headed kind) (Ancestor ancestor) = On (Flagged kind ancestor)
next (Headed kind) Properties = On (Filled (record { kind = kind; ancestor = false; columns = [] }) false)
next (Flagged kind ancestor) Properties = On (Filled (record { kind = kind; ancestor = ancestor; columns = [] }) false)
next (Filled entry fresh) (Name name) =
    cond (takes entry name) (On (Filled (with_column entry (record { name = name; descending = false })) true))
    (Stuck (Filled entry fresh))
next (Filled entry true) (Direction descending) = On (Filled (turned entry descending) false)
next part form = Stuck part

-- ---- the reading of a file

-- what was read so far: the definitions of the entries before the last, the part of the file that the last lines belong to, and
-- the number of the last line that isn't empty
pub record Reading : Type 0 where
  pub defs : List IndexDef
  pub part : Part
  pub last : ℕ

-- the definitions where a file or an entry may end: none where neither may; an entry that may not be added refuses its last line
abbrev pub closed : Part → List IndexDef → ℕ → Result (Option (List IndexDef)) ℕ
closed Start defs last = Ok (Some defs)
closed Listed defs last = Ok (Some defs)
closed (Headed kind) defs last = Ok None
closed (Flagged kind ancestor) defs last = Ok None
closed (Filled entry fresh) defs last =
    cond (is_bare entry.columns) (Ok None) (either (with_entry defs entry) (λ more. Ok (Some more)) (Err last))

-- an entry that begins so may go on to be this definition
abbrev pub begins : IndexDef → IndexDef → Bool
begins entry def = bytes_eq entry.kind def.kind && (beq entry.ancestor def.ancestor && starts_with same_column def.columns entry.columns)

-- by lines that are still to come, the entry may become one of these definitions; a direction may still come where the flag says so
abbrev pub may_become : List IndexDef → IndexDef → Bool → Bool
may_become defs entry fresh = list_any (begins entry) defs || (fresh && list_any (begins (turned entry true)) defs)

-- the line that is refused where line n is wrong behind a part: n, but where the entry before it would be the 201st definition,
-- however it went on, the last line of that
abbrev pub refused : Part → List IndexDef → ℕ → ℕ → ℕ
refused Start defs last n = n
refused Listed defs last n = n
refused (Headed kind) defs last n = n
refused (Flagged kind ancestor) defs last n = n
refused (Filled entry fresh) defs last n =
    cond (is_bare entry.columns || (may_become defs entry fresh || is_some (with_entry defs entry))) n last

abbrev pub is_start : Part → Bool
is_start Start = true
is_start Listed = false
is_start (Headed kind) = false
is_start (Flagged kind ancestor) = false
is_start (Filled entry fresh) = false

-- the first line of an entry, of this kind
abbrev pub opened : Result (Option (List IndexDef)) ℕ → ℕ → List ℕ → Result Reading ℕ
opened (Ok (Some defs)) n kind = Ok (record { defs = defs; part = Headed kind; last = n })
opened (Ok None) n kind = Err n
opened (Err line) n kind = Err line

-- another line
abbrev pub gone_on : Moved → List IndexDef → ℕ → ℕ → Result Reading ℕ
gone_on (On part) defs last n = Ok (record { defs = defs; part = part; last = n })
gone_on (Stuck part) defs last n = Err (refused part defs last n)

-- what was read with line n, which isn't empty; or the line that is refused
abbrev pub step : Reading → ℕ → Form → Result Reading ℕ
step r n (Kind kind) = cond (is_start r.part) (Err n) (opened (closed r.part r.defs r.last) n kind)
step r n form = gone_on (next r.part form) r.defs r.last n

-- the same with any line: an empty one changes nothing
abbrev pub read_line : Reading → ℕ → Form → Result Reading ℕ
read_line r n Blank = Ok r
read_line r n form = step r n form

-- the definitions at the end of the text, where the line after the last is n
abbrev pub finished : Result (Option (List IndexDef)) ℕ → ℕ → Result (List IndexDef) ℕ
finished (Ok (Some defs)) n = Ok defs
finished (Ok None) n = Err n
finished (Err line) n = Err line

abbrev pub finish : Reading → ℕ → Result (List IndexDef) ℕ
finish r n = finished (closed r.part r.defs r.last) n

-- a line that isn't empty: its number and what it says
pub record Line : Type 0 where
  pub number : ℕ
  pub form : Form

-- the lines from line n on, without the empty ones, which count for the numbers alone
abbrev pub numbered_before : ℕ → Form → List Line → List Line
numbered_before n Blank more = more
numbered_before n form more = record { number = n; form = form } ∷ more

abbrev pub numbered : ℕ → List (List ℕ) → List Line
numbered n [] = []
numbered n (line ∷ more) = numbered_before n (form_of line) (numbered (suc n) more)

-- what stays of a reading that went well
abbrev pub and_then : {A B : Type 0} → Result A ℕ → (A → Result B ℕ) → Result B ℕ
and_then {A = A} {B = B} (Ok x) f = f x
and_then {A = A} {B = B} (Err line) f = Err line

-- the definitions of a file of which these lines are left, where the line after the last is `after`; or the line that is refused
abbrev pub read_from : List Line → Reading → ℕ → Result (List IndexDef) ℕ
read_from [] r after = finish r after
read_from (line ∷ more) r after = and_then (step r line.number line.form) (λ next. read_from more next after)

-- nothing is read yet
abbrev pub nothing_read : Reading
nothing_read = record { defs = []; part = Start; last = 0 }

-- the definitions of an index file; or the line, counted from 1, that is refused
unfoldable pub yaml_of : List ℕ → Result (List IndexDef) ℕ
yaml_of text = read_from (numbered 1 (lines_of text)) nothing_read (length (lines_of text) + 1)
