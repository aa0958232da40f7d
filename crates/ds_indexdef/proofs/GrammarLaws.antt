-- What is left of a file behind each of its parts, in the words of the grammar: a line moves a part on exactly where a rest of a file begins
-- with it.
use Rattle.std.proofs.Common.{◌≡◌, ℕ, Bool, true, false, not, ◌&&◌, ◌||◌, cond, List, [], ◌∷◌, ◌++◌, refl, sym, ap, subst, ◌∙◌}
use Rattle.std.proofs.Common.{append_assoc, Option, Some, None, Ok, Err, Result}
use Rattle.std.specs.Prelude.{bytes_eq}
use Rattle.std.proofs.lemmas.List.Folds.{list_all-append}
use Rattle.ds_base.specs.declared.column.Column.{Column}
use Rattle.ds_base.specs.KeyColumn.{key_name}
use Rattle.ds_indexdef.specs.Reading.{Line, is_bare, may_follow, takes, next, turned, turned_columns, with_column}
use Rattle.ds_indexdef.specs.Grammar.{says, lack, are_orderly, IsProperty, AreProperties, IsFlag, IsEntry, AreEntries, IsFile, plain}
use Rattle.ds_indexdef.specs.Grammar.{directed, one, several, absent, given, entry, none, further, nothing, indexes}
use Rattle.ds_indexdef.specs.declared.IndexDef.{IndexDef}
use Rattle.ds_indexdef.specs.declared.form.Form.{Form}
use Rattle.ds_indexdef.specs.declared.form.Form.TheVariants.{Blank, Indexes, Kind, Ancestor, Properties, Name, Direction, Wrong}
use Rattle.ds_indexdef.specs.declared.part.Moved.{Moved}
use Rattle.ds_indexdef.specs.declared.part.Moved.TheVariants.{On, Stuck}
use Rattle.ds_indexdef.specs.declared.part.Part.{Part}
use Rattle.ds_indexdef.specs.declared.part.Part.TheVariants.{Start, Listed, Headed, Flagged, Filled}
use Rattle.ds_indexdef.proofs.ColumnLaws.{turned_columns-push}

-- ---- lists of properties in order

pub both : (a b : Bool) → a && b ≡ true → (a ≡ true) × (b ≡ true)
both true true e = (refl, refl)
both true false e = absurd (cc)
both false b e = absurd (cc)

pub and_both : (a b : Bool) → a ≡ true → b ≡ true → a && b ≡ true
and_both a b e f = rw (e, f) refl

left_or : (a b : Bool) → b ≡ false → a || b ≡ true → a ≡ true
left_or true b f e = refl
left_or false true f e = absurd (cc)
left_or false false f e = absurd (cc)

or_left : (a b : Bool) → a ≡ true → a || b ≡ true
or_left a b e = rw e refl

last_and : (b : Bool) → (b || true) && true ≡ true
last_and true = refl
last_and false = refl

bare-push : (cs : List Column) (c : Column) (more : List Column) → is_bare (cs ++ c ∷ more) ≡ false
bare-push [] c more = refl
bare-push (x ∷ xs) c more = refl

lack-parts : (xs : List Column) (c : Column) (more : List Column) (name : List ℕ) → lack (xs ++ c ∷ more) name ≡ true → (lack xs name ≡ true) × (not (bytes_eq name c.name) ≡ true)
lack-parts xs c more name e =
    let whole = sym (list_all-append (λ (d : Column). not (bytes_eq name d.name)) xs (c ∷ more)) ∙ e in
    let parts = both (lack xs name) (not (bytes_eq name c.name) && lack more name) whole in
    (parts.0, (both (not (bytes_eq name c.name)) (lack more name) parts.1).0)

-- in a list in order a property may follow those before it
pub takes-orderly : (cs : List Column) (c : Column) (more : List Column) → are_orderly (cs ++ c ∷ more) ≡ true → may_follow cs c.name ≡ true
takes-orderly [] c more o = refl
takes-orderly (x ∷ xs) c more o =
    let parts = both (lack (xs ++ c ∷ more) x.name && (not (bytes_eq x.name key_name) || is_bare (xs ++ c ∷ more))) (are_orderly (xs ++ c ∷ more)) o in
    let first = both (lack (xs ++ c ∷ more) x.name) (not (bytes_eq x.name key_name) || is_bare (xs ++ c ∷ more)) parts.0 in
    and_both (not (bytes_eq x.name c.name) && not (bytes_eq x.name key_name)) (may_follow xs c.name)
    (and_both (not (bytes_eq x.name c.name)) (not (bytes_eq x.name key_name)) (lack-parts xs c more x.name first.0).1
    (left_or (not (bytes_eq x.name key_name)) (is_bare (xs ++ c ∷ more)) (bare-push xs c more) first.1))
    (takes-orderly xs c more parts.1)

-- and a property that may follow keeps the order
pub orderly-push : (cs : List Column) (c : Column) → are_orderly cs ≡ true → may_follow cs c.name ≡ true → are_orderly (cs ++ c ∷ []) ≡ true
orderly-push [] c o t = last_and (not (bytes_eq c.name key_name))
orderly-push (x ∷ xs) c o t =
    let parts = both (lack xs x.name && (not (bytes_eq x.name key_name) || is_bare xs)) (are_orderly xs) o in
    let first = both (lack xs x.name) (not (bytes_eq x.name key_name) || is_bare xs) parts.0 in
    let follows = both (not (bytes_eq x.name c.name) && not (bytes_eq x.name key_name)) (may_follow xs c.name) t in
    let apart = both (not (bytes_eq x.name c.name)) (not (bytes_eq x.name key_name)) follows.0 in
    let lacks : lack (xs ++ c ∷ []) x.name ≡ true = list_all-append (λ (d : Column). not (bytes_eq x.name d.name)) xs (c ∷ [])
    ∙ and_both (lack xs x.name) (not (bytes_eq x.name c.name) && true) first.0 (and_both (not (bytes_eq x.name c.name)) true apart.0 refl) in
    and_both (lack (xs ++ c ∷ []) x.name && (not (bytes_eq x.name key_name) || is_bare (xs ++ c ∷ []))) (are_orderly (xs ++ c ∷ []))
    (and_both (lack (xs ++ c ∷ []) x.name) (not (bytes_eq x.name key_name) || is_bare (xs ++ c ∷ [])) lacks (or_left (not (bytes_eq x.name key_name)) (is_bare (xs ++ c ∷ [])) apart.1))
    (orderly-push xs c parts.1 follows.1)

lack-turned : (cs : List Column) (d : Bool) (name : List ℕ) → lack (turned_columns cs d) name ≡ lack cs name
lack-turned [] d name = refl
lack-turned (c ∷ []) d name = refl
lack-turned (c ∷ x ∷ more) d name = ap (λ r. not (bytes_eq name c.name) && r) (lack-turned (x ∷ more) d name)

bare-turned : (cs : List Column) (d : Bool) → is_bare (turned_columns cs d) ≡ is_bare cs
bare-turned [] d = refl
bare-turned (c ∷ []) d = refl
bare-turned (c ∷ x ∷ more) d = refl

pub orderly-turned : (cs : List Column) (d : Bool) → are_orderly (turned_columns cs d) ≡ are_orderly cs
orderly-turned [] d = refl
orderly-turned (c ∷ []) d = refl
orderly-turned (c ∷ x ∷ more) d =
    rw (lack-turned (x ∷ more) d c.name, bare-turned (x ∷ more) d, orderly-turned (x ∷ more) d) refl

-- ---- the parts

-- the part after a line; none where the line is wrong there
abbrev pub moved_by : Moved → Option Part
moved_by (On part) = Some part
moved_by (Stuck part) = None

abbrev pub moves : Part → Form → Option Part
moves Start (Kind kind) = None
moves Listed (Kind kind) = Some (Headed kind)
moves (Headed k) (Kind kind) = None
moves (Flagged k ancestor) (Kind kind) = None
moves (Filled e fresh) (Kind kind) = cond (is_bare e.columns) None (Some (Headed kind))
moves part form = moved_by (next part form)

-- a file may end behind the part
abbrev pub may_end : Part → Bool
may_end Start = true
may_end Listed = true
may_end (Headed kind) = false
may_end (Flagged kind ancestor) = false
may_end (Filled e fresh) = not (is_bare e.columns)

-- the entry that is whole where no line more belongs to it
abbrev pub closing : Part → List IndexDef
closing Start = []
closing Listed = []
closing (Headed kind) = []
closing (Flagged kind ancestor) = []
closing (Filled e fresh) = e ∷ []

-- the entry that a line ends
abbrev pub closing_by : Part → Form → List IndexDef
closing_by part (Kind kind) = closing part
closing_by part form = []

-- lines that take the columns so far to those of the whole entry
pub data Further : Bool → List Column → List Line → List Column → Type 0 where
  done : (fresh : Bool) (cs : List Column) → is_bare cs ≡ false → Further fresh cs [] cs
  on : (fresh : Bool) (cs more : List Column) (lines : List Line) → AreProperties lines more → Further fresh cs lines (cs ++ more)
  turning : (n : ℕ) (descending : Bool) (cs columns : List Column) (lines : List Line)
      → Further false (turned_columns cs descending) lines columns → Further true cs (says n (Direction descending) ∷ lines) columns

-- lines that complete a file behind a part, with the entries that are still to come
pub data Rest : Part → List Line → List IndexDef → Type 0 where
  start : (lines : List Line) (es : List IndexDef) → IsFile lines es → Rest Start lines es
  listed : (lines : List Line) (es : List IndexDef) → AreEntries lines es → Rest Listed lines es
  headed : (m : ℕ) (kind : List ℕ) (flag properties lines : List Line) (ancestor : Bool) (columns : List Column) (es : List IndexDef)
      → IsFlag flag ancestor → AreProperties properties columns → are_orderly columns ≡ true → AreEntries lines es
      → Rest (Headed kind) ((flag ++ says m Properties ∷ properties) ++ lines) (record { kind = kind; ancestor = ancestor; columns = columns } ∷ es)
  flagged : (m : ℕ) (kind : List ℕ) (properties lines : List Line) (ancestor : Bool) (columns : List Column) (es : List IndexDef)
      → AreProperties properties columns → are_orderly columns ≡ true → AreEntries lines es
      → Rest (Flagged kind ancestor) (says m Properties ∷ properties ++ lines) (record { kind = kind; ancestor = ancestor; columns = columns } ∷ es)
  filled : (e : IndexDef) (fresh : Bool) (more lines : List Line) (columns : List Column) (es : List IndexDef)
      → Further fresh e.columns more columns → are_orderly columns ≡ true → AreEntries lines es
      → Rest (Filled e fresh) (more ++ lines) (record { kind = e.kind; ancestor = e.ancestor; columns = columns } ∷ es)

-- ---- from a rest to the part behind its first line

pub record Forward (p : Part) (all : List IndexDef) (l : Line) (left : List Line) : Type 0 where
  pub part : Part
  pub later : List IndexDef
  pub moved : moves p l.form ≡ Some part
  pub rest : Rest part left later
  pub same : all ≡ closing_by p l.form ++ later

abbrev pub Forwards : Part → List IndexDef → List Line → Type 0
Forwards p es [] = (may_end p ≡ true) × (es ≡ closing p)
Forwards p es (l ∷ left) = Forward p es l left

-- a line of a name moves an entry on which may take it
name-moved : (e : IndexDef) (fresh : Bool) (name : List ℕ) → takes e name ≡ true
    → moves (Filled e fresh) (Name name) ≡ Some (Filled (with_column e (record { name = name; descending = false })) true)
name-moved e fresh name t =
    ap (λ b. moved_by (cond b (On (Filled (with_column e (record { name = name; descending = false })) true)) (Stuck (Filled e fresh)))) t

on-after : (cs : List Column) (c : Column) (more : List Column) (lines : List Line) → AreProperties lines more → Further true (cs ++ c ∷ []) lines (cs ++ c ∷ more)
on-after cs c more lines ps = subst (λ x. Further true (cs ++ c ∷ []) lines x) (append_assoc cs (c ∷ []) more) (on true (cs ++ c ∷ []) more lines ps)

-- the direction of the last column, and then properties
turning-after : (m : ℕ) (cs : List Column) (name : List ℕ) (d : Bool) (lines : List Line) (columns : List Column) → Further false (cs ++ record { name = name; descending = d } ∷ []) lines columns
    → Further true (cs ++ record { name = name; descending = false } ∷ []) (says m (Direction d) ∷ lines) columns
turning-after m cs name d lines columns f =
    turning m d (cs ++ record { name = name; descending = false } ∷ []) columns lines
    (subst (λ x. Further false x lines columns) (sym (turned_columns-push cs (record { name = name; descending = false }) d)) f)

pub forward : (p : Part) (lines : List Line) (es : List IndexDef) → Rest p lines es → Forwards p es lines
forward Start lines es (start _ _ nothing) = (refl, refl)
forward Start lines es (start _ _ (indexes n left _ d)) = record { part = Listed; later = es; moved = refl; rest = listed left es d; same = refl }
forward Listed lines es (listed _ _ none) = (refl, refl)
forward Listed lines es (listed _ _ (further _ more e later (entry n m kind flag properties ancestor columns f ps o) d)) =
    record { part = Headed kind; later = e ∷ later; moved = refl; rest = headed m kind flag properties more ancestor columns later f ps o d; same = refl }
forward (Headed kind) lines es (headed m _ _ properties left _ columns later absent ps o d) =
    record {
      part = Filled (record { kind = kind; ancestor = false; columns = [] }) false;
      later = es;
      moved = refl;
      rest = filled (record { kind = kind; ancestor = false; columns = [] }) false properties left columns later (on false [] columns properties ps) o d;
      same = refl;
    }
forward (Headed kind) lines es (headed m _ _ properties left _ columns later (given n ancestor) ps o d) =
    record { part = Flagged kind ancestor; later = es; moved = refl; rest = flagged m kind properties left ancestor columns later ps o d; same = refl }
forward (Flagged kind ancestor) lines es (flagged m _ properties left _ columns later ps o d) =
    record {
      part = Filled (record { kind = kind; ancestor = ancestor; columns = [] }) false;
      later = es;
      moved = refl;
      rest = filled (record { kind = kind; ancestor = ancestor; columns = [] }) false properties left columns later (on false [] columns properties ps) o d;
      same = refl;
    }
forward (Filled e fresh) lines es (filled _ _ _ _ _ _ (done _ _ h) o none) = (ap not h, refl)
forward (Filled e fresh) lines es (filled _ _ _ _ _ _ (done _ _ h) o (further _ more e2 later (entry n m kind flag properties ancestor columns f ps o2) d)) =
    record { part = Headed kind; later = e2 ∷ later; moved = ap (λ b. cond b None (Some (Headed kind))) h; rest = headed m kind flag properties more ancestor columns later f ps o2 d; same = refl }
forward (Filled e fresh) lines es (filled _ _ _ left _ later (on _ _ _ _ (one _ _ (plain n name))) o d) =
    let c : Column = record { name = name; descending = false } in
    record {
      part = Filled (with_column e c) true;
      later = es;
      moved = name-moved e fresh name (takes-orderly e.columns c [] o);
      rest = filled (with_column e c) true [] left (e.columns ++ c ∷ []) later (done true (e.columns ++ c ∷ []) (bare-push e.columns c [])) o d;
      same = refl;
    }
forward (Filled e fresh) lines es (filled _ _ _ left _ later (on _ _ _ _ (one _ _ (directed n m name descending))) o d) =
    let c : Column = record { name = name; descending = descending } in
    record {
      part = Filled (with_column e (record { name = name; descending = false })) true;
      later = es;
      moved = name-moved e fresh name (takes-orderly e.columns c [] o);
      rest = filled (with_column e (record { name = name; descending = false })) true (says m (Direction descending) ∷ []) left (e.columns ++ c ∷ []) later
          (turning-after m e.columns name descending [] (e.columns ++ c ∷ []) (done false (e.columns ++ c ∷ []) (bare-push e.columns c []))) o d;
      same = refl;
    }
forward (Filled e fresh) lines es (filled _ _ _ left _ later (on _ _ _ _ (several _ more _ cs (plain n name) ps)) o d) =
    let c : Column = record { name = name; descending = false } in
    record {
      part = Filled (with_column e c) true;
      later = es;
      moved = name-moved e fresh name (takes-orderly e.columns c cs o);
      rest = filled (with_column e c) true more left (e.columns ++ c ∷ cs) later (on-after e.columns c cs more ps) o d;
      same = refl;
    }
forward (Filled e fresh) lines es (filled _ _ _ left _ later (on _ _ _ _ (several _ more _ cs (directed n m name descending) ps)) o d) =
    let c : Column = record { name = name; descending = descending } in
    record {
      part = Filled (with_column e (record { name = name; descending = false })) true;
      later = es;
      moved = name-moved e fresh name (takes-orderly e.columns c cs o);
      rest = filled (with_column e (record { name = name; descending = false })) true (says m (Direction descending) ∷ more) left (e.columns ++ c ∷ cs) later
          (turning-after m e.columns name descending more (e.columns ++ c ∷ cs)
          (subst (λ x. Further false (e.columns ++ c ∷ []) more x) (append_assoc e.columns (c ∷ []) cs) (on false (e.columns ++ c ∷ []) cs more ps))) o d;
      same = refl;
    }
forward (Filled e fresh) lines es (filled _ _ _ left columns later (turning n descending _ _ more f) o d) =
    record { part = Filled (turned e descending) false; later = es; moved = refl; rest = filled (turned e descending) false more left columns later f o d; same = refl }

-- ---- from the part behind a line to a rest that begins with it

-- the columns so far are in order
abbrev pub is_fine : Part → Bool
is_fine Start = true
is_fine Listed = true
is_fine (Headed kind) = true
is_fine (Flagged kind ancestor) = true
is_fine (Filled e fresh) = are_orderly e.columns

back-start : (n : ℕ) (left : List Line) (es : List IndexDef) → Rest Listed left es → Rest Start (says n Indexes ∷ left) es
back-start n left es (listed _ _ d) = start (says n Indexes ∷ left) es (indexes n left es d)

back-kind : (n : ℕ) (kind : List ℕ) (left : List Line) (es : List IndexDef) → Rest (Headed kind) left es → AreEntries (says n (Kind kind) ∷ left) es
back-kind n kind left es (headed m _ flag properties more ancestor columns later f ps o d) =
    further (says n (Kind kind) ∷ flag ++ says m Properties ∷ properties) more (record { kind = kind; ancestor = ancestor; columns = columns }) later
    (entry n m kind flag properties ancestor columns f ps o) d

back-flag : (n : ℕ) (kind : List ℕ) (ancestor : Bool) (left : List Line) (es : List IndexDef) → Rest (Flagged kind ancestor) left es → Rest (Headed kind) (says n (Ancestor ancestor) ∷ left) es
back-flag n kind ancestor left es (flagged m _ properties more _ columns later ps o d) =
    headed m kind (says n (Ancestor ancestor) ∷ []) properties more ancestor columns later (given n ancestor) ps o d

from_none : (lines : List Line) (columns : List Column) → Further false [] lines columns → AreProperties lines columns
from_none lines columns (done _ _ h) = absurd (cc)
from_none lines columns (on _ _ _ _ ps) = ps

back-headed : (n : ℕ) (kind : List ℕ) (left : List Line) (es : List IndexDef) → Rest (Filled (record { kind = kind; ancestor = false; columns = [] }) false) left es
    → Rest (Headed kind) (says n Properties ∷ left) es
back-headed n kind left es (filled _ _ more lines columns later f o d) = headed n kind [] more lines false columns later absent (from_none more columns f) o d

back-flagged : (n : ℕ) (kind : List ℕ) (ancestor : Bool) (left : List Line) (es : List IndexDef) → Rest (Filled (record { kind = kind; ancestor = ancestor; columns = [] }) false) left es
    → Rest (Flagged kind ancestor) (says n Properties ∷ left) es
back-flagged n kind ancestor left es (filled _ _ more lines columns later f o d) = flagged n kind more lines ancestor columns later (from_none more columns f) o d

-- a property with its direction before lines of further ones
directed-before : (fresh : Bool) (n m : ℕ) (cs : List Column) (name : List ℕ) (d : Bool) (lines : List Line) (columns : List Column)
    → Further false (cs ++ record { name = name; descending = d } ∷ []) lines columns → Further fresh cs (says n (Name name) ∷ says m (Direction d) ∷ lines) columns
directed-before fresh n m cs name d lines columns (done _ _ h) =
    on fresh cs (record { name = name; descending = d } ∷ []) (says n (Name name) ∷ says m (Direction d) ∷ []) (one (says n (Name name) ∷ says m (Direction d) ∷ []) (record { name = name; descending = d }) (directed n m name d))
directed-before fresh n m cs name d lines columns (on _ _ more _ ps) =
    let c : Column = record { name = name; descending = d } in
    subst (λ x. Further fresh cs (says n (Name name) ∷ says m (Direction d) ∷ lines) x) (sym (append_assoc cs (c ∷ []) more))
    (on fresh cs (c ∷ more) (says n (Name name) ∷ says m (Direction d) ∷ lines) (several (says n (Name name) ∷ says m (Direction d) ∷ []) lines c more (directed n m name d) ps))

name-before : (fresh : Bool) (n : ℕ) (cs : List Column) (name : List ℕ) (lines : List Line) (columns : List Column)
    → Further true (cs ++ record { name = name; descending = false } ∷ []) lines columns → Further fresh cs (says n (Name name) ∷ lines) columns
name-before fresh n cs name lines columns (done _ _ h) =
    on fresh cs (record { name = name; descending = false } ∷ []) (says n (Name name) ∷ []) (one (says n (Name name) ∷ []) (record { name = name; descending = false }) (plain n name))
name-before fresh n cs name lines columns (on _ _ more _ ps) =
    let c : Column = record { name = name; descending = false } in
    subst (λ x. Further fresh cs (says n (Name name) ∷ lines) x) (sym (append_assoc cs (c ∷ []) more))
    (on fresh cs (c ∷ more) (says n (Name name) ∷ lines) (several (says n (Name name) ∷ []) lines c more (plain n name) ps))
name-before fresh n cs name lines columns (turning m d _ _ more f) =
    directed-before fresh n m cs name d more columns (subst (λ x. Further false x more columns) (turned_columns-push cs (record { name = name; descending = false }) d) f)

back-name : (n : ℕ) (e : IndexDef) (fresh : Bool) (name : List ℕ) (left : List Line) (es : List IndexDef)
    → Rest (Filled (with_column e (record { name = name; descending = false })) true) left es → Rest (Filled e fresh) (says n (Name name) ∷ left) es
back-name n e fresh name left es (filled _ _ more lines columns later f o d) =
    filled e fresh (says n (Name name) ∷ more) lines columns later (name-before fresh n e.columns name more columns f) o d

back-direction : (n : ℕ) (e : IndexDef) (descending : Bool) (left : List Line) (es : List IndexDef) → Rest (Filled (turned e descending) false) left es
    → Rest (Filled e true) (says n (Direction descending) ∷ left) es
back-direction n e descending left es (filled _ _ more lines columns later f o d) =
    filled e true (says n (Direction descending) ∷ more) lines columns later (turning n descending e.columns columns more f) o d

as_part : (p q : Part) (left : List Line) (es : List IndexDef) → Some p ≡ Some q → Rest q left es → Rest p left es
as_part p q left es e rest = let same : p ≡ q = cc in subst (λ x. Rest x left es) (sym same) rest

if_ok : (b : Bool) (p q r : Part) → moved_by (cond b (On p) (Stuck q)) ≡ Some r → Some p ≡ Some r
if_ok true p q r e = e
if_ok false p q r e = absurd (cc)

if_some : (b : Bool) (p r : Part) → cond b None (Some p) ≡ Some r → (b ≡ false) × (Some p ≡ Some r)
if_some true p r e = absurd (cc)
if_some false p r e = (refl, e)

pub back : (p : Part) (n : ℕ) (f : Form) (q : Part) (left : List Line) (es : List IndexDef) → is_fine p ≡ true → moves p f ≡ Some q → Rest q left es
    → Rest p (says n f ∷ left) (closing_by p f ++ es)
back Start n Indexes q left es fine e rest = back-start n left es (as_part Listed q left es e rest)
back Listed n (Kind kind) q left es fine e rest = listed (says n (Kind kind) ∷ left) es (back-kind n kind left es (as_part (Headed kind) q left es e rest))
back (Headed kind) n (Ancestor ancestor) q left es fine e rest = back-flag n kind ancestor left es (as_part (Flagged kind ancestor) q left es e rest)
back (Headed kind) n Properties q left es fine e rest =
    back-headed n kind left es (as_part (Filled (record { kind = kind; ancestor = false; columns = [] }) false) q left es e rest)
back (Flagged kind ancestor) n Properties q left es fine e rest =
    back-flagged n kind ancestor left es (as_part (Filled (record { kind = kind; ancestor = ancestor; columns = [] }) false) q left es e rest)
back (Filled def fresh) n (Name name) q left es fine e rest =
    let p : Part = Filled (with_column def (record { name = name; descending = false })) true in
    back-name n def fresh name left es (as_part p q left es (if_ok (takes def name) p (Filled def fresh) q e) rest)
back (Filled def true) n (Direction descending) q left es fine e rest = back-direction n def descending left es (as_part (Filled (turned def descending) false) q left es e rest)
back (Filled def fresh) n (Kind kind) q left es fine e rest =
    let moved = if_some (is_bare def.columns) (Headed kind) q e in
    filled def fresh [] (says n (Kind kind) ∷ left) def.columns es (done fresh def.columns moved.0) fine (back-kind n kind left es (as_part (Headed kind) q left es moved.1 rest))
back p n f q left es fine e rest = absurd (cc)
