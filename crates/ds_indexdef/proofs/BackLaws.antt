-- What is written is read as the same definitions.
use Rattle.std.proofs.Common.{◌≡◌, ◌<◌, ◌≤◌, ◌+◌, ℕ, zero, suc, Bool, true, false, not, ◌&&◌, ◌||◌, cond, List, [], ◌∷◌, ◌++◌, length, map}
use Rattle.std.proofs.Common.{refl, sym, ap, subst, ◌∙◌, arith, append_assoc, append-nil, eqb, take, ◌-◌, length-append, nat_lt, nat_le}
use Rattle.std.proofs.Common.{Option, Some, None, Ok, Err, Result}
use Rattle.std.specs.Prelude.{codes, IfOk, bytes_eq, slice_index, option_and_then, IsTrue}
use Rattle.std.specs.List.{flat_map, list_all, list_any, slice_split, onto_first, IsDistinct, AllByRecursion}
use Rattle.std.specs.Str.{is_utf8, IsUtf8, IsAscii}
use Rattle.std.proofs.lemmas.Bool.{ltb-true, leb-true, lt-ltb}
use Rattle.std.proofs.lemmas.List.Folds.{list_all-append}
use Rattle.std.proofs.lemmas.List.Splits.{slice_split-cons_no, length-slice_split}
use Rattle.std.proofs.lemmas.Str.{IsUtf8-append, IsUtf8-from_ascii, is_utf8-from_IsUtf8, IsUtf8-from_is_utf8}
use Rattle.ds_base.specs.Keys.{is_name, is_reserved}
use Rattle.ds_base.specs.declared.column.Column.{Column}
use Rattle.ds_indexdef.specs.Definitions.{same_def, AreDefs}
use Rattle.ds_indexdef.specs.DefinitionLaws.{same_def-decides}
use Rattle.ds_indexdef.specs.Lines.{is_newline, is_blank, is_space, lines_of, ended, before_comment, without_front, without_end}
use Rattle.ds_indexdef.specs.Lines.{kept_before, cut}
use Rattle.ds_indexdef.specs.Forms.{is_name_byte, is_plain, is_kind, is_property, either, kind_form, name_form, form_of_cut, form_of}
use Rattle.ds_base.specs.KeyColumn.{key_name}
use Rattle.ds_indexdef.specs.Reading.{Line, numbered, numbered_before, yaml_of, ends_in_key, is_builtin, definition_of, adds_nothing}
use Rattle.ds_indexdef.specs.Reading.{with_entry}
use Rattle.ds_indexdef.specs.Grammar.{says, are_orderly, AreProperties, one, several, directed, given, entry, AreEntries, none, further}
use Rattle.ds_indexdef.specs.Grammar.{IsFile, indexes, with_entries, lines_in}
use Rattle.ds_indexdef.specs.Text.{line, name_line, direction_line, column_lines, kind_line, ancestor_line, written_columns, def_lines}
use Rattle.ds_indexdef.specs.Text.{written_lines, text_of, has_property_names, can_write_def, can_write}
use Rattle.ds_indexdef.specs.declared.IndexDef.{IndexDef}
use Rattle.ds_indexdef.specs.declared.form.Form.{Form}
use Rattle.ds_indexdef.specs.declared.form.Form.TheVariants.{Indexes, Kind, Ancestor, Properties, Name, Direction, Wrong}
use Rattle.ds_indexdef.proofs.LineLaws.{ended-cons}
use Rattle.ds_indexdef.proofs.GrammarLaws.{both, and_both}
use Rattle.ds_indexdef.proofs.YamlLaws.{stand-given}

-- ---- bytes of names

untrue : (b : Bool) → not b ≡ true → b ≡ false
untrue true e = absurd (cc)
untrue false e = refl

-- none of seven
seven : (a b c d e f g : Bool) → not (a || b || c || d || e || f || g) ≡ true → (a ≡ false) × (b ≡ false) × (c ≡ false) × (d ≡ false) × (g ≡ false)
seven false false false false false false false h = (refl, refl, refl, refl, refl)
seven a b c d e f g h = absurd (cc)

-- a byte of a name is no space, tab, newline, carriage return or `#`
record Inner (b : ℕ) : Type 0 where
  space : (eqb b 32) ≡ false
  tab : (eqb b 9) ≡ false
  newline : (eqb b 10) ≡ false
  return : (eqb b 13) ≡ false
  hash : (eqb b 35) ≡ false

inner : (b : ℕ) → is_name_byte b ≡ true → Inner b
inner b h =
    let s = seven (eqb b 32) (eqb b 9) (eqb b 10) (eqb b 13) (eqb b 34) (eqb b 39) (eqb b 35) h in
    record { space = s.0; tab = s.1; newline = s.2; return = s.3; hash = s.4 }

not_blank : (b : ℕ) → Inner b → is_blank b ≡ false
not_blank b i = rw (i.space, i.tab) refl

not_space : (b : ℕ) → Inner b → is_space b ≡ false
not_space b i = rw (i.space, i.tab, i.return) refl

abbrev unbroken : List ℕ → Bool
unbroken bs = list_all (λ b. not (is_newline b)) bs

name-unbroken : (bs : List ℕ) → list_all is_name_byte bs ≡ true → unbroken bs ≡ true
name-unbroken [] h = refl
name-unbroken (b ∷ bs) h =
    let parts = both (is_name_byte b) (list_all is_name_byte bs) h in
    let i = inner b parts.0 in
    and_both (not (is_newline b)) (unbroken bs) (ap not i.newline) (name-unbroken bs parts.1)

stays : (fresh hash : Bool) (b : ℕ) (rest : List ℕ) → hash ≡ false → cond (fresh && hash) [] (b ∷ rest) ≡ b ∷ rest
stays true hash b rest e = ap (λ h. cond h [] (b ∷ rest)) e
stays false hash b rest e = refl

name-comment : (fresh : Bool) (bs : List ℕ) → list_all is_name_byte bs ≡ true → before_comment fresh bs ≡ bs
name-comment fresh [] h = refl
name-comment fresh (b ∷ bs) h =
    let parts = both (is_name_byte b) (list_all is_name_byte bs) h in
    let i = inner b parts.0 in
    stays fresh (eqb b 35) b (before_comment (is_blank b) bs) i.hash ∙ ap (λ r. b ∷ r) (name-comment (is_blank b) bs parts.1)

-- the end of a name isn't cut
name-end : (b : ℕ) (bs : List ℕ) → list_all is_name_byte (b ∷ bs) ≡ true → without_end is_space (b ∷ bs) ≡ b ∷ bs
name-end b [] h =
    let i = inner b (both (is_name_byte b) true h).0 in ap (λ x. cond x [] (b ∷ [])) (not_space b i)
name-end b (c ∷ bs) h = ap (kept_before is_space b) (name-end c bs (both (is_name_byte b) (list_all is_name_byte (c ∷ bs)) h).1)

name-front : (b : ℕ) (bs : List ℕ) → list_all is_name_byte (b ∷ bs) ≡ true → without_front is_blank (b ∷ bs) ≡ b ∷ bs
name-front b bs h =
    let i = inner b (both (is_name_byte b) (list_all is_name_byte bs) h).0 in ap (λ x. cond x (without_front is_blank bs) (b ∷ bs)) (not_blank b i)

-- ---- UTF-8

ascii-at : (bs : List ℕ) → list_all (λ b. nat_lt b 128) bs ≡ true → IsAscii bs
ascii-at [] h i = omega arith
ascii-at (b ∷ bs) h zero = ltb-true b 128 (both (nat_lt b 128) (list_all (λ b. nat_lt b 128) bs) h).0
ascii-at (b ∷ bs) h (suc i) = ascii-at bs (both (nat_lt b 128) (list_all (λ b. nat_lt b 128) bs) h).1 i

ascii : (bs : List ℕ) → list_all (λ b. nat_lt b 128) bs ≡ true → is_utf8 bs ≡ true
ascii bs h = is_utf8-from_IsUtf8 bs (IsUtf8-from_ascii bs (ascii-at bs h))

utf8-behind : (bs name : List ℕ) → list_all (λ b. nat_lt b 128) bs ≡ true → is_utf8 name ≡ true → is_utf8 (bs ++ name) ≡ true
utf8-behind bs name h u = is_utf8-from_IsUtf8 (bs ++ name) (IsUtf8-append bs name (IsUtf8-from_ascii bs (ascii-at bs h)) (IsUtf8-from_is_utf8 name u))

-- ---- what the written lines say

indexes-says : form_of (codes "indexes:") ≡ Indexes
unfolding form_of
indexes-says = ap (λ b. cond b Indexes Wrong) (ascii (codes "indexes:") refl)

properties-says : form_of (codes "  properties:") ≡ Properties
unfolding form_of
properties-says = ap (λ b. cond b Properties Wrong) (ascii (codes "  properties:") refl)

ancestor-says : (a : Bool) → form_of (ancestor_line a) ≡ Ancestor a
unfolding form_of
ancestor-says true = ap (λ b. cond b (Ancestor true) Wrong) (ascii (ancestor_line true) refl)
ancestor-says false = ap (λ b. cond b (Ancestor false) Wrong) (ascii (ancestor_line false) refl)

direction-says : (d : Bool) → form_of (direction_line d) ≡ Direction d
unfolding form_of
direction-says true = ap (λ b. cond b (Direction true) Wrong) (ascii (direction_line true) refl)
direction-says false = ap (λ b. cond b (Direction false) Wrong) (ascii (direction_line false) refl)

plain-parts : (name : List ℕ) → is_plain name ≡ true → (is_utf8 name ≡ true) × (list_all is_name_byte name ≡ true) × (0 < length name)
plain-parts name h =
    let parts = both (is_utf8 name) (is_name name && list_all is_name_byte name) h in
    let more = both (is_name name) (list_all is_name_byte name) parts.1 in
    let long = both (nat_le 1 (length name)) (nat_le (length name) 1500) more.0 in
    (parts.0, more.1, omega (arith, leb-true 1 (length name) long.0))

kind-cut : (b : ℕ) (bs : List ℕ) → list_all is_name_byte (b ∷ bs) ≡ true → form_of_cut (cut (kind_line (b ∷ bs))) ≡ kind_form (b ∷ bs)
kind-cut b bs h =
    ap (λ m. form_of_cut (without_end is_space (without_front is_space (kind_line m)))) (name-comment true (b ∷ bs) h)
    ∙ ap (λ m. form_of_cut (kept_before is_space 45 (kept_before is_space 32 (kept_before is_space 107 (kept_before is_space 105 (kept_before is_space 110 (kept_before is_space 100 (kept_before is_space 58 (kept_before is_space 32 m))))))))) (name-end b bs h)
    ∙ ap kind_form (name-front b bs h)

name-cut : (b : ℕ) (bs : List ℕ) → list_all is_name_byte (b ∷ bs) ≡ true → form_of_cut (cut (name_line (b ∷ bs))) ≡ name_form (b ∷ bs)
name-cut b bs h =
    ap (λ m. form_of_cut (without_end is_space (without_front is_space (name_line m)))) (name-comment true (b ∷ bs) h)
    ∙ ap (λ m. form_of_cut (kept_before is_space 45 (kept_before is_space 32 (kept_before is_space 110 (kept_before is_space 97 (kept_before is_space 109 (kept_before is_space 101 (kept_before is_space 58 (kept_before is_space 32 m))))))))) (name-end b bs h)
    ∙ ap name_form (name-front b bs h)

kind-says : (kind : List ℕ) → is_kind kind ≡ true → form_of (kind_line kind) ≡ Kind kind
unfolding form_of
kind-says [] h = absurd (omega (arith, (plain-parts [] (both (is_plain []) (not (is_reserved [])) h).0).2))
kind-says (b ∷ bs) h =
    let parts = plain-parts (b ∷ bs) (both (is_plain (b ∷ bs)) (not (is_reserved (b ∷ bs))) h).0 in
    ap (λ x. cond x (form_of_cut (cut (kind_line (b ∷ bs)))) Wrong) (utf8-behind (codes "- kind: ") (b ∷ bs) refl parts.0)
    ∙ kind-cut b bs parts.1 ∙ ap (λ x. cond x (Kind (b ∷ bs)) Wrong) h

name-says : (name : List ℕ) → is_property name ≡ true → form_of (name_line name) ≡ Name name
unfolding form_of
name-says [] h = absurd (omega (arith, (plain-parts [] (both (is_plain []) (not (is_reserved []) || bytes_eq [] key_name) h).0).2))
name-says (b ∷ bs) h =
    let parts = plain-parts (b ∷ bs) (both (is_plain (b ∷ bs)) (not (is_reserved (b ∷ bs)) || bytes_eq (b ∷ bs) key_name) h).0 in
    ap (λ x. cond x (form_of_cut (cut (name_line (b ∷ bs)))) Wrong) (utf8-behind (codes "  - name: ") (b ∷ bs) refl parts.0)
    ∙ name-cut b bs parts.1 ∙ ap (λ x. cond x (Name (b ∷ bs)) Wrong) h

-- ---- lists of lines

-- each line stands on a line of its own and says this
record Speaks (text : List ℕ) (form : Form) : Type 0 where
  unbroken_line : unbroken text ≡ true
  form_is : form_of text ≡ form
  counted : (n : ℕ) (more : List Line) → numbered_before n form more ≡ says n form ∷ more

abbrev Speak : List (List ℕ) → List Form → Type 0
Speak [] [] = Unit {0}
Speak [] (f ∷ fs) = ⊥
Speak (l ∷ ls) [] = ⊥
Speak (l ∷ ls) (f ∷ fs) = Speaks l f × Speak ls fs

speak-append : (ls : List (List ℕ)) (fs : List Form) (more : List (List ℕ)) (gs : List Form) → Speak ls fs → Speak more gs → Speak (ls ++ more) (fs ++ gs)
speak-append [] [] more gs s t = t
speak-append [] (f ∷ fs) more gs s t = absurd s
speak-append (l ∷ ls) [] more gs s t = absurd s
speak-append (l ∷ ls) (f ∷ fs) more gs s t = (s.0, speak-append ls fs more gs s.1 t)

split-line : (l rest : List ℕ) → unbroken l ≡ true → slice_split is_newline (l ++ 10 ∷ rest) ≡ l ∷ slice_split is_newline rest
split-line [] rest h = refl
split-line (b ∷ bs) rest h =
    let parts = both (not (is_newline b)) (unbroken bs) h in
    slice_split-cons_no is_newline b (bs ++ 10 ∷ rest) (untrue (is_newline b) parts.0) ∙ ap (onto_first b) (split-line bs rest parts.1)

lines-written : (ls : List (List ℕ)) (fs : List Form) → Speak ls fs → lines_of (flat_map line ls) ≡ ls
lines-written [] fs s = refl
lines-written (l ∷ ls) [] s = absurd s
lines-written (l ∷ ls) (f ∷ fs) s =
    let rest = flat_map line ls in
    ap lines_of (append_assoc l (10 ∷ []) rest) ∙ ap ended (split-line l rest s.0.unbroken_line)
    ∙ ended-cons l (slice_split is_newline rest) (omega (arith, length-slice_split is_newline rest)) ∙ ap (λ x. l ∷ x) (lines-written ls fs s.1)

abbrev counted_from : ℕ → List Form → List Line
counted_from n [] = []
counted_from n (f ∷ fs) = says n f ∷ counted_from (suc n) fs

numbered-spoken : (ls : List (List ℕ)) (fs : List Form) (n : ℕ) → Speak ls fs → numbered n ls ≡ counted_from n fs
numbered-spoken [] [] n s = refl
numbered-spoken [] (f ∷ fs) n s = absurd s
numbered-spoken (l ∷ ls) [] n s = absurd s
numbered-spoken (l ∷ ls) (f ∷ fs) n s =
    ap (λ x. numbered_before n x (numbered (suc n) ls)) s.0.form_is ∙ s.0.counted n (numbered (suc n) ls) ∙ ap (λ x. says n f ∷ x) (numbered-spoken ls fs (suc n) s.1)

-- ---- what is written of definitions

abbrev column_forms : Column → List Form
column_forms c = Name c.name ∷ Direction c.descending ∷ []

abbrev def_forms : IndexDef → List Form
def_forms def = Kind def.kind ∷ Ancestor def.ancestor ∷ Properties ∷ flat_map column_forms (written_columns def.columns)

name-line-unbroken : (name : List ℕ) → is_property name ≡ true → unbroken (name_line name) ≡ true
name-line-unbroken name h = name-unbroken name (plain-parts name (both (is_plain name) (not (is_reserved name) || bytes_eq name key_name) h).0).1

kind-line-unbroken : (kind : List ℕ) → is_kind kind ≡ true → unbroken (kind_line kind) ≡ true
kind-line-unbroken kind h = name-unbroken kind (plain-parts kind (both (is_plain kind) (not (is_reserved kind)) h).0).1

direction-unbroken : (d : Bool) → unbroken (direction_line d) ≡ true
direction-unbroken true = refl
direction-unbroken false = refl

ancestor-unbroken : (a : Bool) → unbroken (ancestor_line a) ≡ true
ancestor-unbroken true = refl
ancestor-unbroken false = refl

columns-speak : (cs : List Column) → has_property_names cs ≡ true → Speak (flat_map column_lines cs) (flat_map column_forms cs)
columns-speak [] h = tt
columns-speak (c ∷ cs) h =
    let parts = both (is_property c.name) (has_property_names cs) h in (
      record { unbroken_line = name-line-unbroken c.name parts.0; form_is = name-says c.name parts.0; counted = λ n more. refl },
      (record { unbroken_line = direction-unbroken c.descending; form_is = direction-says c.descending; counted = λ n more. refl }, columns-speak cs parts.1),
    )

key-property : is_property key_name ≡ true
key-property = ap (λ u. (u && true) && true) (ascii key_name refl)

written-names : (cs : List Column) → has_property_names cs ≡ true → has_property_names (written_columns cs) ≡ true
written-names [] h = ap (λ x. x && true) key-property
written-names (c ∷ cs) h = h

record Writable (def : IndexDef) : Type 0 where
  kind : is_kind def.kind ≡ true
  names : has_property_names def.columns ≡ true
  orderly : are_orderly def.columns ≡ true
  no_key : ends_in_key def.columns ≡ false
  no_builtin : is_builtin def ≡ false

writable : (def : IndexDef) → can_write_def def ≡ true → Writable def
writable def h =
    let parts = both (is_kind def.kind && has_property_names def.columns) (are_orderly def.columns && (not (ends_in_key def.columns) && not (is_builtin def))) h in
    let names = both (is_kind def.kind) (has_property_names def.columns) parts.0 in
    let order = both (are_orderly def.columns) (not (ends_in_key def.columns) && not (is_builtin def)) parts.1 in
    let rest = both (not (ends_in_key def.columns)) (not (is_builtin def)) order.1 in
    record { kind = names.0; names = names.1; orderly = order.0; no_key = untrue (ends_in_key def.columns) rest.0; no_builtin = untrue (is_builtin def) rest.1 }

defs-speak : (defs : List IndexDef) → list_all can_write_def defs ≡ true → Speak (flat_map def_lines defs) (flat_map def_forms defs)
defs-speak [] h = tt
defs-speak (d ∷ ds) h =
    let parts = both (can_write_def d) (list_all can_write_def ds) h in
    let w = writable d parts.0 in
    speak-append (def_lines d) (def_forms d) (flat_map def_lines ds) (flat_map def_forms ds) (
      record { unbroken_line = kind-line-unbroken d.kind w.kind; form_is = kind-says d.kind w.kind; counted = λ n more. refl },
      (
        record { unbroken_line = ancestor-unbroken d.ancestor; form_is = ancestor-says d.ancestor; counted = λ n more. refl },
        (record { unbroken_line = refl; form_is = properties-says; counted = λ n more. refl }, columns-speak (written_columns d.columns) (written-names d.columns w.names)),
      ),
    )
    (defs-speak ds parts.1)

-- ---- the entries that are written

abbrev written_entry : IndexDef → IndexDef
written_entry def = record { kind = def.kind; ancestor = def.ancestor; columns = written_columns def.columns }

written-orderly : (cs : List Column) → are_orderly cs ≡ true → are_orderly (written_columns cs) ≡ true
written-orderly [] h = refl
written-orderly (c ∷ cs) h = h

properties-of : (c : Column) (cs : List Column) (n : ℕ) (after : List Form)
    → (lines : List Line) × (m : ℕ) × AreProperties lines (c ∷ cs) × (counted_from n (flat_map column_forms (c ∷ cs) ++ after) ≡ lines ++ counted_from m after)
properties-of c [] n after = (
  says n (Name c.name) ∷ says (suc n) (Direction c.descending) ∷ [],
  suc (suc n),
  one (says n (Name c.name) ∷ says (suc n) (Direction c.descending) ∷ []) c (directed n (suc n) c.name c.descending),
  refl,
)
properties-of c (d ∷ more) n after =
    let rest = properties-of d more (suc (suc n)) after in
    let head = says n (Name c.name) ∷ says (suc n) (Direction c.descending) ∷ [] in (
      head ++ rest.0,
      rest.1,
      several head rest.0 c (d ∷ more) (directed n (suc n) c.name c.descending) rest.2,
      ap (λ x. says n (Name c.name) ∷ says (suc n) (Direction c.descending) ∷ x) rest.3,
    )

written-properties : (cs : List Column) (n : ℕ) (after : List Form)
    → (lines : List Line) × (m : ℕ) × AreProperties lines (written_columns cs) × (counted_from n (flat_map column_forms (written_columns cs) ++ after) ≡ lines ++ counted_from m after)
written-properties [] n after = properties-of (record { name = key_name; descending = false }) [] n after
written-properties (c ∷ cs) n after = properties-of c cs n after

entries-written : (defs : List IndexDef) (n : ℕ) → list_all can_write_def defs ≡ true → AreEntries (counted_from n (flat_map def_forms defs)) (map written_entry defs)
entries-written [] n h = none
entries-written (d ∷ ds) n h =
    let parts = both (can_write_def d) (list_all can_write_def ds) h in
    let w = writable d parts.0 in
    let after = flat_map def_forms ds in
    let p = written-properties d.columns (suc (suc (suc n))) after in
    let flag = says (suc n) (Ancestor d.ancestor) ∷ [] in
    let lines = says n (Kind d.kind) ∷ flag ++ says (suc (suc n)) Properties ∷ p.0 in
    subst (λ x. AreEntries (says n (Kind d.kind) ∷ says (suc n) (Ancestor d.ancestor) ∷ says (suc (suc n)) Properties ∷ x) (map written_entry (d ∷ ds))) (sym p.3)
    (further lines (counted_from p.1 after) (written_entry d) (map written_entry ds)
    (entry n (suc (suc n)) d.kind flag p.0 d.ancestor (written_columns d.columns) (given (suc n) d.ancestor) p.2 (written-orderly d.columns w.orderly))
    (entries-written ds p.1 parts.1))

-- ---- their definitions

definition-written : (kind : List ℕ) (ancestor : Bool) (cs : List Column) → ends_in_key cs ≡ false
    → definition_of (written_entry (record { kind = kind; ancestor = ancestor; columns = cs })) ≡ record { kind = kind; ancestor = ancestor; columns = cs }
definition-written kind ancestor [] h = refl
definition-written kind ancestor (c ∷ cs) h = ap (λ b. record { kind = kind; ancestor = ancestor; columns = cond b (take (length (c ∷ cs) - 1) (c ∷ cs)) (c ∷ cs) }) h

all-here : {A : Type 0} (P : A → Type 0) (xs : List A) (x : A) (more : List A) → AllByRecursion P (xs ++ x ∷ more) → P x
all-here P [] x more h = h.0
all-here P (y ∷ ys) x more h = all-here P ys x more h.1

other-way : (x y : IndexDef) → same_def x y ≡ false → same_def y x ≡ false
other-way x y h = elim (same_def y x) as (λ v. same_def y x ≡ v → v ≡ false) [
  | true ↦ λ e. absurd (let k : false ≡ true = sym h ∙ (same_def-decides x y).1 (sym ((same_def-decides y x).0 e)) in cc k)
  | false ↦ λ e. refl
] refl

fresh-here : (front : List IndexDef) (d : IndexDef) (more : List IndexDef) → IsDistinct same_def (front ++ d ∷ more) → list_any (same_def d) front ≡ false
unfolding IsDistinct
fresh-here [] d more h = refl
fresh-here (x ∷ xs) d more h =
    let a = other-way x d (all-here (λ y. same_def x y ≡ false) xs d more h.0) in
    let b = fresh-here xs d more h.1 in rw (a, b) refl

added-written : (front : List IndexDef) (d : IndexDef) → Writable d → list_any (same_def d) front ≡ false → length front < 200 → with_entry front (written_entry d) ≡ Some (front ++ d ∷ [])
added-written front d w new few =
    let e = definition-written d.kind d.ancestor d.columns w.no_key in
    let nothing_there : adds_nothing front d ≡ false = rw (w.no_builtin, new) refl in
    ap (λ x. cond (adds_nothing front x) (Some front) (cond (nat_lt (length front) 200) (Some (front ++ x ∷ [])) None)) e
    ∙ ap (λ b. cond b (Some front) (cond (nat_lt (length front) 200) (Some (front ++ d ∷ [])) None)) nothing_there
    ∙ ap (λ b. cond b (Some (front ++ d ∷ [])) None) (lt-ltb (length front) 200 few)

all-added : (front defs : List IndexDef) → list_all can_write_def defs ≡ true → IsDistinct same_def (front ++ defs) → length front + length defs ≤ 200
    → with_entries front (map written_entry defs) ≡ Some (front ++ defs)
all-added front [] h distinct few = ap (λ x. Some x) (sym (append-nil front))
all-added front (d ∷ ds) h distinct few =
    let parts = both (can_write_def d) (list_all can_write_def ds) h in
    let same = append_assoc front (d ∷ []) ds in
    let long : length (front ++ d ∷ []) + length ds ≤ 200 = omega (arith, length-append front (d ∷ [])) in
    ap (λ w. option_and_then (λ more. with_entries more (map written_entry ds)) w) (added-written front d (writable d parts.0) (fresh-here front d ds distinct) (omega arith))
    ∙ all-added (front ++ d ∷ []) ds parts.1 (subst (IsDistinct same_def) (sym same) distinct) long
    ∙ ap (λ x. Some x) same

-- ---- the whole text

text-speaks : (defs : List IndexDef) → list_all can_write_def defs ≡ true → Speak (written_lines defs) (Indexes ∷ flat_map def_forms defs)
text-speaks defs h = (record { unbroken_line = refl; form_is = indexes-says; counted = λ n more. refl }, defs-speak defs h)

pub read-written : (defs : List IndexDef) → AreDefs defs → IsTrue (can_write defs) → yaml_of (text_of defs) ≡ Ok defs
unfolding text_of
read-written defs kept can =
    let parts = both (nat_le (length defs) 200) (list_all can_write_def defs) can in
    let speaks = text-speaks defs parts.1 in
    let lines : lines_in (text_of defs) ≡ counted_from 1 (Indexes ∷ flat_map def_forms defs) =
    ap (numbered 1) (lines-written (written_lines defs) (Indexes ∷ flat_map def_forms defs) speaks) ∙ numbered-spoken (written_lines defs) (Indexes ∷ flat_map def_forms defs) 1 speaks in
    stand-given (text_of defs) defs (
      map written_entry defs,
      subst (λ x. IsFile x (map written_entry defs)) (sym lines) (indexes 1 (counted_from 2 (flat_map def_forms defs)) (map written_entry defs) (entries-written defs 2 parts.1)),
      all-added [] defs parts.1 kept.distinct (omega (arith, leb-true (length defs) 200 parts.0)),
    )

-- the same of an answer
pub answer-read : {E : Type 0} (r : Result (List ℕ) E) (defs slice : List IndexDef) → slice ≡ defs → AreDefs defs → IsTrue (can_write defs) → IfOk r (λ text. text ≡ text_of slice)
    → IfOk r (λ text. yaml_of text ≡ Ok defs)
answer-read (Ok text) defs slice same kept can e = ap yaml_of (e ∙ ap text_of same) ∙ read-written defs kept can
answer-read (Err x) defs slice same kept can e = e
