-- The rows of one index, put for each way or for each ancestor and way.
use Rattle.std.proofs.Common.{◌≡◌, ℕ, zero, suc, ◌+◌, ◌-◌, ◌<◌, ◌≤◌, ◌++◌, ◌∷◌, [], List, Bool, true, false, cond, length, get_or, take}
use Rattle.std.proofs.Common.{drop, map, refl, ap, sym, subst, ◌∙◌, arith, append_assoc, append-nil, Some, None}
use Rattle.std.specs.Prelude.{◌&&◌, flat_map, filter, if◌then◌else◌}
use Rattle.std.specs.List.{enumerate_from}
use Rattle.std.proofs.lemmas.List.{map-append, length-map, get_or-map, take_more, flat_map_more, drop_more, take_all, get_or_read}
use Rattle.std.proofs.lemmas.Grind.{flat_map-append}
use Rattle.std.specs.declared.cmp.Ordering.TheVariants.{Equal}
use Rattle.std.specs.Cmp.{tied_itself}
use Rattle.std.specs.Cmp.Lexicographic.{nat_list_cmp_total}
use Rattle.ds_base.specs.KeyOrder.{bytes_cmp}
use Rattle.ds_base.specs.declared.key.Elem.{Elem}
use Rattle.ds_base.specs.declared.column.Column.{Column}
use Rattle.ds_entity.specs.declared.entity.Property.{Property}
use Rattle.ds_base.specs.declared.index_value.IndexValue.{IndexValue}
use Rattle.ds_base.specs.Keys.{KeyParts}
use Rattle.ds_entity.specs.Entities.{EntityParts}
use Rattle.ds_indexdef.specs.declared.IndexDef.{IndexDef}
use Rattle.ds_bytes.specs.Encoding.{escaped, key_bytes, key_encoding, ancestor_of}
use Rattle.ds_bytes.specs.Rows.{columns_bytes}
use Rattle.ds_rows.specs.declared.ways.ColumnValues.{ColumnValues}
use Rattle.ds_rows.specs.IndexedValues.{kind_of, kind_in, property_values, each_way}
use Rattle.ds_base.specs.KeyColumn.{is_key_name}
use Rattle.ds_rows.specs.Indexes.{RowIndex, Composite, directions, index_key_descends, has_ancestor, AllByKey, KindByKey, ByProperty, front_columns}
use Rattle.ds_rows.specs.Indexes.{last_key_descends, property_indexes, composite_indexes}
use Rattle.ds_rows.specs.Rows.{IndexRow, row_with, paths_to, ancestors, index_lists, index_front, index_row_bytes, rows_in}
use Rattle.ds_rows.specs.Rows.{rows_of}
use Rattle.ds_rows.specs.Spans.{Written}
use Rattle.ds_rows.specs.Ways.{lists_of, directions_of, row_of_way, ancestor_rows}

-- ---- one index

plain_rows : (f : IndexRow → List ℕ) (g : List IndexValue → IndexRow) (ways : List (List IndexValue)) → map f (map g ways ++ [])
    ≡ map (λ w. f (g w)) ways
plain_rows f g [] = refl
plain_rows f g (w ∷ ways) = ap (λ rows. f (g w) ∷ rows) (plain_rows f g ways)

-- without ancestors there is one row for each way
-- what the rows in a property's index begin with, by what those in the index of its kind do
pub property_front_by : (kind_front name : List ℕ) (descending : Bool) (namespace kind : List ℕ) → kind_front ≡ index_front KindByKey namespace kind
    → (if descending then 3 else 2) ∷ (drop 1 kind_front ++ escaped name) ≡ index_front (ByProperty name descending) namespace kind
property_front_by kind_front name true namespace kind is =
    ap (λ (bs : List ℕ). 3 ∷ (drop 1 bs ++ escaped name)) is ∙ ap (λ (bs : List ℕ). 3 ∷ bs) (append_assoc (escaped namespace) (escaped kind) (escaped name))
property_front_by kind_front name false namespace kind is =
    ap (λ (bs : List ℕ). 2 ∷ (drop 1 bs ++ escaped name)) is ∙ ap (λ (bs : List ℕ). 2 ∷ bs) (append_assoc (escaped namespace) (escaped kind) (escaped name))

pub rows_without : (e : EntityParts) (i : RowIndex) (front key : List ℕ) (lists : List (List IndexValue)) (descends : List Bool)
    → has_ancestor i ≡ false
    → front ≡ index_front i e.key.namespace (kind_of e.key) → key ≡ key_encoding (index_key_descends i) e.key → lists ≡ index_lists e i
    → descends ≡ directions i → map (λ values. front ++ (columns_bytes descends values ++ key)) (each_way lists) ≡ rows_in e i
rows_without e i front key lists descends none front_is key_is lists_are directions_are =
    (λ t. map (λ values. front_is t ++ (columns_bytes (directions_are t) values ++ key_is t)) (each_way (lists_are t)))
    ∙ sym (plain_rows (index_row_bytes i) (row_with e.key None) (each_way (index_lists e i)))
    ∙ ap (λ (b : Bool). map (index_row_bytes i) (flat_map (λ a. map (row_with e.key a) (each_way (index_lists e i))) (cond b (map
    (λ a. Some a) (ancestors e.key)) (None ∷ []))))
    (sym none)

map_map : (f : IndexRow → List ℕ) (g : List IndexValue → IndexRow) (ways : List (List IndexValue)) → map f (map g ways)
    ≡ map (λ w. f (g w)) ways
map_map f g [] = refl
map_map f g (w ∷ ways) = ap (λ rows. f (g w) ∷ rows) (map_map f g ways)

for_each : (f : IndexRow → List ℕ) (k : KeyParts) (ways : List (List IndexValue)) (keys : List KeyParts)
    → map f (flat_map (λ a. map (row_with k a) ways) (map (λ a. Some a) keys))
    ≡ flat_map (λ a. map (λ w. f (row_with k (Some a) w)) ways) keys
for_each f k ways [] = refl
for_each f k ways (a ∷ keys) =
    map-append f (map (row_with k (Some a)) ways) (flat_map (λ a. map (row_with k a) ways) (map (λ a. Some a) keys))
    ∙ (λ t. map_map f (row_with k (Some a)) ways t ++ for_each f k ways keys t)

regrouped : (front : List ℕ) (columns : List ColumnValues) (key : List ℕ) (ways : List (List IndexValue)) (keys : List KeyParts)
    → flat_map (λ a. map (row_of_way (front ++ key_bytes a) columns key) ways) keys
    ≡ flat_map (λ a. map (λ w. front ++ (key_bytes a ++ (columns_bytes (directions_of columns) w ++ key))) ways) keys
regrouped front columns key ways keys = λ t. flat_map (λ a. map (λ w. append_assoc front (key_bytes a) (columns_bytes
    (directions_of columns) w ++ key) t) ways) keys

-- with ancestors there is one row for each of them and each way
pub rows_with : (e : EntityParts) (i : RowIndex) (front key : List ℕ) (columns : List ColumnValues) → has_ancestor i ≡ true
    → front ≡ index_front i e.key.namespace (kind_of e.key) → key ≡ key_encoding (index_key_descends i) e.key → lists_of columns ≡ index_lists e i
    → directions_of columns ≡ directions i → flat_map (ancestor_rows front columns key) (ancestors e.key) ≡ rows_in e i
rows_with e i front key columns some front_is key_is lists_are directions_are =
    regrouped front columns key (each_way (lists_of columns)) (ancestors e.key)
    ∙ (λ t. flat_map (λ a. map (λ w. front_is t ++ (key_bytes a ++ (columns_bytes (directions_are t) w ++ key_is t))) (each_way
    (lists_are t))) (ancestors e.key))
    ∙ sym (for_each (index_row_bytes i) e.key (each_way (index_lists e i)) (ancestors e.key))
    ∙ ap (λ (b : Bool). map (index_row_bytes i) (flat_map (λ a. map (row_with e.key a) (each_way (index_lists e i))) (cond b (map
    (λ a. Some a) (ancestors e.key)) (None ∷ []))))
    (sym some)

-- ---- ancestors

length_paths : (es : List Elem) → length (paths_to es) ≡ length es
length_paths [] = refl
length_paths (e ∷ es) = ap (λ n. suc n) (length-map (paths_to es) (λ (path : List Elem). e ∷ path) ∙ length_paths es)

path_at : (es : List Elem) (i : ℕ) (d : List Elem) → i < length es → get_or (paths_to es) i d ≡ take (i + 1) es
path_at [] i d below = absurd (omega arith)
path_at (e ∷ es) zero d below = refl
path_at (e ∷ es) (suc i) d below =
    let inside : i < length (paths_to es) = omega (arith, length_paths es) in
    let next : suc (i + 1) ≡ suc i + 1 = omega arith in
    get_or-map (λ (path : List Elem). e ∷ path) (paths_to es) i [] d inside
    ∙ ap (λ (path : List Elem). e ∷ path) (path_at es i [] (omega arith))
    ∙ ap (λ n. take n (e ∷ es)) next

pub length_ancestors : (k : KeyParts) → length (ancestors k) ≡ length k.elems
length_ancestors k = length-map (paths_to k.elems) (λ (path : List Elem). record { namespace = k.namespace; elems = path })
    ∙ length_paths k.elems

pub ancestor_at : (k : KeyParts) (i : ℕ) (d : KeyParts) → i < length k.elems → get_or (ancestors k) i d ≡ ancestor_of k (i + 1)
ancestor_at k i d below =
    let inside : i < length (paths_to k.elems) = omega (arith, length_paths k.elems) in
    get_or-map (λ (path : List Elem). record { namespace = k.namespace; elems = path }) (paths_to k.elems) i [] d inside
    ∙ ap (λ (path : List Elem). record { namespace = k.namespace; elems = path }) (path_at k.elems i [] below)

-- the rows of one more ancestor
pub one_more_ancestor : (start : List (List ℕ)) (front : List ℕ) (columns : List ColumnValues) (last : List ℕ) (k : KeyParts) (i : ℕ)
    (begun before now : List ℕ) (w v : Written)
    → i < length k.elems → begun ≡ front → now ≡ begun ++ key_bytes (ancestor_of k (i + 1))
    → w ≡ record { rows = start ++ flat_map (ancestor_rows front columns last) (take i (ancestors k)); begun = [] }
    → v ≡ record { rows = w.rows ++ map (row_of_way now columns last) (each_way (lists_of columns)); begun = [] }
    → v ≡ record { rows = start ++ flat_map (ancestor_rows front columns last) (take (i + 1) (ancestors k)); begun = [] }
one_more_ancestor start front columns last k i begun before now w v below kept now_is so_far more =
    let inside : i < length (ancestors k) = omega (arith, length_ancestors k) in
    let f : KeyParts → List (List ℕ) = ancestor_rows front columns last in
    let a : KeyParts = get_or (ancestors k) i k in
    let front_is : now ≡ front ++ key_bytes a =
    now_is ∙ ap (λ (bs : List ℕ). bs ++ key_bytes (ancestor_of k (i + 1))) kept
    ∙ ap (λ (b : KeyParts). front ++ key_bytes b) (sym (ancestor_at k i k below)) in
    more
    ∙ (λ t. record { rows = (so_far t).rows ++ map (row_of_way (front_is t) columns last) (each_way (lists_of columns)); begun = [] })
    ∙ ap (λ (rows : List (List ℕ)). record { rows = rows; begun = [] })
    (flat_map_more f start (take i (ancestors k)) a
    ∙ ap (λ (keys : List KeyParts). start ++ flat_map f keys) (sym (take_more (ancestors k) i k inside)))

-- ---- columns

-- the columns without a key at their end
pub columns_before_key : (cs : List Column) (d : Column) → 0 < length cs → is_key_name (get_or cs (length cs - 1) d).name ≡ true
    → take (length cs - 1) cs ≡ front_columns cs
columns_before_key [] d some named = absurd (omega arith)
columns_before_key (c ∷ []) d some named = ap (λ (b : Bool). cond b [] (c ∷ [])) (sym named)
columns_before_key (c ∷ b ∷ cs) d some named =
    let last : suc (suc (length cs)) - 1 ≡ suc (suc (length cs) - 1) = omega arith in
    ap (λ n. take n (c ∷ b ∷ cs)) last
    ∙ ap (λ (xs : List Column). c ∷ xs) (columns_before_key (b ∷ cs) d (omega arith)
    (ap (λ n. is_key_name (get_or (c ∷ b ∷ cs) n d).name) (sym last) ∙ named))

pub columns_with_none : (cs : List Column) (d : Column) → (0 < length cs → is_key_name (get_or cs (length cs - 1) d).name ≡ false) → cs
    ≡ front_columns cs
columns_with_none [] d other = refl
columns_with_none (c ∷ []) d other = ap (λ (b : Bool). cond b [] (c ∷ [])) (sym (other (omega arith)))
columns_with_none (c ∷ b ∷ cs) d other =
    let last : suc (suc (length cs)) - 1 ≡ suc (suc (length cs) - 1) = omega arith in
    ap (λ (xs : List Column). c ∷ xs) (columns_with_none (b ∷ cs) d (λ some. ap (λ n. is_key_name (get_or (c ∷ b ∷ cs) n d).name)
    (sym last) ∙ other (omega arith)))

pub last_descends : (cs : List Column) (d : Column) → 0 < length cs
    → (is_key_name (get_or cs (length cs - 1) d).name && (get_or cs (length cs - 1) d).descending) ≡ last_key_descends cs
last_descends [] d some = absurd (omega arith)
last_descends (c ∷ []) d some = refl
last_descends (c ∷ b ∷ cs) d some =
    let last : suc (suc (length cs)) - 1 ≡ suc (suc (length cs) - 1) = omega arith in
    ap (λ n. is_key_name (get_or (c ∷ b ∷ cs) n d).name && (get_or (c ∷ b ∷ cs) n d).descending) last
    ∙ last_descends (b ∷ cs) d (omega arith)

-- ---- index after index

-- the rows in the composite indexes of the definitions from a place on
abbrev pub rows_from : EntityParts → ℕ → List IndexDef → List (List ℕ)
rows_from e n defs =
    flat_map (rows_in e)
    (map (λ (placed : ℕ × IndexDef). Composite placed.0 placed.1) (filter (λ (placed : ℕ × IndexDef). kind_in placed.1.kind e.key)
    (enumerate_from n defs)))

chosen : (b : Bool) (rows : List (List ℕ)) (i : RowIndex) (more : List RowIndex) (f : RowIndex → List (List ℕ)) (g : Bool → List RowIndex)
    → g true ≡ i ∷ more → g false ≡ more → (rows ++ cond b (f i) []) ++ flat_map f more ≡ rows ++ flat_map f (g b)
chosen true rows i more f g p q = append_assoc rows (f i) (flat_map f more) ∙ ap (λ (is : List RowIndex). rows ++ flat_map f is) (sym p)
chosen false rows i more f g p q = ap (λ (rs : List (List ℕ)). rs ++ flat_map f more) (append-nil rows)
    ∙ ap (λ (is : List RowIndex). rows ++ flat_map f is) (sym q)

-- one property more
pub property_step : {X Y Z : Type 0} (f : Y → List Z) (g : X → List Y) (xs : List X) (i : ℕ) (x : X) (before after whole : List Z)
    → i < length xs
    → x ≡ get_or xs i x → before ++ flat_map f (flat_map g (drop i xs)) ≡ whole → after ≡ before ++ flat_map f (g x)
    → after ++ flat_map f (flat_map g (drop (i + 1) xs)) ≡ whole
property_step {X = X} {Z = Z} f g xs i x before after whole below is so_far more =
    let rest : drop i xs ≡ x ∷ drop (i + 1) xs = drop_more xs i x below ∙ ap (λ (y : X). y ∷ drop (i + 1) xs) (sym is) in
    ap (λ (zs : List Z). zs ++ flat_map f (flat_map g (drop (i + 1) xs))) more
    ∙ append_assoc before (flat_map f (g x)) (flat_map f (flat_map g (drop (i + 1) xs)))
    ∙ ap (λ (zs : List Z). before ++ zs) (sym (flat_map-append f (g x) (flat_map g (drop (i + 1) xs))))
    ∙ ap (λ (ys : List X). before ++ flat_map f (flat_map g ys)) (sym rest) ∙ so_far

-- ---- all rows

-- the rows put behind others are those of an index
pub rows_put : (w v : Written) (rows others : List (List ℕ)) → rows ≡ others → v ≡ record { rows = w.rows ++ rows; begun = [] }
    → v ≡ record { rows = w.rows ++ others; begun = [] }
rows_put w v rows others same is = is ∙ ap (λ (rs : List (List ℕ)). record { rows = w.rows ++ rs; begun = [] }) same

-- all ancestors
pub all_ancestors : (start : List (List ℕ)) (f : KeyParts → List (List ℕ)) (k : KeyParts) (n : ℕ) (w : Written) → length k.elems ≤ n
    → w ≡ record { rows = start ++ flat_map f (take n (ancestors k)); begun = [] }
    → w ≡ record { rows = start ++ flat_map f (ancestors k); begun = [] }
all_ancestors start f k n w all is =
    is ∙ ap (λ (keys : List KeyParts). record { rows = start ++ flat_map f keys; begun = [] })
    (take_all n (ancestors k) (omega (arith, length_ancestors k)))

-- what holds in a list holds in an equal one
pub in_same : {X : Type 0} (items xs : List X) (i : ℕ) (x : X) → items ≡ xs → i < length items → x ≡ get_or items i x
    → (i < length xs) × (x ≡ get_or xs i x)
in_same {X = X} items xs i x same below is = (
  subst (λ (ys : List X). i < length ys) same below,
  is ∙ ap (λ (ys : List X). get_or ys i x) same,
)

-- the values at the place of a property are its own
pub own_values : (ps : List Property) (lists : List (List IndexValue)) (i : ℕ) (values : List IndexValue) (p : Property)
    → lists ≡ map property_values ps → i < length ps → values ≡ get_or lists i values → p ≡ get_or ps i p → values ≡ property_values p
own_values ps lists i values p theirs below is at =
    is ∙ ap (λ (ls : List (List IndexValue)). get_or ls i values) theirs ∙ get_or-map property_values ps i p values below
    ∙ ap property_values (sym at)

pub same_names : (ps : List Property) (i : ℕ) (p d : Property) → i < length ps → p ≡ get_or ps i p → bytes_cmp (get_or ps i d).name p.name
    ≡ Equal
same_names ps i p d below at =
    ap (λ (q : Property). bytes_cmp q.name p.name) (sym (get_or_read ps i p below at d)) ∙ tied_itself nat_list_cmp_total p.name

-- index after index
pub all_indexes : (defs : List IndexDef) (e : EntityParts)
    → ((rows_in e AllByKey ++ rows_in e KindByKey) ++ flat_map (rows_in e) (flat_map property_indexes e.properties))
    ++ flat_map (rows_in e) (composite_indexes defs e) ≡ rows_of defs e
all_indexes defs e =
    let a : List (List ℕ) = rows_in e AllByKey in
    let k : List (List ℕ) = rows_in e KindByKey in
    let p : List (List ℕ) = flat_map (rows_in e) (flat_map property_indexes e.properties) in
    let c : List (List ℕ) = flat_map (rows_in e) (composite_indexes defs e) in
    append_assoc (a ++ k) p c ∙ append_assoc a k (p ++ c)
    ∙ ap (λ (rs : List (List ℕ)). a ++ (k ++ rs)) (sym (flat_map-append (rows_in e) (flat_map property_indexes e.properties)
    (composite_indexes defs e)))

-- the rows that were put, index after index
pub all_put : (defs : List IndexDef) (e : EntityParts) (w0 w1 w2 w3 : Written) (result : List (List ℕ)) → w0
    ≡ record { rows = []; begun = [] }
    → w1 ≡ record { rows = w0.rows ++ (rows_in e AllByKey ++ rows_in e KindByKey); begun = [] }
    → w2 ≡ record { rows = w1.rows ++ flat_map (rows_in e) (flat_map property_indexes e.properties); begun = [] }
    → w3 ≡ record { rows = w2.rows ++ flat_map (rows_in e) (composite_indexes defs e); begun = [] } → result ≡ w3.rows → result
    ≡ rows_of defs e
all_put defs e w0 w1 w2 w3 result none keys properties composites is =
    let a : List (List ℕ) = rows_in e AllByKey ++ rows_in e KindByKey in
    let p : List (List ℕ) = flat_map (rows_in e) (flat_map property_indexes e.properties) in
    let c : List (List ℕ) = flat_map (rows_in e) (composite_indexes defs e) in
    is ∙ ap (λ (w : Written). w.rows) composites ∙ ap (λ (w : Written). w.rows ++ c) properties
    ∙ ap (λ (w : Written). (w.rows ++ p) ++ c) keys
    ∙ ap (λ (w : Written). ((w.rows ++ a) ++ p) ++ c) none ∙ all_indexes defs e
