-- A branch's rows compare in the merged columns as they do in the branch's own: what the other columns have is the same for all of them.
use Rattle.std.proofs.Common.{◌≡◌, ℕ, List, [], ◌∷◌, ◌++◌, length, map, refl, sym, ap, ◌∙◌, append_assoc, length-append, arith}
use Rattle.std.proofs.Common.{Bool, true, false, cond, not, ◌||◌, ◌&&◌, Some, None, bytes_eq}
use Rattle.std.specs.Prelude.{filter, unwrap_or}
use Rattle.std.specs.Cmp.{tied_itself}
use Rattle.std.specs.Cmp.Lexicographic.{bytes_decides}
use Rattle.std.specs.List.{AllByRecursion, list_all}
use Rattle.std.specs.Ordering.{ordering_then}
use Rattle.std.proofs.lemmas.Bool.{and_parts, true≢false}
use Rattle.std.proofs.lemmas.List.{length-map}
use Rattle.ds_base.specs.declared.column.Column.{Column}
use Rattle.ds_base.specs.declared.index_value.IndexValue.{IndexValue}
use Rattle.ds_base.specs.declared.index_value.IndexValue.TheVariants.{Null}
use Rattle.ds_base.specs.IndexOrder.{index_value_cmp}
use Rattle.ds_base.specs.IndexOrderLaws.{index_value_cmp-total}
use Rattle.ds_base.specs.KeyOrder.{key_cmp}
use Rattle.ds_bytes.specs.Ordered.{directed_cmp}
use Rattle.ds_bytes.specs.Rows.{RowParts, columns_cmp}
use Rattle.ds_query.specs.declared.branch.Branch.{Branch}
use Rattle.ds_query.specs.declared.branch.Pair.{Pair}
use Rattle.ds_query.specs.ColumnLists.{has_column}
use Rattle.ds_base.specs.KeyColumn.{is_key_name}
use Rattle.ds_query.specs.Lawful.{has_pair, names_differ}
use Rattle.ds_pages.specs.Columns.{value_columns, value_named, directions, key_descends}
use Rattle.ds_pages.specs.Extended.{asked_value, else_asked, extended, extended_values}
use Rattle.ds_pages.specs.Places.{compare_rows}
use Rattle.ds_model.proofs.RowOrder.{IsLongRow, directed-total}

-- ---- names

name_decides : (m n : List ℕ) → bytes_eq m n ≡ true → m ≡ n
name_decides m n = (bytes_decides m n).0

name_itself : (n : List ℕ) → bytes_eq n n ≡ true
name_itself n = (bytes_decides n n).1 refl

name_turned : (m n : List ℕ) → bytes_eq m n ≡ false → bytes_eq n m ≡ false
name_turned m n other = by (bytes_eq n m) refl where
  by : (b : Bool) → bytes_eq n m ≡ b → b ≡ false
  by true same =
      absurd (true≢false (sym (ap (λ k. bytes_eq m k) (name_decides n m same) ∙ name_itself m) ∙ other))
  by false is = refl

or_parts : (a b : Bool) → (a || b) ≡ false → (a ≡ false) × (b ≡ false)
or_parts true b e = absurd (true≢false e)
or_parts false b e = (refl, e)

not_from : (b : Bool) → not b ≡ true → b ≡ false
not_from true e = absurd (true≢false (sym e))
not_from false e = refl

-- no column of this name is left where some are taken out
unnamed-filter : (p : Column → Bool) (name : List ℕ) (cs : List Column) → has_column cs name ≡ false → has_column (filter p cs) name ≡ false
unnamed-filter p name [] none = refl
unnamed-filter p name (c ∷ cs) none =
    by (p c) (unnamed-filter p name cs (or_parts (bytes_eq name c.name) (has_column cs name) none).1)
  where
    by : (b : Bool) → has_column (filter p cs) name ≡ false → has_column (cond b (c ∷ filter p cs) (filter p cs)) name ≡ false
    by true rest =
        ap (λ b. b || has_column (filter p cs) name) (or_parts (bytes_eq name c.name) (has_column cs name) none).0 ∙ rest
    by false rest = rest

differ-filter : (p : Column → Bool) (cs : List Column) → names_differ cs ≡ true → names_differ (filter p cs) ≡ true
differ-filter p [] differ = refl
differ-filter p (c ∷ cs) differ = by (p c) (differ-filter p cs parts.1) where
  parts : (not (has_column cs c.name) ≡ true) × (names_differ cs ≡ true)
  parts = and_parts (not (has_column cs c.name)) (names_differ cs) differ

  by : (b : Bool) → names_differ (filter p cs) ≡ true → names_differ (cond b (c ∷ filter p cs) (filter p cs)) ≡ true
  by true rest =
      ap (λ b. not b && names_differ (filter p cs)) (unnamed-filter p c.name cs (not_from (has_column cs c.name) parts.0)) ∙ rest
  by false rest = rest

in_turn : (p q : Column → Bool) (cs : List Column) → filter p (filter q cs) ≡ filter q (filter p cs)
in_turn p q [] = refl
in_turn p q (c ∷ cs) = by (p c) refl (q c) refl (in_turn p q cs) where
  by : (a : Bool) → p c ≡ a → (b : Bool) → q c ≡ b → filter p (filter q cs) ≡ filter q (filter p cs)
      → filter p (cond (q c) (c ∷ filter q cs) (filter q cs)) ≡ filter q (cond (p c) (c ∷ filter p cs) (filter p cs))
  by a is_p b is_q rest =
      ap (λ z. filter p (cond z (c ∷ filter q cs) (filter q cs))) is_q
      ∙ kept a is_p b is_q
      ∙ sym (ap (λ z. filter q (cond z (c ∷ filter p cs) (filter p cs))) is_p)
    where
      kept : (a : Bool) → p c ≡ a → (b : Bool) → q c ≡ b
          → filter p (cond b (c ∷ filter q cs) (filter q cs)) ≡ filter q (cond a (c ∷ filter p cs) (filter p cs))
      kept true is_p true is_q =
          ap (λ z. cond z (c ∷ filter p (filter q cs)) (filter p (filter q cs))) is_p ∙ ap (λ zs. c ∷ zs) rest
          ∙ sym (ap (λ z. cond z (c ∷ filter q (filter p cs)) (filter q (filter p cs))) is_q)
      kept true is_p false is_q =
          rest ∙ sym (ap (λ z. cond z (c ∷ filter q (filter p cs)) (filter q (filter p cs))) is_q)
      kept false is_p true is_q =
          ap (λ z. cond z (c ∷ filter p (filter q cs)) (filter p (filter q cs))) is_p ∙ rest
      kept false is_p false is_q = rest

-- ---- values by name

none_named : (name : List ℕ) (cs : List Column) (vs : List IndexValue) → has_column cs name ≡ false → value_named name cs vs ≡ None
none_named name [] vs none = refl
none_named name (c ∷ cs) [] none = refl
none_named name (c ∷ cs) (v ∷ vs) none =
    let parts = or_parts (bytes_eq name c.name) (has_column cs name) none in
    ap (λ b. cond b (Some v) (value_named name cs vs)) parts.0 ∙ none_named name cs vs parts.1

behind : (name : List ℕ) (front cs : List Column) (fv vs : List IndexValue) → length fv ≡ length front → has_column front name ≡ false
    → value_named name (front ++ cs) (fv ++ vs) ≡ value_named name cs vs
behind name [] cs [] vs long none = refl
behind name [] cs (f ∷ fv) vs long none = absurd (omega (arith, long))
behind name (c ∷ front) cs [] vs long none = absurd (omega (arith, long))
behind name (c ∷ front) cs (f ∷ fv) vs long none =
    let parts = or_parts (bytes_eq name c.name) (has_column front name) none in
    ap (λ b. cond b (Some f) (value_named name (front ++ cs) (fv ++ vs))) parts.0
    ∙ behind name front cs fv vs (omega (arith, long)) parts.1

unnamed-pushed : (front : List Column) (c : Column) (name : List ℕ) → has_column front name ≡ false → bytes_eq name c.name ≡ false
    → has_column (front ++ c ∷ []) name ≡ false
unnamed-pushed [] c name none other = ap (λ b. b || false) other
unnamed-pushed (f ∷ front) c name none other =
    let parts = or_parts (bytes_eq name f.name) (has_column front name) none in
    ap (λ b. b || has_column (front ++ c ∷ []) name) parts.0 ∙ unnamed-pushed front c name parts.1 other

-- ---- a branch's values beside those that it asks

abbrev head_of : List IndexValue → IndexValue
head_of [] = Null
head_of (v ∷ vs) = v

abbrev tail_of : List IndexValue → List IndexValue
tail_of [] = []
tail_of (v ∷ vs) = vs

module _ (pairs : List Pair) where
  abbrev unpaired : Column → Bool
  unpaired c = not (has_pair pairs c.name)

  abbrev own : List Column → List Column
  own = filter unpaired

  abbrev beside : List Column → List IndexValue → List IndexValue
  beside [] vs = []
  beside (c ∷ cs) vs =
      cond (has_pair pairs c.name) (unwrap_or (asked_value pairs c.name) Null ∷ beside cs vs) (head_of vs ∷ beside cs (tail_of vs))

  -- none of the names is one of the front's
  abbrev AreNew : List Column → List Column → Type 0
  AreNew front = AllByRecursion (λ (c : Column). has_column front c.name ≡ false)

  new_pushed : (front : List Column) (c : Column) (cs : List Column) → has_column cs c.name ≡ false → AreNew front cs
      → AreNew (front ++ c ∷ []) cs
  new_pushed front c [] none new = tt
  new_pushed front c (d ∷ cs) none new =
      let parts = or_parts (bytes_eq c.name d.name) (has_column cs c.name) none in
      (unnamed-pushed front c d.name new.0 (name_turned c.name d.name parts.0), new_pushed front c cs parts.1 new.1)

  abbrev value_of : List Column → List IndexValue → Column → IndexValue
  value_of columns vs c = else_asked (value_named c.name columns vs) (asked_value pairs c.name)

  values-beside : (front cs : List Column) (fv vs : List IndexValue) → length fv ≡ length front → length vs ≡ length (own cs)
      → names_differ cs ≡ true → AreNew front cs
      → map (value_of (front ++ own cs) (fv ++ vs)) cs ≡ beside cs vs
  values-beside front [] fv vs long whole differ new = refl
  values-beside front (c ∷ cs) fv vs long whole differ new =
      by (has_pair pairs c.name) refl vs whole (values-beside front cs fv) (λ v. values-beside (front ++ c ∷ []) cs (fv ++ v ∷ []))
    where
      parts : (not (has_column cs c.name) ≡ true) × (names_differ cs ≡ true)
      parts = and_parts (not (has_column cs c.name)) (names_differ cs) differ

      by : (b : Bool) → has_pair pairs c.name ≡ b → (ws : List IndexValue) → length ws ≡ length (own (c ∷ cs))
          → ((us : List IndexValue) → length fv ≡ length front → length us ≡ length (own cs) → names_differ cs ≡ true → AreNew front cs
          → map (value_of (front ++ own cs) (fv ++ us)) cs ≡ beside cs us)
          → ((v : IndexValue) (us : List IndexValue) → length (fv ++ v ∷ []) ≡ length (front ++ c ∷ []) → length us ≡ length (own cs)
          → names_differ cs ≡ true → AreNew (front ++ c ∷ []) cs
          → map (value_of ((front ++ c ∷ []) ++ own cs) ((fv ++ v ∷ []) ++ us)) cs ≡ beside cs us)
          → map (value_of (front ++ own (c ∷ cs)) (fv ++ ws)) (c ∷ cs) ≡ beside (c ∷ cs) ws
      by true is ws long' rest more =
          let columns : own (c ∷ cs) ≡ own cs = ap (λ b. cond (not b) (c ∷ own cs) (own cs)) is in
          let none : has_column cs c.name ≡ false = not_from (has_column cs c.name) parts.0 in
          ap (λ ds. map (value_of (front ++ ds) (fv ++ ws)) (c ∷ cs)) columns
          ∙ (λ i. else_asked
          ((behind c.name front (own cs) fv ws long new.0 ∙ none_named c.name (own cs) ws (unnamed-filter unpaired c.name cs none)) i)
          (asked_value pairs c.name)
          ∷ rest ws long (long' ∙ ap (λ (ds : List Column). length ds) columns) parts.1 new.1 i)
          ∙ sym (ap (λ b. cond b (unwrap_or (asked_value pairs c.name) Null ∷ beside cs ws) (head_of ws ∷ beside cs (tail_of ws))) is)
      by false is [] long' rest more =
          absurd (omega (arith, long', ap (λ b. length (cond (not b) (c ∷ own cs) (own cs))) is))
      by false is (w ∷ ws) long' rest more =
          let columns : own (c ∷ cs) ≡ c ∷ own cs = ap (λ b. cond (not b) (c ∷ own cs) (own cs)) is in
          let none : has_column cs c.name ≡ false = not_from (has_column cs c.name) parts.0 in
          let sizes : length ws ≡ length (own cs) = omega (arith, long', ap (λ (ds : List Column). length ds) columns) in
          let longer : length (fv ++ w ∷ []) ≡ length (front ++ c ∷ []) =
          omega (arith, length-append fv (w ∷ []), length-append front (c ∷ []), long) in
          ap (λ ds. map (value_of (front ++ ds) (fv ++ w ∷ ws)) (c ∷ cs)) columns
          ∙ (λ i. else_asked ((behind c.name front (c ∷ own cs) fv (w ∷ ws) long new.0
          ∙ ap (λ b. cond b (Some w) (value_named c.name (own cs) ws)) (name_itself c.name)) i) (asked_value pairs c.name)
          ∷ ((λ j. map (value_of (sym (append_assoc front (c ∷ []) (own cs)) j) (sym (append_assoc fv (w ∷ []) ws) j)) cs)
          ∙ more w ws longer sizes parts.1 (new_pushed front c cs none new.1)) i)
          ∙ sym (ap (λ b. cond b (unwrap_or (asked_value pairs c.name) Null ∷ beside cs (w ∷ ws)) (w ∷ beside cs ws)) is)

  -- the values that are asked tie
  beside-cmp : (cs : List Column) (vs ws : List IndexValue) → length vs ≡ length (own cs) → length ws ≡ length (own cs)
      → columns_cmp (map (λ c. c.descending) cs) (beside cs vs) (beside cs ws)
      ≡ columns_cmp (map (λ c. c.descending) (own cs)) vs ws
  beside-cmp [] vs ws p q = refl
  beside-cmp (c ∷ cs) vs ws p q = by (has_pair pairs c.name) refl vs ws p q (beside-cmp cs) where
    by : (b : Bool) → has_pair pairs c.name ≡ b → (vs ws : List IndexValue) → length vs ≡ length (own (c ∷ cs))
        → length ws ≡ length (own (c ∷ cs))
        → ((vs ws : List IndexValue) → length vs ≡ length (own cs) → length ws ≡ length (own cs)
        → columns_cmp (map (λ c. c.descending) cs) (beside cs vs) (beside cs ws)
        ≡ columns_cmp (map (λ c. c.descending) (own cs)) vs ws)
        → columns_cmp (map (λ c. c.descending) (c ∷ cs)) (beside (c ∷ cs) vs) (beside (c ∷ cs) ws)
        ≡ columns_cmp (map (λ c. c.descending) (own (c ∷ cs))) vs ws
    by true is vs ws p q rest =
        let asked : IndexValue = unwrap_or (asked_value pairs c.name) Null in
        let columns : own (c ∷ cs) ≡ own cs = ap (λ b. cond (not b) (c ∷ own cs) (own cs)) is in
        (λ i. columns_cmp (map (λ c. c.descending) (c ∷ cs))
        (cond (is i) (asked ∷ beside cs vs) (head_of vs ∷ beside cs (tail_of vs)))
        (cond (is i) (asked ∷ beside cs ws) (head_of ws ∷ beside cs (tail_of ws))))
        ∙ ap (λ r. ordering_then r (columns_cmp (map (λ c. c.descending) cs) (beside cs vs) (beside cs ws)))
        (tied_itself (directed-total c.descending index_value_cmp-total) asked)
        ∙ rest vs ws (p ∙ ap (λ (ds : List Column). length ds) columns) (q ∙ ap (λ (ds : List Column). length ds) columns)
        ∙ sym (ap (λ ds. columns_cmp (map (λ c. c.descending) ds) vs ws) columns)
    by false is [] ws p q rest = absurd (omega (arith, p, ap (λ b. length (cond (not b) (c ∷ own cs) (own cs))) is))
    by false is (v ∷ vs) [] p q rest = absurd (omega (arith, q, ap (λ b. length (cond (not b) (c ∷ own cs) (own cs))) is))
    by false is (v ∷ vs) (w ∷ ws) p q rest =
        let asked : IndexValue = unwrap_or (asked_value pairs c.name) Null in
        let columns : own (c ∷ cs) ≡ c ∷ own cs = ap (λ b. cond (not b) (c ∷ own cs) (own cs)) is in
        (λ i. columns_cmp (map (λ c. c.descending) (c ∷ cs))
        (cond (is i) (asked ∷ beside cs (v ∷ vs)) (v ∷ beside cs vs))
        (cond (is i) (asked ∷ beside cs (w ∷ ws)) (w ∷ beside cs ws)))
        ∙ ap (ordering_then (directed_cmp c.descending index_value_cmp v w))
        (rest vs ws (omega (arith, p, ap (λ (ds : List Column). length ds) columns))
        (omega (arith, q, ap (λ (ds : List Column). length ds) columns)))
        ∙ sym (ap (λ ds. columns_cmp (map (λ c. c.descending) ds) (v ∷ vs) (w ∷ ws)) columns)

  -- ---- `__key__`

  unpaired_key : (c : Column) → is_key_name c.name ≡ true → (ps : List Pair)
      → list_all (λ (p : Pair). not (is_key_name p.property)) ps ≡ true → has_pair ps c.name ≡ false
  unpaired_key c key [] none = refl
  unpaired_key c key (p ∷ ps) none = by (bytes_eq c.name p.property) refl (unpaired_key c key ps parts.1) where
    parts : (not (is_key_name p.property) ≡ true) × (list_all (λ (p : Pair). not (is_key_name p.property)) ps ≡ true)
    parts = and_parts (not (is_key_name p.property)) (list_all (λ (p : Pair). not (is_key_name p.property)) ps) none

    by : (b : Bool) → bytes_eq c.name p.property ≡ b → has_pair ps c.name ≡ false
        → (bytes_eq c.name p.property || has_pair ps c.name) ≡ false
    by true same rest =
        absurd (true≢false
        (sym (ap is_key_name (sym (name_decides c.name p.property same)) ∙ key) ∙ not_from (is_key_name p.property) parts.0))
    by false other rest = ap (λ b. b || has_pair ps c.name) other ∙ rest

  key_same : list_all (λ (p : Pair). not (is_key_name p.property)) pairs ≡ true → (cs : List Column)
      → key_descends cs ≡ key_descends (own cs)
  key_same none [] = refl
  key_same none (c ∷ cs) = by (has_pair pairs c.name) refl (is_key_name c.name) refl (key_same none cs) where
    by : (b : Bool) → has_pair pairs c.name ≡ b → (k : Bool) → is_key_name c.name ≡ k → key_descends cs ≡ key_descends (own cs)
        → ((is_key_name c.name && c.descending) || key_descends cs)
        ≡ key_descends (cond (not (has_pair pairs c.name)) (c ∷ own cs) (own cs))
    by true is true key rest = absurd (true≢false (sym is ∙ unpaired_key c key pairs none))
    by true is false key rest =
        ap (λ k. (k && c.descending) || key_descends cs) key ∙ rest
        ∙ sym (ap (λ b. key_descends (cond (not b) (c ∷ own cs) (own cs))) is)
    by false is k key rest =
        ap (λ b. (is_key_name c.name && c.descending) || b) rest
        ∙ sym (ap (λ b. key_descends (cond (not b) (c ∷ own cs) (own cs))) is)

all_new : (cs : List Column) → AllByRecursion (λ (c : Column). has_column [] c.name ≡ false) cs
all_new [] = tt
all_new (c ∷ cs) = (refl, all_new cs)

-- ---- a branch

module _ (merged : List Column) (q : Branch)
    (own_columns : filter (λ (c : Column). not (has_pair q.equal c.name)) merged ≡ q.columns)
    (differ : names_differ merged ≡ true)
    (no_key : list_all (λ (p : Pair). not (is_key_name p.property)) q.equal ≡ true) where
  columns_are : own q.equal (value_columns merged) ≡ value_columns q.columns
  columns_are =
      in_turn (unpaired q.equal) (λ c. not (is_key_name c.name)) merged ∙ ap value_columns own_columns

  values_are : (r : RowParts) → IsLongRow q.columns r → extended_values merged q r.values ≡ beside q.equal (value_columns merged) r.values
  values_are r long =
      ap (λ cs. map (value_of q.equal cs r.values) (value_columns merged)) (sym columns_are)
      ∙ values-beside q.equal [] (value_columns merged) [] r.values refl
      (long ∙ length-map (value_columns q.columns) (λ c. c.descending) ∙ ap (λ (cs : List Column). length cs) (sym columns_are))
      (differ-filter (λ c. not (is_key_name c.name)) merged differ) (all_new (value_columns merged))

  -- the branch's rows compare as they do without the merged columns
  pub extended-cmp : (x y : RowParts) → IsLongRow q.columns x → IsLongRow q.columns y
      → compare_rows merged (extended merged q x) (extended merged q y) ≡ compare_rows q.columns x y
  extended-cmp x y p q' =
      let size : length (value_columns q.columns) ≡ length (own q.equal (value_columns merged)) =
      ap (λ (cs : List Column). length cs) (sym columns_are) in
      let long : (r : RowParts) → IsLongRow q.columns r → length r.values ≡ length (own q.equal (value_columns merged)) = λ r l.
      l ∙ length-map (value_columns q.columns) (λ c. c.descending) ∙ size in
      (λ i. ordering_then
      ((ap (λ vs. columns_cmp (directions merged) vs (extended_values merged q y.values)) (values_are x p)
      ∙ ap (columns_cmp (directions merged) (beside q.equal (value_columns merged) x.values)) (values_are y q')
      ∙ beside-cmp q.equal (value_columns merged) x.values y.values (long x p) (long y q')
      ∙ ap (λ cs. columns_cmp (map (λ c. c.descending) cs) x.values y.values) columns_are) i)
      (directed_cmp ((key_same q.equal no_key merged ∙ ap key_descends own_columns) i) key_cmp x.key y.key))
