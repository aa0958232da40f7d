-- Rows of which each value is projected: a row is told by its mark, so no mark is reached twice.
use Rattle.std.proofs.Common.{◌≡◌, ◌⊎◌, inl, inr, ℕ, List, [], ◌∷◌, ◌++◌, length, fold, Bool, true, false, not, cond, ◌||◌, drop, get_or}
use Rattle.std.proofs.Common.{refl, sym, ap, ◌∙◌, subst, Option, Some, arith, bytes_eq}
use Rattle.std.specs.Prelude.{filter, map, unwrap_or}
use Rattle.std.specs.Cmp.Lexicographic.{bytes_decides, pointwise, pointwise_decides}
use Rattle.std.specs.List.{AllByRecursion, list_any}
use Rattle.std.specs.Ordering.{is_eq}
use Rattle.std.proofs.lemmas.List.{length-map}
use Rattle.ds_base.specs.declared.column.Column.{Column}
use Rattle.ds_base.specs.declared.index_value.IndexValue.{IndexValue}
use Rattle.ds_base.specs.declared.index_value.IndexValue.TheVariants.{Null}
use Rattle.ds_base.specs.IndexOrder.{index_value_cmp}
use Rattle.ds_base.specs.IndexOrderLaws.{same_index_value-decides}
use Rattle.ds_base.specs.KeyColumn.{is_key_name}
use Rattle.ds_base.specs.KeyOrder.{same_key}
use Rattle.ds_base.specs.KeyOrderLaws.{same_key-decides}
use Rattle.ds_bytes.specs.Rows.{RowParts, IsRow}
use Rattle.ds_query.specs.ColumnLists.{has_column}
use Rattle.ds_query.specs.Lawful.{names_differ}
use Rattle.ds_query.specs.Reasons.{has_name}
use Rattle.ds_query.specs.RowValues.{value_columns, value_named}
use Rattle.ds_cursor.specs.RowsOfColumns.{directions}
use Rattle.ds_zigzag.specs.Spans.{is_above}
use Rattle.ds_model.specs.Rows.{place_of}
use Rattle.ds_model.specs.Results.{same_mark, projected_values}
use Rattle.ds_pages.proofs.FirstLaws.{with_item}
use Rattle.ds_planner.proofs.Members.{Member, both, filter_member, join, member_append, not_true, or_cases, or_true, refuted, some_member}
use Rattle.ds_planner.proofs.Members.{true_false}
use Rattle.ds_branch.specs.Kept.{are_projected}
use Rattle.ds_branch.proofs.Walking.{reached, kept_at}

-- what is kept is one of the items
first_member : {A : Type 0} (same : A → A → Bool) (kept xs : List A) (x : A) → Member x (fold (with_item same) kept xs)
    → Member x kept ⊎ Member x xs
first_member same kept [] x m = inl m
first_member same kept (y ∷ xs) x m = by (list_any (same y) kept) (first_member same (with_item same kept y) xs x m) where
  by : (b : Bool) → Member x (cond b kept (kept ++ y ∷ [])) ⊎ Member x xs → Member x kept ⊎ Member x (y ∷ xs)
  by b (inr m) = inr (inr m)
  by true (inl m) = inl m
  by false (inl m) = last (member_append kept (y ∷ []) x m) where
    last : Member x kept ⊎ Member x (y ∷ []) → Member x kept ⊎ Member x (y ∷ xs)
    last (inl m) = inl m
    last (inr (inl e)) = inr (inl e)
    last (inr (inr m)) = absurd m

-- ---- columns of different names

in_some : (p : Column → Bool) (cs : List Column) (n : List ℕ) → has_column (filter p cs) n ≡ true → has_column cs n ≡ true
in_some p [] n h = h
in_some p (c ∷ cs) n h = by (in_some p cs n) (p c) h where
  behind : has_column cs n ≡ true → has_column (c ∷ cs) n ≡ true
  behind e = ap (λ b. bytes_eq n c.name || b) e ∙ or_true (bytes_eq n c.name)

  by : (has_column (filter p cs) n ≡ true → has_column cs n ≡ true) → (b : Bool)
      → has_column (cond b (c ∷ filter p cs) (filter p cs)) n ≡ true → has_column (c ∷ cs) n ≡ true
  by rest true k = elim (or_cases (bytes_eq n c.name) (has_column (filter p cs) n) k) [
    | inl e ↦ ap (λ b. b || has_column cs n) e
    | inr e ↦ behind (rest e)
  ]
  by rest false k = behind (rest k)

differ_kept : (p : Column → Bool) (cs : List Column) → names_differ cs ≡ true → names_differ (filter p cs) ≡ true
differ_kept p [] h = refl
differ_kept p (c ∷ cs) h =
    let two = both (not (has_column cs c.name)) (names_differ cs) h in
    by (not_true (has_column cs c.name) two.0) (differ_kept p cs two.1) (p c)
  where
    by : has_column cs c.name ≡ false → names_differ (filter p cs) ≡ true → (b : Bool)
        → names_differ (cond b (c ∷ filter p cs) (filter p cs)) ≡ true
    by off rest true =
        join (not (has_column (filter p cs) c.name)) (names_differ (filter p cs))
        (ap not (refuted (has_column (filter p cs) c.name) (λ e. true_false ⊥ (has_column cs c.name) (in_some p cs c.name e) off))) rest
    by off rest false = rest

-- ---- values by the names of their columns

abbrev named : List Column → List IndexValue → List ℕ → IndexValue
named cs vs n = unwrap_or (value_named n cs vs) Null

same_named : (cs : List Column) (xs ys : List IndexValue) (names : List (List ℕ)) (n : List ℕ) → map (named cs xs) names
    ≡ map (named cs ys) names → has_name names n ≡ true → named cs xs n ≡ named cs ys n
same_named cs xs ys [] n same h = absurd (cc h)
same_named cs xs ys (m ∷ names) n same h = elim (or_cases (bytes_eq n m) (has_name names n) h) [
  | inl e ↦ subst (λ k. named cs xs k ≡ named cs ys k) (sym ((bytes_decides n m).0 e)) (ap (λ vs. get_or vs 0 Null) same)
  | inr e ↦ same_named cs xs ys names n (ap (λ vs. drop 1 vs) same) e
]

module _ (c : Column) (cs : List Column) (x y : IndexValue) (xs ys : List IndexValue) where
  -- what the other columns have isn't told by the first one
  others : (ds : List Column) → has_column ds c.name ≡ false
      → AllByRecursion (λ (d : Column). named (c ∷ cs) (x ∷ xs) d.name ≡ named (c ∷ cs) (y ∷ ys) d.name) ds
      → AllByRecursion (λ (d : Column). named cs xs d.name ≡ named cs ys d.name) ds
  others [] off all = tt
  others (d ∷ ds) off all = (by (bytes_eq d.name c.name) refl, others ds (behind (bytes_eq c.name d.name) off) all.1) where
    behind : (b : Bool) → (b || has_column ds c.name) ≡ false → has_column ds c.name ≡ false
    behind true h = absurd (cc h)
    behind false h = h

    first : (b : Bool) → (b || has_column ds c.name) ≡ false → b ≡ true → ⊥
    first true h e = cc h
    first false h e = cc e

    by : (b : Bool) → bytes_eq d.name c.name ≡ b → named cs xs d.name ≡ named cs ys d.name
    by true e =
        absurd (first (bytes_eq c.name d.name) off ((bytes_decides c.name d.name).1 (sym ((bytes_decides d.name c.name).0 e))))
    by false e =
        sym (ap (λ b. unwrap_or (cond b (Some x) (value_named d.name cs xs)) Null) e) ∙ all.0
        ∙ ap (λ b. unwrap_or (cond b (Some y) (value_named d.name cs ys)) Null) e

-- values that are the same by name are the same
same_values : (cs : List Column) (xs ys : List IndexValue) → names_differ cs ≡ true → length xs ≡ length cs → length ys ≡ length cs
    → AllByRecursion (λ (c : Column). named cs xs c.name ≡ named cs ys c.name) cs → xs ≡ ys
same_values [] [] [] differ l k all = refl
same_values [] [] (y ∷ ys) differ l k all = absurd (omega (arith, k))
same_values [] (x ∷ xs) ys differ l k all = absurd (omega (arith, l))
same_values (c ∷ cs) [] ys differ l k all = absurd (omega (arith, l))
same_values (c ∷ cs) (x ∷ xs) [] differ l k all = absurd (omega (arith, k))
same_values (c ∷ cs) (x ∷ xs) (y ∷ ys) differ l k all =
    let two = both (not (has_column cs c.name)) (names_differ cs) differ in
    let own : bytes_eq c.name c.name ≡ true = (bytes_decides c.name c.name).1 refl in
    let first : x ≡ y =
    sym (ap (λ b. unwrap_or (cond b (Some x) (value_named c.name cs xs)) Null) own) ∙ all.0
    ∙ ap (λ b. unwrap_or (cond b (Some y) (value_named c.name cs ys)) Null) own in
    let rest : xs ≡ ys =
    same_values cs xs ys two.1 (omega (arith, l)) (omega (arith, k))
    (others c cs x y xs ys cs (not_true (has_column cs c.name) two.0) all.1) in
    λ i. first i ∷ rest i

module _ (columns : List Column) (names : List (List ℕ)) (told : are_projected names columns ≡ true)
    (differ : names_differ columns ≡ true) where
  long : (x : RowParts) → IsRow (directions columns) x → length x.values ≡ length (value_columns columns)
  long x p = p.long ∙ length-map (value_columns columns) (λ (c : Column). c.descending)

  -- rows of the same projected values have the same values by name
  each_told : (x y : RowParts) → projected_values columns names x ≡ projected_values columns names y → (cs : List Column)
      → are_projected names cs ≡ true
      → AllByRecursion (λ (c : Column). named (value_columns columns) x.values c.name ≡ named (value_columns columns) y.values c.name)
      (value_columns cs)
  each_told x y same [] h = tt
  each_told x y same (c ∷ cs) h =
      let two = both (is_key_name c.name || has_name names c.name) (are_projected names cs) h in
      by (is_key_name c.name) two.0 (each_told x y same cs two.1)
    where
      by : (b : Bool) → (b || has_name names c.name) ≡ true
          → AllByRecursion (λ (d : Column). named (value_columns columns) x.values d.name ≡ named (value_columns columns) y.values d.name)
          (value_columns cs)
          → AllByRecursion (λ (d : Column). named (value_columns columns) x.values d.name ≡ named (value_columns columns) y.values d.name)
          (cond (not b) (c ∷ value_columns cs) (value_columns cs))
      by true k rest = rest
      by false k rest = (same_named (value_columns columns) x.values y.values names c.name same k, rest)

  same_row : (x y : RowParts) → IsRow (directions columns) x → IsRow (directions columns) y → same_mark columns names x y ≡ true → x ≡ y
  same_row x y p q e =
      let two = both (same_key x.key y.key)
      (pointwise (λ v w. is_eq (index_value_cmp v w)) (projected_values columns names x) (projected_values columns names y)) e in
      let keys : x.key ≡ y.key = (same_key-decides x.key y.key).0 two.0 in
      let projected : projected_values columns names x ≡ projected_values columns names y =
      (pointwise_decides same_index_value-decides (projected_values columns names x) (projected_values columns names y)).0 two.1 in
      let values : x.values ≡ y.values =
      same_values (value_columns columns) x.values y.values (differ_kept (λ c. not (is_key_name c.name)) columns differ) (long x p)
      (long y q) (each_told x y projected columns told) in
      λ i. record { values = values i; key = keys i }

  -- the row at a place above those that were reached is none of them
  pub new_row : (last : Option (List ℕ)) (sorted : List RowParts) (row : RowParts)
      → ((x : RowParts) → Member x sorted → IsRow (directions columns) x) → IsRow (directions columns) row
      → is_above last (place_of columns row) ≡ true
      → list_any (same_mark columns names row) (kept_at columns names last sorted) ≡ false
  new_row last sorted row rows lawful above = refuted (list_any (same_mark columns names row) (kept_at columns names last sorted)) (λ some.
      let m = some_member (same_mark columns names row) (kept_at columns names last sorted) some in
      let f = filter_member (reached columns names last) sorted m.0
      (among m.0 (first_member (same_mark columns names) [] (filter (reached columns names last) sorted) m.0 m.1.0)) in
      let e : row ≡ m.0 = same_row row m.0 lawful (rows m.0 f.0) m.1.1 in
      let there : is_above last (place_of columns m.0) ≡ true =
      subst (λ (r : RowParts). is_above last (place_of columns r) ≡ true) e above in
      true_false ⊥ (reached columns names last m.0) f.1 (ap not there)) where
        among : (x : RowParts) → Member x [] ⊎ Member x (filter (reached columns names last) sorted)
            → Member x (filter (reached columns names last) sorted)
        among x (inl m) = absurd m
        among x (inr m) = m
