-- The columns of an index: those in front of a branch's columns, the branch's own, and the key at the end.
use Rattle.std.proofs.Common.{◌≡◌, ℕ, ◌-◌, List, [], ◌∷◌, ◌++◌, length, take, drop, Bool, true, false, ◌&&◌, ◌||◌, not, cond, refl, sym}
use Rattle.std.proofs.Common.{ap, ◌∙◌, Some, None}
use Rattle.std.specs.Prelude.{bytes_eq}
use Rattle.std.specs.Cmp.Lexicographic.{pointwise, pointwise_decides}
use Rattle.std.proofs.lemmas.List.{take-append-drop}
use Rattle.ds_base.specs.declared.column.Column.{Column}
use Rattle.ds_base.specs.Columns.{same_column}
use Rattle.ds_base.specs.ColumnLaws.{same_column-decides}
use Rattle.ds_base.specs.KeyColumn.{is_key_name, key_name, key_descends}
use Rattle.ds_query.specs.ColumnLists.{ascending, has_column}
use Rattle.ds_query.specs.Lawful.{ends_in_key, names_differ}
use Rattle.ds_planner.specs.Indexes.{by_key, with_key, in_front_of}
use Rattle.ds_planner.proofs.Members.{both, true_false, not_true}
use Rattle.ds_planner.proofs.PairLists.{same_name, name_itself}
use Rattle.ds_rows.specs.Indexes.{last_key_descends, front_columns}
use Rattle.ds_query.specs.RowValues.{value_columns}

-- ---- the last column

-- the column of the key at the end of an index's columns
abbrev pub end_column : List Column → Column
end_column [] = ascending key_name
end_column (c ∷ []) = cond (is_key_name c.name) c (ascending key_name)
end_column (c ∷ d ∷ cs) = end_column (d ∷ cs)

cond_cons : (b : Bool) (c : Column) (xs ys : List Column) → cond b (c ∷ xs) (c ∷ ys) ≡ c ∷ cond b xs ys
cond_cons true c xs ys = refl
cond_cons false c xs ys = refl

pub with_key-split : (cs : List Column) → with_key cs ≡ front_columns cs ++ end_column cs ∷ []
with_key-split [] = refl
with_key-split (c ∷ []) = by (is_key_name c.name) where
  by : (b : Bool) → cond b (c ∷ []) (c ∷ by_key) ≡ cond b [] (c ∷ []) ++ cond b c (ascending key_name) ∷ []
  by true = refl
  by false = refl
with_key-split (c ∷ d ∷ cs) =
    cond_cons (ends_in_key (d ∷ cs)) c (d ∷ cs) ((d ∷ cs) ++ by_key) ∙ ap (λ ks. c ∷ ks) (with_key-split (d ∷ cs))

pub end_descends : (cs : List Column) → (end_column cs).descending ≡ last_key_descends cs
end_descends [] = refl
end_descends (c ∷ []) = by (is_key_name c.name) where
  by : (b : Bool) → (cond b c (ascending key_name)).descending ≡ (b && c.descending)
  by true = refl
  by false = refl
end_descends (c ∷ d ∷ cs) = end_descends (d ∷ cs)

-- where the list ends in the key it is whole
pub whole_split : (cs : List Column) → ends_in_key cs ≡ true → cs ≡ front_columns cs ++ end_column cs ∷ []
whole_split cs e = sym (ap (λ b. cond b cs (cs ++ by_key)) e) ∙ with_key-split cs

apart : (x : Column) (ys : List Column) (y : Column) → [] ≡ ys ++ y ∷ [] → ⊥
apart x [] y e = absurd (cc e)
apart x (z ∷ ys) y e = absurd (cc e)

pub same_ends : (xs ys : List Column) (x y : Column) → xs ++ x ∷ [] ≡ ys ++ y ∷ [] → (xs ≡ ys) × (x ≡ y)
same_ends [] [] x y e = (refl, cc e)
same_ends [] (b ∷ ys) x y e = let t : [] ≡ ys ++ y ∷ [] = cc e in absurd (apart x ys y t)
same_ends (a ∷ xs) [] x y e = let t : [] ≡ xs ++ x ∷ [] = cc e in absurd (apart x xs x t)
same_ends (a ∷ xs) (b ∷ ys) x y e =
    let h : a ≡ b = cc e in
    let t : xs ++ x ∷ [] ≡ ys ++ y ∷ [] = cc e in
    let more = same_ends xs ys x y t in
    (λ i. h i ∷ more.0 i, more.1)

-- ---- a branch's columns

-- a list that ends in the key has a column of that name
has_key : (cs : List Column) (name : List ℕ) → ends_in_key cs ≡ true → is_key_name name ≡ true → has_column cs name ≡ true
has_key [] name e k = absurd (cc e)
has_key (c ∷ []) name e k =
    let same : name ≡ c.name = same_name name key_name k ∙ sym (same_name c.name key_name e) in
    ap (λ b. b || false) (ap (bytes_eq name) (sym same) ∙ name_itself name)
has_key (c ∷ d ∷ cs) name e k = by (bytes_eq name c.name) (has_key (d ∷ cs) name e k) where
  by : (b : Bool) → has_column (d ∷ cs) name ≡ true → (b || has_column (d ∷ cs) name) ≡ true
  by true h = refl
  by false h = h

-- no column but the last is the key's
pub first_not_key : (c d : Column) (cs : List Column) → names_differ (c ∷ d ∷ cs) ≡ true → ends_in_key (d ∷ cs) ≡ true
    → is_key_name c.name ≡ false
first_not_key c d cs differ ends = by (is_key_name c.name) refl where
  by : (b : Bool) → is_key_name c.name ≡ b → b ≡ false
  by false e = refl
  by true e = true_false (true ≡ false) (has_column (d ∷ cs) c.name) (has_key (d ∷ cs) c.name ends e)
      (not_true (has_column (d ∷ cs) c.name) (both (not (has_column (d ∷ cs) c.name)) (names_differ (d ∷ cs)) differ).0)

tail_differ : (c d : Column) (cs : List Column) → names_differ (c ∷ d ∷ cs) ≡ true → names_differ (d ∷ cs) ≡ true
tail_differ c d cs differ = (both (not (has_column (d ∷ cs) c.name)) (names_differ (d ∷ cs)) differ).1

-- the columns other than the key are those in front of the last
pub values_in_front : (cs : List Column) → names_differ cs ≡ true → ends_in_key cs ≡ true → value_columns cs ≡ front_columns cs
values_in_front [] differ ends = absurd (cc ends)
values_in_front (c ∷ []) differ ends = (λ i. cond (not (ends i)) (c ∷ []) []) ∙ (λ i. cond (sym ends i) [] (c ∷ []))
values_in_front (c ∷ d ∷ cs) differ ends =
    (λ i. cond (not (first_not_key c d cs differ ends i)) (c ∷ value_columns (d ∷ cs)) (value_columns (d ∷ cs)))
    ∙ ap (λ ks. c ∷ ks) (values_in_front (d ∷ cs) (tail_differ c d cs differ) ends)

or_false : (b : Bool) → (b || false) ≡ b
or_false true = refl
or_false false = refl

pub key_at_end : (cs : List Column) → names_differ cs ≡ true → ends_in_key cs ≡ true → key_descends cs ≡ last_key_descends cs
key_at_end [] differ ends = absurd (cc ends)
key_at_end (c ∷ []) differ ends = or_false (is_key_name c.name && c.descending)
key_at_end (c ∷ d ∷ cs) differ ends =
    (λ i. (first_not_key c d cs differ ends i && c.descending) || key_descends (d ∷ cs))
    ∙ key_at_end (d ∷ cs) (tail_differ c d cs differ) ends

-- ---- what stands in front

-- where a list has the other at its end it is what stands in front and the other
pub front_is : (last columns front : List Column) → in_front_of last columns ≡ Some front → columns ≡ front ++ last
front_is last columns front e = by (pointwise same_column (drop (length columns - length last) columns) last) refl e where
  n : ℕ
  n = length columns - length last

  by : (b : Bool) → pointwise same_column (drop (length columns - length last) columns) last ≡ b
      → cond b (Some (take (length columns - length last) columns)) None ≡ Some front → columns ≡ front ++ last
  by true t h =
      let f : take (length columns - length last) columns ≡ front = cc h in
      let l : drop (length columns - length last) columns ≡ last =
      (pointwise_decides same_column-decides (drop (length columns - length last) columns) last).0 t in
      sym (take-append-drop (length columns - length last) columns) ∙ (λ i. f i ++ l i)
  by false t h = absurd (cc h)
