-- Lists of columns by their last one, and what stands in front of a list's end.
use Rattle.std.proofs.Common.{◌≡◌, ℕ, ◌+◌, ◌-◌, ◌<◌, ◌≤◌, List, [], ◌∷◌, ◌++◌, length, take, drop, get_or, Bool, true, false, ◌&&◌, ◌||◌}
use Rattle.std.proofs.Common.{not, cond, refl, sym, ap, ◌∙◌, arith, length-append, MatchOption, Option, Some, None, option_and_then}
use Rattle.std.specs.Prelude.{bytes_eq}
use Rattle.std.specs.Borrow.{Bor}
use Rattle.std.specs.Option.{option_copied}
use Rattle.std.specs.Cmp.Lexicographic.{pointwise, nat_list_eq_equiv}
use Rattle.std.proofs.Math.Bool.{beq}
use Rattle.std.proofs.Math.Seq.{take-length}
use Rattle.std.proofs.lemmas.List.{take_more, take-append-le, drop-append-le}
use Rattle.ds_base.specs.declared.column.Column.{Column}
use Rattle.ds_base.specs.Columns.{same_column}
use Rattle.ds_base.specs.KeyColumn.{is_key_name, key_name, is_ascending_key, is_by_key}
use Rattle.ds_query.specs.ColumnLists.{ascending}
use Rattle.ds_query.specs.Lawful.{ends_in_key, has_pair}
use Rattle.ds_query.specs.declared.branch.Pair.{Pair}
use Rattle.ds_planner.specs.Indexes.{by_key, in_front_of, is_by_property, are_paired, names_column}
use Rattle.ds_planner.specs.Missing.{without_key}

-- ---- the last element

pub last_split : {A : Type 0} (xs : List A) (x : A) → 1 ≤ length xs → x ≡ get_or xs (length xs - 1) x → xs ≡ take (length xs - 1) xs ++ x ∷ []
last_split xs x some is =
    let e : (length xs - 1) + 1 ≡ length xs = omega arith in
    let t : take ((length xs - 1) + 1) xs ≡ take (length xs - 1) xs ++ get_or xs (length xs - 1) x ∷ [] = take_more xs (length xs - 1) x (omega arith) in
    sym (take-length xs) ∙ ap (λ n. take n xs) (sym e) ∙ t ∙ ap (λ y. take (length xs - 1) xs ++ y ∷ []) (sym is)

cond_cons : {A : Type 0} (b : Bool) (x : A) (xs ys : List A) → x ∷ cond b xs ys ≡ cond b (x ∷ xs) (x ∷ ys)
cond_cons true x xs ys = refl
cond_cons false x xs ys = refl

pub ends_in_key-last : (t : List Column) (x : Column) → ends_in_key (t ++ x ∷ []) ≡ is_key_name x.name
ends_in_key-last [] x = refl
ends_in_key-last (a ∷ []) x = refl
ends_in_key-last (a ∷ b ∷ t) x = ends_in_key-last (b ∷ t) x

pub without_key-last : (t : List Column) (x : Column) → without_key (t ++ x ∷ []) ≡ cond (is_ascending_key x) t (t ++ x ∷ [])
without_key-last [] x = refl
without_key-last (a ∷ []) x = cond_cons (is_ascending_key x) a [] (x ∷ [])
without_key-last (a ∷ b ∷ t) x = ap (λ ys. a ∷ ys) (without_key-last (b ∷ t) x) ∙ cond_cons (is_ascending_key x) a (b ∷ t) (b ∷ (t ++ x ∷ []))

-- ---- the order of keys

beq_false : (b : Bool) → beq false b ≡ not b
beq_false true = refl
beq_false false = refl

pub ascending_key : (x : Column) → same_column (ascending key_name) x ≡ is_ascending_key x
ascending_key x = λ i. nat_list_eq_equiv.symm key_name x.name i && beq_false x.descending i

and_true : (b : Bool) → (b && true) ≡ b
and_true true = refl
and_true false = refl

and_false : (b : Bool) → (b && false) ≡ false
and_false true = refl
and_false false = refl

and_assoc : (a b c : Bool) → (a && (b && c)) ≡ ((a && b) && c)
and_assoc true b c = refl
and_assoc false b c = refl

-- ---- what stands in front

module _ {A : Type 0} (E : A → A → Bool) where
  pointwise-none : (xs : List A) (x : A) → pointwise E [] (xs ++ x ∷ []) ≡ false
  pointwise-none [] x = refl
  pointwise-none (y ∷ xs) x = refl

  none-pointwise : (xs : List A) (x : A) → pointwise E (xs ++ x ∷ []) [] ≡ false
  none-pointwise [] x = refl
  none-pointwise (y ∷ xs) x = refl

  pub pointwise-last : (xs ys : List A) (x y : A) → pointwise E (xs ++ x ∷ []) (ys ++ y ∷ []) ≡ (pointwise E xs ys && E x y)
  pointwise-last [] [] x y = and_true (E x y)
  pointwise-last [] (b ∷ ys) x y = ap (λ r. E x b && r) (pointwise-none ys y) ∙ and_false (E x b)
  pointwise-last (a ∷ xs) [] x y = ap (λ r. E a y && r) (none-pointwise xs x) ∙ and_false (E a y)
  pointwise-last (a ∷ xs) (b ∷ ys) x y = ap (λ r. E a b && r) (pointwise-last xs ys x y) ∙ and_assoc (E a b) (pointwise E xs ys) (E x y)

  pub pointwise-shorter : (xs ys : List A) → length xs < length ys → pointwise E xs ys ≡ false
  pointwise-shorter [] [] h = absurd (omega arith)
  pointwise-shorter [] (y ∷ ys) h = refl
  pointwise-shorter (x ∷ xs) [] h = absurd (omega arith)
  pointwise-shorter (x ∷ xs) (y ∷ ys) h = ap (λ r. E x y && r) (pointwise-shorter xs ys (omega arith)) ∙ and_false (E x y)

cond_and : {A : Type 0} (p q : Bool) (x : A) → cond (p && q) (Some x) None ≡ cond q (cond p (Some x) None) None
cond_and true true x = refl
cond_and true false x = refl
cond_and false true x = refl
cond_and false false x = refl

-- two lists without their last columns, where these are the same
pub in_front_of-last : (last columns : List Column) (x k : Column) → in_front_of (last ++ x ∷ []) (columns ++ k ∷ []) ≡ cond (same_column k x) (in_front_of last columns) None
in_front_of-last last columns x k =
    let n = length columns - length last in
    let le : n ≤ length columns = omega arith in
    let e : length (columns ++ k ∷ []) - length (last ++ x ∷ []) ≡ n = omega (arith, length-append columns (k ∷ []), length-append last (x ∷ [])) in
    ap (λ m. cond (pointwise same_column (drop m (columns ++ k ∷ [])) (last ++ x ∷ [])) (Some (take m (columns ++ k ∷ []))) None) e
    ∙ (λ i. cond (pointwise same_column (drop-append-le n columns (k ∷ []) le i) (last ++ x ∷ [])) (Some (take-append-le n columns (k ∷ []) le i)) None)
    ∙ ap (λ b. cond b (Some (take n columns)) None) (pointwise-last same_column (drop n columns) last k x)
    ∙ cond_and (pointwise same_column (drop n columns) last) (same_column k x) (take n columns)

-- a list doesn't end with a longer one
pub in_front_of-longer : (last columns : List Column) → length columns < length last → in_front_of last columns ≡ None
in_front_of-longer last columns h =
    let e : length columns - length last ≡ 0 = omega arith in
    ap (λ m. cond (pointwise same_column (drop m columns) last) (Some (take m columns)) None) e
    ∙ ap (λ b. cond b (Some []) None) (pointwise-shorter same_column columns last h)

-- what `strip_suffix` gives
pub stripped : (last columns : List Column) (r : Option (Bor (List Column))) → MatchOption r (pointwise same_column (drop (length columns - length last) columns) last ≡ false) (λ x. (pointwise same_column (drop (length columns - length last) columns) last ≡ true) × (x.now ≡ take (length columns - length last) columns) × (length x.now + length last ≡ length columns)) → option_copied r ≡ in_front_of last columns
stripped last columns None h = λ i. cond (sym h i) (Some (take (length columns - length last) columns)) None
stripped last columns (Some x) h = λ i. cond (sym h.0 i) (Some (h.1 i)) None

-- ---- the indexes by key and of one property

pub front_by_key : (x : Column) (columns : List Column) → in_front_of (x ∷ columns) by_key ≡ cond (is_by_key (x ∷ columns)) (Some []) None
front_by_key x [] = ap (λ b. cond b (Some []) None) (and_true (same_column (ascending key_name) x) ∙ ascending_key x)
front_by_key x (y ∷ columns) = in_front_of-longer (x ∷ y ∷ columns) by_key (omega arith)

-- what an index of one property has in front of the columns: itself where these are the order of keys alone
abbrev front_of_property : Column → List Column → Option (List Column)
front_of_property p [] = None
front_of_property p (x ∷ []) = cond (is_ascending_key x) (Some (p ∷ [])) None
front_of_property p (x ∷ y ∷ []) = cond (same_column p x && is_ascending_key y) (Some []) None
front_of_property p (x ∷ y ∷ z ∷ columns) = None

front_by_property : (p x : Column) (columns : List Column) → in_front_of (x ∷ columns) (p ∷ by_key) ≡ front_of_property p (x ∷ columns)
front_by_property p x [] = ap (λ b. cond b (Some (p ∷ [])) None) (and_true (same_column (ascending key_name) x) ∙ ascending_key x)
front_by_property p x (y ∷ []) = ap (λ b. cond (same_column p x && b) (Some []) None) (and_true (same_column (ascending key_name) y) ∙ ascending_key y)
front_by_property p x (y ∷ z ∷ columns) = in_front_of-longer (x ∷ y ∷ z ∷ columns) (p ∷ by_key) (omega arith)

-- ---- what these say of names and pairs

found : (b : Bool) (columns last : List Column) → option_and_then (in_front_of last) (cond b (Some columns) None) ≡ cond b (in_front_of last columns) None
found true columns last = refl
found false columns last = refl

none_named : (b r : Bool) (n : List ℕ) → names_column (cond b (cond r (Some []) None) None) n ≡ false
none_named true true n = refl
none_named true false n = refl
none_named false r n = refl

nothing_paired : (b r : Bool) (pairs : List Pair) → are_paired pairs (cond b (cond r (Some []) None) None) ≡ (b && r)
nothing_paired true true pairs = refl
nothing_paired true false pairs = refl
nothing_paired false r pairs = refl

pub names_by_key : (b : Bool) (last : List Column) (n : List ℕ) → ends_in_key last ≡ true → names_column (option_and_then (in_front_of last) (cond b (Some by_key) None)) n ≡ false
names_by_key b [] n h = absurd (cc h)
names_by_key b (x ∷ last) n h =
    ap (λ o. names_column o n) (found b by_key (x ∷ last) ∙ ap (λ o. cond b o None) (front_by_key x last)) ∙ none_named b (is_by_key (x ∷ last)) n

pub pairs_by_key : (b : Bool) (last : List Column) (pairs : List Pair) → ends_in_key last ≡ true → are_paired pairs (option_and_then (in_front_of last) (cond b (Some by_key) None)) ≡ (b && is_by_key last)
pairs_by_key b [] pairs h = absurd (cc h)
pairs_by_key b (x ∷ last) pairs h =
    ap (are_paired pairs) (found b by_key (x ∷ last) ∙ ap (λ o. cond b o None) (front_by_key x last)) ∙ nothing_paired b (is_by_key (x ∷ last)) pairs

or_false : (b : Bool) → (b || false) ≡ b
or_false true = refl
or_false false = refl

property_named : (p : Column) (last : List Column) (n : List ℕ) → names_column (front_of_property p last) n ≡ (is_by_key last && bytes_eq n p.name)
property_named p [] n = refl
property_named p (x ∷ []) n = at (is_ascending_key x) where
  at : (a : Bool) → names_column (cond a (Some (p ∷ [])) None) n ≡ (a && bytes_eq n p.name)
  at true = or_false (bytes_eq n p.name)
  at false = refl
property_named p (x ∷ y ∷ []) n = none_named true (same_column p x && is_ascending_key y) n
property_named p (x ∷ y ∷ z ∷ last) n = refl

pub names_by_property : (b : Bool) (p : Column) (last : List Column) (n : List ℕ) → ends_in_key last ≡ true → names_column (option_and_then (in_front_of last) (cond b (Some (p ∷ by_key)) None)) n ≡ (b && (is_by_key last && bytes_eq n p.name))
names_by_property b p [] n h = absurd (cc h)
names_by_property true p (x ∷ last) n h = ap (λ o. names_column o n) (front_by_property p x last) ∙ property_named p (x ∷ last) n
names_by_property false p (x ∷ last) n h = refl

pub pairs_by_property : (p : Column) (last : List Column) (pairs : List Pair) → ends_in_key last ≡ true → are_paired pairs (in_front_of last (p ∷ by_key)) ≡ (is_by_property p last || (is_by_key last && has_pair pairs p.name))
pairs_by_property p [] pairs h = absurd (cc h)
pairs_by_property p (x ∷ []) pairs h = ap (are_paired pairs) (front_by_property p x []) ∙ at (is_ascending_key x) where
  at : (a : Bool) → are_paired pairs (cond a (Some (p ∷ [])) None) ≡ (a && has_pair pairs p.name)
  at true = and_true (has_pair pairs p.name)
  at false = refl
pairs_by_property p (x ∷ y ∷ []) pairs h = ap (are_paired pairs) (front_by_property p x (y ∷ [])) ∙ at (same_column p x && is_ascending_key y) where
  at : (a : Bool) → are_paired pairs (cond a (Some []) None) ≡ (a || false)
  at true = refl
  at false = refl
pairs_by_property p (x ∷ y ∷ z ∷ last) pairs h = ap (are_paired pairs) (front_by_property p x (y ∷ z ∷ last))
