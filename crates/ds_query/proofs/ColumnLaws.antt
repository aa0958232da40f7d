-- Columns of which each name's first is kept: their names differ, the first stays first, and a filter by name commutes.
use Rattle.std.proofs.Common.{◌≡◌, ℕ, List, [], ◌∷◌, ◌++◌, Bool, true, false, ◌&&◌, ◌||◌, not, cond, filter, fold, refl, sym, ap, ◌∙◌}
use Rattle.std.specs.Prelude.{bytes_eq}
use Rattle.std.specs.List.{list_all}
use Rattle.std.proofs.lemmas.List.{append-nil}
use Rattle.std.proofs.lemmas.List.Sums.{fold-append}
use Rattle.std.proofs.lemmas.List.Folds.{list_any-append}
use Rattle.std.proofs.lemmas.List.Elements.{filter-append}
use Rattle.ds_base.specs.declared.column.Column.{Column}
use Rattle.ds_base.specs.KeyColumn.{key_name, is_key_name}
use Rattle.ds_query.specs.ColumnLists.{has_column, with_column, first_of_each_name}
use Rattle.ds_query.specs.Lawful.{names_differ, ends_in_key, starts_with_key}
use Rattle.ds_query.proofs.Booleans.{or_false, and_false, or_assoc, and_both, name_is, name_symm, among-filter}

-- ---- which names are there

has_column-end : (cs : List Column) (c : Column) (n : List ℕ) → has_column (cs ++ c ∷ []) n ≡ (has_column cs n || bytes_eq n c.name)
has_column-end cs c n = list_any-append (λ (x : Column). bytes_eq n x.name) cs (c ∷ []) ∙ ap (λ b. has_column cs n || b) (or_false (bytes_eq n c.name))

already : (a b : Bool) → (b ≡ true → a ≡ true) → a ≡ (a || b)
already true b h = refl
already false true h = h refl
already false false h = refl

pub has_column-with_column : (cs : List Column) (c : Column) (n : List ℕ) → has_column (with_column cs c) n ≡ (has_column cs n || bytes_eq n c.name)
has_column-with_column cs c n = at (has_column cs c.name) refl where
  at : (b : Bool) → has_column cs c.name ≡ b → has_column (cond b cs (cs ++ c ∷ [])) n ≡ (has_column cs n || bytes_eq n c.name)
  at true e = already (has_column cs n) (bytes_eq n c.name) (λ same. ap (has_column cs) (name_is n c.name same) ∙ e)
  at false e = has_column-end cs c n

pub has_column-fold : (xs acc : List Column) (n : List ℕ) → has_column (fold with_column acc xs) n ≡ (has_column acc n || has_column xs n)
has_column-fold [] acc n = sym (or_false (has_column acc n))
has_column-fold (x ∷ xs) acc n =
    has_column-fold xs (with_column acc x) n ∙ ap (λ b. b || has_column xs n) (has_column-with_column acc x n) ∙ or_assoc (has_column acc n) (bytes_eq n x.name) (has_column xs n)

-- the names of the columns are those that were given
pub has_column-first : (xs : List Column) (n : List ℕ) → has_column (first_of_each_name xs) n ≡ has_column xs n
has_column-first xs n = has_column-fold xs [] n

-- ---- no name stands twice

regroup : (a e b h : Bool) → (not (a || e) && (b && not h)) ≡ ((not a && b) && not (e || h))
regroup true e b h = refl
regroup false true b h = sym (and_false b)
regroup false false b h = refl

names_differ-end : (cs : List Column) (c : Column) → names_differ (cs ++ c ∷ []) ≡ (names_differ cs && not (has_column cs c.name))
names_differ-end [] c = refl
names_differ-end (d ∷ ds) c =
    (λ i. not (has_column-end ds c d.name i) && names_differ-end ds c i) ∙ regroup (has_column ds d.name) (bytes_eq d.name c.name) (names_differ ds) (has_column ds c.name)
    ∙ ap (λ b. (not (has_column ds d.name) && names_differ ds) && not (b || has_column ds c.name)) (name_symm d.name c.name)

names_differ-with_column : (cs : List Column) (c : Column) → names_differ cs ≡ true → names_differ (with_column cs c) ≡ true
names_differ-with_column cs c h = at (has_column cs c.name) refl where
  at : (b : Bool) → has_column cs c.name ≡ b → names_differ (cond b cs (cs ++ c ∷ [])) ≡ true
  at true e = h
  at false e = names_differ-end cs c ∙ (λ i. h i && not (e i))

names_differ-fold : (xs acc : List Column) → names_differ acc ≡ true → names_differ (fold with_column acc xs) ≡ true
names_differ-fold [] acc h = h
names_differ-fold (x ∷ xs) acc h = names_differ-fold xs (with_column acc x) (names_differ-with_column acc x h)

pub names_differ-first : (xs : List Column) → names_differ (first_of_each_name xs) ≡ true
names_differ-first xs = names_differ-fold xs [] refl

-- ---- what is there already adds nothing

pub fold_kept : (xs acc : List Column) → list_all (λ c. has_column acc c.name) xs ≡ true → fold with_column acc xs ≡ acc
fold_kept [] acc h = refl
fold_kept (x ∷ xs) acc h =
    let both = and_both (has_column acc x.name) (list_all (λ c. has_column acc c.name) xs) h in
    (λ i. fold with_column (cond (both.0 i) acc (acc ++ x ∷ [])) xs) ∙ fold_kept xs acc both.1

-- ---- the first stays first

pub starts_with_key-fold : (xs : List Column) (c : Column) (cs : List Column) → starts_with_key (fold with_column (c ∷ cs) xs) ≡ is_key_name c.name
starts_with_key-fold [] c cs = refl
starts_with_key-fold (x ∷ xs) c cs = at (has_column (c ∷ cs) x.name) (starts_with_key-fold xs c) where
  at : (b : Bool) → ((ds : List Column) → starts_with_key (fold with_column (c ∷ ds) xs) ≡ is_key_name c.name) → starts_with_key (fold with_column (cond b (c ∷ cs) (c ∷ (cs ++ x ∷ []))) xs) ≡ is_key_name c.name
  at true later = later cs
  at false later = later (cs ++ x ∷ [])

-- ---- the key comes last

pub ends_in_key-end : (cs : List Column) (k : Column) → is_key_name k.name ≡ true → ends_in_key (cs ++ k ∷ []) ≡ true
ends_in_key-end [] k h = h
ends_in_key-end (c ∷ []) k h = h
ends_in_key-end (c ∷ d ∷ ds) k h = ends_in_key-end (d ∷ ds) k h

-- where the key stands first at k, and all that follows is there already, k is the last that is kept
pub ends_in_key-first : (xs : List Column) (k : Column) (ys : List Column) → has_column xs key_name ≡ false → is_key_name k.name ≡ true → list_all (λ c. has_column (xs ++ k ∷ []) c.name) ys ≡ true → ends_in_key (first_of_each_name (xs ++ k ∷ ys)) ≡ true
ends_in_key-first xs k ys none key there =
    let front : List Column = first_of_each_name xs in
    let fresh : has_column front k.name ≡ false = has_column-first xs k.name ∙ ap (has_column xs) (name_is k.name key_name key) ∙ none in
    let same : (n : List ℕ) → has_column (xs ++ k ∷ []) n ≡ has_column (front ++ k ∷ []) n = λ n. has_column-end xs k n ∙ ap (λ b. b || bytes_eq n k.name) (sym (has_column-first xs n)) ∙ sym (has_column-end front k n) in
    let kept : list_all (λ c. has_column (front ++ k ∷ []) c.name) ys ≡ true = (λ i. list_all (λ (c : Column). sym (same c.name) i) ys) ∙ there in
    let whole : first_of_each_name (xs ++ k ∷ ys) ≡ front ++ k ∷ [] = fold-append with_column [] xs (k ∷ ys) ∙ (λ i. fold with_column (cond (fresh i) front (front ++ k ∷ [])) ys) ∙ fold_kept ys (front ++ k ∷ []) kept in
    ap ends_in_key whole ∙ ends_in_key-end front k key

-- ---- a filter by name

module _ (p : List ℕ → Bool) where
  filter-with_column : (cs : List Column) (c : Column) → filter (λ (x : Column). p x.name) (with_column cs c) ≡ cond (p c.name) (with_column (filter (λ (x : Column). p x.name) cs) c) (filter (λ (x : Column). p x.name) cs)
  filter-with_column cs c = at (has_column cs c.name) refl (p c.name) refl where
    at : (b : Bool) → has_column cs c.name ≡ b → (d : Bool) → p c.name ≡ d → filter (λ (x : Column). p x.name) (cond b cs (cs ++ c ∷ [])) ≡ cond d (with_column (filter (λ (x : Column). p x.name) cs) c) (filter (λ (x : Column). p x.name) cs)
    at true e true k =
        sym (ap (λ b. cond b (filter (λ (x : Column). p x.name) cs) (filter (λ (x : Column). p x.name) cs ++ c ∷ [])) (among-filter (λ (x : Column). x.name) p cs c.name k ∙ e))
    at true e false k = refl
    at false e true k =
        filter-append (λ (x : Column). p x.name) cs (c ∷ []) ∙ ap (λ b. filter (λ (x : Column). p x.name) cs ++ cond b (c ∷ []) []) k
        ∙ sym (ap (λ b. cond b (filter (λ (x : Column). p x.name) cs) (filter (λ (x : Column). p x.name) cs ++ c ∷ [])) (among-filter (λ (x : Column). x.name) p cs c.name k ∙ e))
    at false e false k =
        filter-append (λ (x : Column). p x.name) cs (c ∷ []) ∙ ap (λ b. filter (λ (x : Column). p x.name) cs ++ cond b (c ∷ []) []) k ∙ append-nil (filter (λ (x : Column). p x.name) cs)

  filter-fold : (xs acc : List Column) → filter (λ (x : Column). p x.name) (fold with_column acc xs) ≡ fold with_column (filter (λ (x : Column). p x.name) acc) (filter (λ (x : Column). p x.name) xs)
  filter-fold [] acc = refl
  filter-fold (x ∷ xs) acc = filter-fold xs (with_column acc x) ∙ ap (λ cs. fold with_column cs (filter (λ (y : Column). p y.name) xs)) (filter-with_column acc x) ∙ at (p x.name) where
    at : (b : Bool) → fold with_column (cond b (with_column (filter (λ (y : Column). p y.name) acc) x) (filter (λ (y : Column). p y.name) acc)) (filter (λ (y : Column). p y.name) xs) ≡ fold with_column (filter (λ (y : Column). p y.name) acc) (cond b (x ∷ filter (λ (y : Column). p y.name) xs) (filter (λ (y : Column). p y.name) xs))
    at true = refl
    at false = refl

  pub filter-first : (xs : List Column) → filter (λ (x : Column). p x.name) (first_of_each_name xs) ≡ first_of_each_name (filter (λ (x : Column). p x.name) xs)
  filter-first xs = filter-fold xs []
