-- The normal form of a query that isn't refused is lawful.
use Rattle.std.proofs.Common.{◌≡◌, ℕ, ◌<◌, List, [], ◌∷◌, ◌++◌, Bool, true, false, IsTrue, ◌&&◌, ◌||◌, not, cond, Option, Some, None, map}
use Rattle.std.proofs.Common.{filter, fold, refl, sym, ap, ◌∙◌, subst}
use Rattle.std.specs.Prelude.{bytes_eq, is_none, All}
use Rattle.std.specs.Option.{option_to_list}
use Rattle.std.specs.List.{list_any, list_all, slice_index_or}
use Rattle.std.proofs.lemmas.List.{length-map}
use Rattle.std.proofs.lemmas.List.Folds.{list_all-append}
use Rattle.std.proofs.lemmas.List.Elements.{All-map}
use Rattle.ds_base.specs.Keys.{is_namespace}
use Rattle.ds_base.specs.declared.column.Column.{Column}
use Rattle.ds_query.specs.declared.query.Op.{Op}
use Rattle.ds_query.specs.declared.query.Op.TheVariants as op
use Rattle.ds_query.specs.declared.query.Filter.{Filter}
use Rattle.ds_query.specs.declared.query.Query.{Query}
use Rattle.ds_query.specs.declared.branch.Pair.{Pair}
use Rattle.ds_query.specs.declared.conditions.Conditions.{Conditions}
use Rattle.ds_query.specs.Filters.{asks_equal, has_equality, is_one_of, has_one_of, inequality_of, has_operands, is_split, is_several}
use Rattle.ds_query.specs.Filters.{projected}
use Rattle.ds_base.specs.KeyColumn.{key_name, is_key_name}
use Rattle.ds_base.specs.KeyColumnLaws.{key_name-alone}
use Rattle.ds_query.specs.Reasons.{another_inequality, needs_kind, reason_of}
use Rattle.ds_query.specs.ColumnLists.{has_column, with_column, first_of_each_name, ascending, up_to_key, wanted_columns, columns_of}
use Rattle.ds_query.specs.ColumnLists.{merged_of}
use Rattle.ds_query.specs.Branching.{conditions, sorted_pairs, branch_of}
use Rattle.ds_query.specs.Normals.{normal_form}
use Rattle.ds_query.specs.Lawful.{has_pair, starts_with_key, bounds_are_keys, IsKindless, IsLawfulBranch, AreAlike, IsLawfulNormal}
use Rattle.ds_query.proofs.Booleans.{or_false, or_neither, and_both, not_false, not_true, refuted, true≢false, all_from_among}
use Rattle.ds_query.proofs.Booleans.{nothing_among, list_all-filter}
use Rattle.ds_query.proofs.ColumnLaws.{names_differ-first, fold_kept}
use Rattle.ds_query.proofs.ReasonLaws.{IsUnrefused, unrefused, equal_no_key, any_of_inequality, projects_no_key, kept_orders}
use Rattle.ds_query.proofs.SplitLemmas.{conditions_some, conditions_single}
use Rattle.ds_query.proofs.LawfulColumns.{columns_end_in_key, merged_end_in_key, equal_no_column, columns_among_merged, first_is_inequality}
use Rattle.ds_query.proofs.LawfulColumns.{projected_are_columns}
use Rattle.ds_query.proofs.LawfulConditions.{pairs_of_equalities, has_pair-sorted, sorted_pairs_ascend, bounds_keys, key_filters}
use Rattle.ds_query.proofs.LawfulConditions.{equal_filters, key_bounds}

-- ---- without a kind

-- `__key__` ascending
abbrev is_key_order : Column → Bool
is_key_order c = is_key_name c.name && not c.descending

key_order_is : (c : Column) → is_key_order c ≡ true → c ≡ ascending key_name
key_order_is c h =
    let both = and_both (is_key_name c.name) (not c.descending) h in
    λ i. record { name = key_name-alone c.name both.0 i; descending = not_true c.descending both.1 i }

key_orders : (orders : List Column) → list_any needs_kind orders ≡ false → list_all is_key_order orders ≡ true
key_orders [] e = refl
key_orders (c ∷ cs) e =
    let neither = or_neither (needs_kind c) (list_any needs_kind cs) e in
    let parts = or_neither (not (is_key_name c.name)) c.descending neither.0 in
    λ i. (not_false (is_key_name c.name) parts.0 i && not (parts.1 i)) && key_orders cs neither.1 i

up_to_key-all : (orders : List Column) → list_all is_key_order orders ≡ true → list_all is_key_order (up_to_key orders) ≡ true
up_to_key-all [] h = refl
up_to_key-all (c ∷ cs) h = let both = and_both (is_key_order c) (list_all is_key_order cs) h in at both.0 (is_key_name c.name) (up_to_key-all cs both.1) where
  at : is_key_order c ≡ true → (k : Bool) → list_all is_key_order (up_to_key cs) ≡ true → (is_key_order c && list_all is_key_order (cond k [] (up_to_key cs))) ≡ true
  at h true later = λ i. h i && true
  at h false later = λ i. h i && later i

-- columns that are all the key's order are one
one_key_column : (xs : List Column) → list_all is_key_order xs ≡ true → first_of_each_name (xs ++ ascending key_name ∷ []) ≡ ascending key_name ∷ []
one_key_column [] h = refl
one_key_column (x ∷ xs) h =
    let both = and_both (is_key_order x) (list_all is_key_order xs) h in
    (λ i. fold with_column (key_order_is x both.0 i ∷ []) (xs ++ ascending key_name ∷ []))
    ∙ fold_kept (xs ++ ascending key_name ∷ []) (ascending key_name ∷ [])
    (list_all-append (λ c. has_column (ascending key_name ∷ []) c.name) xs (ascending key_name ∷ []) ∙ (λ i. all_there xs both.1 i && true)) where
      all_there : (ys : List Column) → list_all is_key_order ys ≡ true → list_all (λ c. has_column (ascending key_name ∷ []) c.name) ys ≡ true
      all_there [] h = refl
      all_there (y ∷ ys) h =
          let both = and_both (is_key_order y) (list_all is_key_order ys) h in
          λ i. (or_false (is_key_name y.name) ∙ (and_both (is_key_name y.name) (not y.descending) both.0).0) i && all_there ys both.1 i

-- filters on `__key__` alone are no equalities
no_equality : (filters : List Filter) → list_any (λ f. not (is_key_name f.property)) filters ≡ false → (n : List ℕ) → has_equality filters n ≡ false
no_equality [] e n = refl
no_equality (f ∷ fs) e n =
    let neither = or_neither (not (is_key_name f.property)) (list_any (λ g. not (is_key_name g.property)) fs) e in
    λ i. no (asks_equal f.op) (bytes_eq n f.property) (is_key_name f.property) (not_false (is_key_name f.property) neither.0) i || no_equality fs neither.1 n i where
      no : (a b k : Bool) → k ≡ true → ((a && not k) && b) ≡ false
      no true b true h = refl
      no false b true h = refl
      no a b false h = absurd (true≢false (sym h))

no_names : (names : List (List ℕ)) → list_any is_key_name names ≡ false → list_any (λ n. not (is_key_name n)) names ≡ false → names ≡ []
no_names [] e h = refl
no_names (n ∷ ns) e h =
    absurd (true≢false (sym (not_false (is_key_name n) (or_neither (not (is_key_name n)) (list_any (λ m. not (is_key_name m)) ns) h).0) ∙ (or_neither (is_key_name n) (list_any is_key_name ns) e).0))

kindless_branch : (q : Query) → IsUnrefused q → (c : Conditions) → ((n : List ℕ) → has_pair c.equal n ≡ has_equality q.filters n) → q.kind ≡ None → IsKindless (branch_of q c)
kindless_branch q u c pairs none =
    let asked : (list_any (λ f. not (is_key_name f.property)) q.filters || list_any needs_kind q.orders || list_any (λ n. not (is_key_name n)) (projected q.select)) ≡ false = sym (ap (λ k. is_none k && (list_any (λ f. not (is_key_name f.property)) q.filters || list_any needs_kind q.orders || list_any (λ n. not (is_key_name n)) (projected q.select))) none) ∙ u.kinded in
    let last = or_neither (list_any (λ f. not (is_key_name f.property)) q.filters || list_any needs_kind q.orders) (list_any (λ n. not (is_key_name n)) (projected q.select)) asked in
    let first = or_neither (list_any (λ f. not (is_key_name f.property)) q.filters) (list_any needs_kind q.orders) last.0 in
    let unprojected : projected q.select ≡ [] = no_names (projected q.select) (projects_no_key q u) last.1 in
    record {
      no_pair = nothing_among (λ (p : Pair). p.property) (sorted_pairs c.equal) (λ n. has_pair-sorted c.equal n ∙ pairs n ∙ no_equality q.filters first.0 n);
      no_projection = unprojected;
      key_order = (λ i. first_of_each_name (kept_orders (has_equality q.filters) q.orders ++ map ascending (option_to_list (inequality_of q.filters)) ++ map ascending (unprojected i) ++ ascending key_name ∷ []))
          ∙ one_key_column (kept_orders (has_equality q.filters) q.orders ++ map ascending (option_to_list (inequality_of q.filters)) ++ [])
          (list_all-append is_key_order (kept_orders (has_equality q.filters) q.orders ++ map ascending (option_to_list (inequality_of q.filters))) []
          ∙ (λ i. list_all-append is_key_order (kept_orders (has_equality q.filters) q.orders) (map ascending (option_to_list (inequality_of q.filters))) i && true)
          ∙ (λ i. (list_all-filter is_key_order (λ (x : Column). not (has_equality q.filters x.name)) (up_to_key q.orders) (up_to_key-all q.orders (key_orders q.orders first.1)) i && ranged first.0 (inequality_of q.filters) refl i) && true));
    } where
      ranged : list_any (λ f. not (is_key_name f.property)) q.filters ≡ false → (o : Option (List ℕ)) → inequality_of q.filters ≡ o → list_all is_key_order (map ascending (option_to_list o)) ≡ true
      ranged keys None e = refl
      ranged keys (Some p) e =
          let other : not (is_key_name p) ≡ false = refuted (not (is_key_name p)) (λ h. true≢false (sym (any_of_inequality (λ n. not (is_key_name n)) q.filters p e h) ∙ keys)) in
          λ i. (not_false (is_key_name p) other i && true) && true

-- ---- a branch

lawful_branch : (q : Query) → IsTrue (is_namespace q.namespace) → IsUnrefused q → (c : Conditions) → ((n : List ℕ) → has_pair c.equal n ≡ has_equality q.filters n) → (starts_with_key (columns_of q) ≡ true → bounds_are_keys c.range ≡ true) → IsLawfulBranch (branch_of q c)
lawful_branch q lawful u c pairs bounds =
    let has : (n : List ℕ) → has_pair (sorted_pairs c.equal) n ≡ has_equality q.filters n = λ n. has_pair-sorted c.equal n ∙ pairs n in
    record {
      namespace = lawful;
      no_key_pair = all_from_among (λ (p : Pair). p.property) (λ n. not (is_key_name n)) (sorted_pairs c.equal) (λ n h. ap not (equal_no_key q.filters n (sym (has n) ∙ h)));
      pairs_ascend = sorted_pairs_ascend c.equal;
      names_differ = names_differ-first (wanted_columns (has_equality q.filters) q);
      apart = all_from_among (λ (x : Column). x.name) (λ n. not (has_pair (sorted_pairs c.equal) n)) (columns_of q) (λ n h. ap not (refuted (has_pair (sorted_pairs c.equal) n) (λ k. true≢false (sym h ∙ equal_no_column q u n (sym (has n) ∙ k)))));
      key_last = columns_end_in_key q u;
      key_bounds = bounds;
      projected_columns = projected_are_columns q u;
      projected_once = ap not u.once;
      kindless = kindless_branch q u c pairs;
    }

-- the filters bound the first column by keys, where it is the key
key_first : (q : Query) → IsUnrefused q → starts_with_key (columns_of q) ≡ true → list_all bounds_keys q.filters ≡ true
key_first q u h = at (inequality_of q.filters) refl where
  at : (o : Option (List ℕ)) → inequality_of q.filters ≡ o → list_all bounds_keys q.filters ≡ true
  at None e = equal_filters q.filters e
  at (Some p) e = key_filters p (sym (first_is_inequality q u p e) ∙ h) q.filters (ap (λ o. another_inequality o q.filters) (sym e) ∙ u.one_inequality) u.key_values

-- ---- the normal form

-- without `in` the columns and the merged ones drop the same orders
no_one_of : (fs : List Filter) → list_any (λ f. is_split f.op) fs ≡ false → (n : List ℕ) → has_one_of fs n ≡ false
no_one_of [] e n = refl
no_one_of (f ∷ fs) e n = let neither = or_neither (is_split f.op) (list_any (λ g. is_split g.op) fs) e in λ i. no f.op neither.0 (bytes_eq n f.property) i || no_one_of fs neither.1 n i where
  no : (o : Op) → is_split o ≡ false → (b : Bool) → (is_one_of o && b) ≡ false
  no op.OneOf h b = absurd (true≢false h)
  no op.NotEqual h b = refl
  no op.Equal h b = refl
  no op.Less h b = refl
  no op.LessEqual h b = refl
  no op.Greater h b = refl
  no op.GreaterEqual h b = refl

and_true : (b : Bool) → b ≡ (b && true)
and_true true = refl
and_true false = refl

same_columns : (q : Query) → is_several q.filters ≡ false → columns_of q ≡ merged_of q
same_columns q e =
    let same : (n : List ℕ) → has_equality q.filters n ≡ (has_equality q.filters n && not (has_one_of q.filters n)) = λ n. and_true (has_equality q.filters n) ∙ ap (λ b. has_equality q.filters n && not b) (sym (no_one_of q.filters e n)) in
    λ i. first_of_each_name (wanted_columns (λ n. same n i) q)

each : {A : Type 0} (P : A → Type 0) → ((x : A) → P x) → (xs : List A) → All P xs
each P h xs k d inside = h (slice_index_or xs k d)

pub lawful_normal : (q : Query) → IsTrue (is_namespace q.namespace) → IsTrue (list_all has_operands q.filters) → reason_of q ≡ None → IsLawfulNormal (normal_form q)
lawful_normal q lawful operands none =
    let u : IsUnrefused q = unrefused q none in
    let found : List Conditions = conditions q.filters in
    record {
      some = subst (λ n. 0 < n) (sym (length-map found (branch_of q))) (conditions_some q.filters operands);
      lawful = All-map IsLawfulBranch (branch_of q) found
          (λ k d inside. lawful_branch q lawful u (slice_index_or found k d) (λ n. pairs_of_equalities q.filters n k d inside) (λ h. key_bounds q.filters (key_first q u h) k d inside));
      alike = All-map (λ a. All (AreAlike a) (map (branch_of q) found)) (branch_of q) found
          (each (λ c. All (AreAlike (branch_of q c)) (map (branch_of q) found)) (λ c. All-map (AreAlike (branch_of q c)) (branch_of q) found (each (λ d. AreAlike (branch_of q c) (branch_of q d)) (λ d. record { namespace = refl; kind = refl; ancestor = refl; columns = refl; select = refl }) found)) found);
      single = λ e. length-map found (branch_of q) ∙ conditions_single q.filters operands e;
      single_columns = λ e. All-map (λ b. b.columns ≡ merged_of q) (branch_of q) found (each (λ c. columns_of q ≡ merged_of q) (λ c. same_columns q e) found);
      names_differ = names_differ-first (wanted_columns (λ n. has_equality q.filters n && not (has_one_of q.filters n)) q);
      key_last = merged_end_in_key q u;
      merged = All-map (λ b. filter (λ c. not (has_pair b.equal c.name)) (merged_of q) ≡ b.columns) (branch_of q) found
          (λ k d inside. (λ i. filter (λ (c : Column). not ((has_pair-sorted (slice_index_or found k d).equal c.name ∙ pairs_of_equalities q.filters c.name k d inside) i)) (merged_of q)) ∙ columns_among_merged q u);
    }
