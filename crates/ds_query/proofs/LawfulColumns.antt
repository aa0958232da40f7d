-- The columns of a query that isn't refused are lawful, and so are the merged ones.
use Rattle.std.proofs.Common.{◌≡◌, inl, inr, ℕ, List, [], ◌∷◌, ◌++◌, Bool, true, false, ◌&&◌, ◌||◌, not, cond, Option, Some, None, map}
use Rattle.std.proofs.Common.{filter, refl, sym, ap, ◌∙◌, append_assoc}
use Rattle.std.specs.Prelude.{bytes_eq}
use Rattle.std.specs.Option.{option_to_list}
use Rattle.std.specs.List.{list_any, list_all}
use Rattle.std.proofs.lemmas.List.{append-nil}
use Rattle.std.proofs.lemmas.List.Folds.{list_any-append}
use Rattle.std.proofs.lemmas.List.Elements.{filter-append}
use Rattle.ds_base.specs.declared.column.Column.{Column}
use Rattle.ds_query.specs.declared.query.Query.{Query}
use Rattle.ds_query.specs.Filters.{has_equality, has_one_of, inequality_of, projected}
use Rattle.ds_base.specs.KeyColumn.{key_name, is_key_name}
use Rattle.ds_base.specs.KeyColumnLaws.{key_name-alone}
use Rattle.ds_query.specs.ColumnLists.{has_column, first_of_each_name, ascending, up_to_key, wanted_columns, columns_of, merged_of}
use Rattle.ds_query.specs.Reasons.{has_name}
use Rattle.ds_query.specs.Lawful.{ends_in_key, starts_with_key}
use Rattle.ds_query.proofs.Booleans.{or_true, or_neither, not_true, refuted, true≢false, name_itself, name_symm, names_apart, none_among}
use Rattle.ds_query.proofs.Booleans.{all_from_among, among-filter_out, filter_filter, filter_all}
use Rattle.ds_query.proofs.ColumnLaws.{has_column-first, starts_with_key-fold, ends_in_key-first, filter-first}
use Rattle.ds_query.proofs.ReasonLaws.{IsUnrefused, key_unequal, unequal_inequality, any_of_inequality, kept_orders, first_counts}
use Rattle.ds_query.proofs.ReasonLaws.{key_after_inequality_by, EndsWithKey, KeyPlace, key_place, kept_orders-any, no_projection_by_filter}
use Rattle.ds_query.proofs.ReasonLaws.{no_projection_by_order, projects_no_key}

-- a column of each projected property, and of no other
has_column-ascending : (names : List (List ℕ)) (n : List ℕ) → has_column (map ascending names) n ≡ has_name names n
has_column-ascending [] n = refl
has_column-ascending (m ∷ ms) n = ap (λ b. bytes_eq n m || b) (has_column-ascending ms n)

projected_no_key : (q : Query) → IsUnrefused q → has_column (map ascending (projected q.select)) key_name ≡ false
projected_no_key q u =
    refuted (has_column (map ascending (projected q.select)) key_name)
    (λ h. true≢false (sym (name_itself key_name) ∙ none_among (λ (n : List ℕ). n) is_key_name (projected q.select) key_name (projects_no_key q u) (sym (has_column-ascending (projected q.select) key_name) ∙ h)))

-- ---- the key comes last

module _ (dropped : List ℕ → Bool) (q : Query) (u : IsUnrefused q) (fewer : (n : List ℕ) → has_equality q.filters n ≡ false → dropped n ≡ false) where
  -- the orders end with the key
  after_orders : EndsWithKey (kept_orders dropped q.orders) → ends_in_key (first_of_each_name (wanted_columns dropped q)) ≡ true
  after_orders r =
      let ordered : List Column = kept_orders dropped q.orders in
      let has : has_column ordered key_name ≡ true =
      ap (λ cs. has_column cs key_name) r.whole ∙ list_any-append (λ (x : Column). bytes_eq key_name x.name) r.front (r.key ∷ []) ∙ (λ i. r.none i || ((ap (bytes_eq key_name) (key_name-alone r.key.name r.is_key) ∙ name_itself key_name) i || false)) in
      let unprojected : projected q.select ≡ [] = no_projection_by_order q u (kept_orders-any dropped q.orders has) in
      let there : list_all (λ c. has_column (r.front ++ r.key ∷ []) c.name) (map ascending (option_to_list (inequality_of q.filters)) ++ ascending key_name ∷ []) ≡ true =
      ap (λ cs. list_all (λ c. has_column cs c.name) (map ascending (option_to_list (inequality_of q.filters)) ++ ascending key_name ∷ [])) (sym r.whole) ∙ ranged has (inequality_of q.filters) refl in
      let shape : wanted_columns dropped q ≡ r.front ++ r.key ∷ (map ascending (option_to_list (inequality_of q.filters)) ++ ascending key_name ∷ []) =
      (λ i. r.whole i ++ map ascending (option_to_list (inequality_of q.filters)) ++ map ascending (unprojected i) ++ ascending key_name ∷ [])
      ∙ simp (append-nil, append_assoc) in
      ap (λ cs. ends_in_key (first_of_each_name cs)) shape ∙ ends_in_key-first r.front r.key (map ascending (option_to_list (inequality_of q.filters)) ++ ascending key_name ∷ []) r.none r.is_key there where
        ranged : has_column (kept_orders dropped q.orders) key_name ≡ true → (o : Option (List ℕ)) → inequality_of q.filters ≡ o → list_all (λ c. has_column (kept_orders dropped q.orders) c.name) (map ascending (option_to_list o) ++ ascending key_name ∷ []) ≡ true
        ranged has None e = λ i. has i && true
        ranged has (Some p) e = λ i. key_after_inequality_by dropped q u fewer p e has i && (has i && true)

  -- no order is on the key
  without_orders : has_column (kept_orders dropped q.orders) key_name ≡ false → ends_in_key (first_of_each_name (wanted_columns dropped q)) ≡ true
  without_orders none = at (inequality_of q.filters) refl where
    -- nothing before the last wish is on the key
    at_the_end : (o : Option (List ℕ)) → has_column (map ascending (option_to_list o)) key_name ≡ false → ends_in_key (first_of_each_name (kept_orders dropped q.orders ++ map ascending (option_to_list o) ++ map ascending (projected q.select) ++ ascending key_name ∷ [])) ≡ true
    at_the_end o free =
        let before : has_column (kept_orders dropped q.orders ++ map ascending (option_to_list o) ++ map ascending (projected q.select)) key_name ≡ false =
        list_any-append (λ (x : Column). bytes_eq key_name x.name) (kept_orders dropped q.orders ++ map ascending (option_to_list o)) (map ascending (projected q.select))
        ∙ (λ i. (list_any-append (λ (x : Column). bytes_eq key_name x.name) (kept_orders dropped q.orders) (map ascending (option_to_list o)) ∙ (λ j. none j || free j)) i || projected_no_key q u i) in
        ends_in_key-first (kept_orders dropped q.orders ++ map ascending (option_to_list o) ++ map ascending (projected q.select)) (ascending key_name) [] before (name_itself key_name) refl

    -- the inequality is on the key
    on_key : (p : List ℕ) → inequality_of q.filters ≡ Some p → is_key_name p ≡ true → ends_in_key (first_of_each_name (kept_orders dropped q.orders ++ ascending p ∷ [] ++ map ascending (projected q.select) ++ ascending key_name ∷ [])) ≡ true
    on_key p e k =
        let unprojected : projected q.select ≡ [] = no_projection_by_filter q u (any_of_inequality is_key_name q.filters p e k) in
        let shape : kept_orders dropped q.orders ++ ascending p ∷ [] ++ map ascending (projected q.select) ++ ascending key_name ∷ [] ≡ kept_orders dropped q.orders ++ ascending p ∷ ascending key_name ∷ [] =
        (λ i. kept_orders dropped q.orders ++ ascending p ∷ [] ++ map ascending (unprojected i) ++ ascending key_name ∷ []) ∙ simp (append-nil, append_assoc) in
        let there : has_column (kept_orders dropped q.orders ++ ascending p ∷ []) key_name ≡ true =
        list_any-append (λ (x : Column). bytes_eq key_name x.name) (kept_orders dropped q.orders) (ascending p ∷ []) ∙ (λ i. none i || ((name_symm key_name p ∙ k) i || false)) in
        ap (λ cs. ends_in_key (first_of_each_name cs)) shape ∙ ends_in_key-first (kept_orders dropped q.orders) (ascending p) (ascending key_name ∷ []) none k (λ i. there i && true)

    at : (o : Option (List ℕ)) → inequality_of q.filters ≡ o → ends_in_key (first_of_each_name (kept_orders dropped q.orders ++ map ascending (option_to_list o) ++ map ascending (projected q.select) ++ ascending key_name ∷ [])) ≡ true
    at None e = at_the_end None refl
    at (Some p) e = by_key (is_key_name p) refl where
      by_key : (b : Bool) → is_key_name p ≡ b → ends_in_key (first_of_each_name (kept_orders dropped q.orders ++ ascending p ∷ [] ++ map ascending (projected q.select) ++ ascending key_name ∷ [])) ≡ true
      by_key true k = on_key p e k
      by_key false k = at_the_end (Some p) (λ i. (name_symm key_name p ∙ k) i || false)

  pub wanted_ends_in_key : ends_in_key (first_of_each_name (wanted_columns dropped q)) ≡ true
  wanted_ends_in_key = by (key_place dropped (fewer key_name (key_unequal q.filters)) q.orders) where
    by : KeyPlace (kept_orders dropped q.orders) → ends_in_key (first_of_each_name (wanted_columns dropped q)) ≡ true
    by (inl none) = without_orders none
    by (inr r) = after_orders r

pub columns_end_in_key : (q : Query) → IsUnrefused q → ends_in_key (columns_of q) ≡ true
columns_end_in_key q u = wanted_ends_in_key (has_equality q.filters) q u (λ n e. e)

pub merged_end_in_key : (q : Query) → IsUnrefused q → ends_in_key (merged_of q) ≡ true
merged_end_in_key q u = wanted_ends_in_key (λ n. has_equality q.filters n && not (has_one_of q.filters n)) q u (λ n e. ap (λ b. b && not (has_one_of q.filters n)) e)

-- ---- no column is on a property with an equality

pub equal_no_column : (q : Query) → IsUnrefused q → (n : List ℕ) → has_equality q.filters n ≡ true → has_column (columns_of q) n ≡ false
equal_no_column q u n e =
    let ordered : List Column = kept_orders (has_equality q.filters) q.orders in
    let given : List Column = map ascending (projected q.select) in
    let orders_lack : has_column ordered n ≡ false = among-filter_out (λ (c : Column). c.name) (λ m. not (has_equality q.filters m)) (up_to_key q.orders) n (ap not e) in
    let projection_lacks : has_column given n ≡ false =
    refuted (has_column given n) (λ h. true≢false (sym e ∙ none_among (λ (m : List ℕ). m) (has_equality q.filters) (projected q.select) n u.no_equal (sym (has_column-ascending (projected q.select) n) ∙ h))) in
    let key_lacks : bytes_eq n key_name ≡ false = names_apart (has_equality q.filters) n key_name e (key_unequal q.filters) in
    has_column-first (wanted_columns (has_equality q.filters) q) n
    ∙ list_any-append (λ (x : Column). bytes_eq n x.name) (ordered ++ map ascending (option_to_list (inequality_of q.filters)) ++ given) (ascending key_name ∷ [])
    ∙ (λ i. list_any-append (λ (x : Column). bytes_eq n x.name) (ordered ++ map ascending (option_to_list (inequality_of q.filters))) given i || (key_lacks i || false))
    ∙ (λ i. (list_any-append (λ (x : Column). bytes_eq n x.name) ordered (map ascending (option_to_list (inequality_of q.filters))) i || projection_lacks i) || false)
    ∙ (λ i. ((orders_lack i || ranged (inequality_of q.filters) refl i) || false) || false) where
      ranged : (o : Option (List ℕ)) → inequality_of q.filters ≡ o → has_column (map ascending (option_to_list o)) n ≡ false
      ranged None h = refl
      ranged (Some p) h = λ i. names_apart (has_equality q.filters) n p e (unequal_inequality q u p h) i || false

-- ---- the merged columns without those on properties with an equality

pub columns_among_merged : (q : Query) → IsUnrefused q → filter (λ c. not (has_equality q.filters c.name)) (merged_of q) ≡ columns_of q
columns_among_merged q u =
    let unequal : List ℕ → Bool = λ n. not (has_equality q.filters n) in
    let test : Column → Bool = λ c. not (has_equality q.filters c.name) in
    let stays : List ℕ → Bool = λ n. has_equality q.filters n && not (has_one_of q.filters n) in
    let ranged : List Column = map ascending (option_to_list (inequality_of q.filters)) in
    let given : List Column = map ascending (projected q.select) in
    let orders_same : filter test (kept_orders stays q.orders) ≡ kept_orders (has_equality q.filters) q.orders =
    filter_filter test (λ (c : Column). not (stays c.name)) (λ c h. ap not (ap (λ b. b && not (has_one_of q.filters c.name)) (not_true (has_equality q.filters c.name) h))) (up_to_key q.orders) in
    let key_same : filter test (ascending key_name ∷ []) ≡ ascending key_name ∷ [] = λ i. cond (not (key_unequal q.filters i)) (ascending key_name ∷ []) [] in
    filter-first unequal (wanted_columns stays q)
    ∙ ap first_of_each_name
    (filter-append test (kept_orders stays q.orders ++ ranged ++ given) (ascending key_name ∷ [])
    ∙ (λ i. filter-append test (kept_orders stays q.orders ++ ranged) given i ++ key_same i)
    ∙ (λ i. filter-append test (kept_orders stays q.orders) ranged i ++ given_same i ++ ascending key_name ∷ [])
    ∙ (λ i. orders_same i ++ ranged_same (inequality_of q.filters) refl i ++ given ++ ascending key_name ∷ [])) where
      ranged_same : (o : Option (List ℕ)) → inequality_of q.filters ≡ o → filter (λ c. not (has_equality q.filters c.name)) (map ascending (option_to_list o)) ≡ map ascending (option_to_list o)
      ranged_same None e = refl
      ranged_same (Some p) e = λ i. cond (not (unequal_inequality q u p e i)) (ascending p ∷ []) []

      passing : (names : List (List ℕ)) → list_any (has_equality q.filters) names ≡ false → list_all (λ c. not (has_equality q.filters c.name)) (map ascending names) ≡ true
      passing [] e = refl
      passing (m ∷ ms) e = let neither = or_neither (has_equality q.filters m) (list_any (has_equality q.filters) ms) e in λ i. not (neither.0 i) && passing ms neither.1 i

      given_same : filter (λ c. not (has_equality q.filters c.name)) (map ascending (projected q.select)) ≡ map ascending (projected q.select)
      given_same = filter_all (λ c. not (has_equality q.filters c.name)) (map ascending (projected q.select)) (passing (projected q.select) u.no_equal)

-- ---- the first column is the inequality's

pub first_is_inequality : (q : Query) → IsUnrefused q → (p : List ℕ) → inequality_of q.filters ≡ Some p → starts_with_key (columns_of q) ≡ is_key_name p
first_is_inequality q u p e = at (kept_orders (has_equality q.filters) q.orders) refl where
  at : (cs : List Column) → kept_orders (has_equality q.filters) q.orders ≡ cs → starts_with_key (columns_of q) ≡ is_key_name p
  at [] here =
      (λ i. starts_with_key (first_of_each_name (here i ++ map ascending (option_to_list (e i)) ++ map ascending (projected q.select) ++ ascending key_name ∷ [])))
      ∙ starts_with_key-fold (map ascending (projected q.select) ++ ascending key_name ∷ []) (ascending p) []
  at (c ∷ cs) here =
      (λ i. starts_with_key (first_of_each_name (here i ++ map ascending (option_to_list (inequality_of q.filters)) ++ map ascending (projected q.select) ++ ascending key_name ∷ [])))
      ∙ starts_with_key-fold (cs ++ map ascending (option_to_list (inequality_of q.filters)) ++ map ascending (projected q.select) ++ ascending key_name ∷ []) c [] ∙ ap is_key_name (first_counts q u p e c cs here)

-- ---- projected properties are columns

pub projected_are_columns : (q : Query) → IsUnrefused q → list_all (λ n. has_column (columns_of q) n && not (is_key_name n)) (projected q.select) ≡ true
projected_are_columns q u = all_from_among (λ (n : List ℕ). n) (λ n. has_column (columns_of q) n && not (is_key_name n)) (projected q.select) (λ n h. λ i. there n h i && not (none_among (λ (m : List ℕ). m) is_key_name (projected q.select) n (projects_no_key q u) h i)) where
  there : (n : List ℕ) → has_name (projected q.select) n ≡ true → has_column (columns_of q) n ≡ true
  there n h =
      let ordered : List Column = kept_orders (has_equality q.filters) q.orders ++ map ascending (option_to_list (inequality_of q.filters)) in
      has_column-first (wanted_columns (has_equality q.filters) q) n
      ∙ list_any-append (λ (x : Column). bytes_eq n x.name) (ordered ++ map ascending (projected q.select)) (ascending key_name ∷ [])
      ∙ ap (λ b. b || (bytes_eq n key_name || false)) (list_any-append (λ (x : Column). bytes_eq n x.name) ordered (map ascending (projected q.select)) ∙ ap (λ b. has_column ordered n || b) (has_column-ascending (projected q.select) n ∙ h) ∙ or_true (has_column ordered n))
