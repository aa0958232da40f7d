-- What holds of a query that no reason refuses.
use Rattle.std.proofs.Common.{◌≡◌, ◌⊎◌, inl, inr, ℕ, List, [], ◌∷◌, ◌++◌, Bool, true, false, ◌&&◌, ◌||◌, not, cond, Option, Some, None}
use Rattle.std.proofs.Common.{filter, refl, sym, ap, ◌∙◌}
use Rattle.std.specs.Prelude.{bytes_eq}
use Rattle.std.specs.List.{list_any}
use Rattle.ds_base.specs.declared.column.Column.{Column}
use Rattle.ds_query.specs.declared.query.Filter.{Filter}
use Rattle.ds_query.specs.declared.query.Select.{Select}
use Rattle.ds_query.specs.declared.query.Select.TheVariants as select
use Rattle.ds_query.specs.declared.query.Query.{Query}
use Rattle.ds_query.specs.declared.refusal.Reason.{Reason}
use Rattle.ds_query.specs.Filters.{asks_equal, is_equality, is_inequality, has_equality, inequality_of, projected}
use Rattle.ds_base.specs.KeyColumn.{key_name, is_key_name}
use Rattle.ds_base.specs.KeyColumnLaws.{key_name-alone}
use Rattle.ds_query.specs.Reasons.{has_wrong_key, has_unindexed, lacks_kind, two_inequalities, equal_and_range, first_left, are_apart}
use Rattle.ds_query.specs.Reasons.{first_order_apart, is_projection, projects_key, repeats, projects_equal, reason_of}
use Rattle.ds_query.specs.ColumnLists.{has_column, up_to_key}
use Rattle.ds_query.proofs.Booleans.{or_true, or_neither, and_first, not_false, refuted, true≢false, name_is, name_itself, name_symm}
use Rattle.ds_query.proofs.Booleans.{among-filter}

-- ---- each reason fails

pub record IsUnrefused (q : Query) : Type 0 where
  pub key_values : list_any has_wrong_key q.filters ≡ false
  pub kinded : lacks_kind q ≡ false
  pub one_inequality : two_inequalities q.filters ≡ false
  pub unequal : equal_and_range q.filters ≡ false
  pub first_order : first_order_apart q ≡ false
  pub no_key : projects_key q ≡ false
  pub once : repeats (projected q.select) ≡ false
  pub no_equal : projects_equal q ≡ false

fails : (b : Bool) (r : Reason) (rest : Option Reason) → cond b (Some r) rest ≡ None → (b ≡ false) × (rest ≡ None)
fails true r rest e = absurd (cc e)
fails false r rest e = (refl, e)

pub unrefused : (q : Query) → reason_of q ≡ None → IsUnrefused q
unrefused q e =
    let a = fails (list_any has_wrong_key q.filters) _ _ e in
    let b = fails (list_any has_unindexed q.filters) _ _ a.1 in
    let c = fails (lacks_kind q) _ _ b.1 in
    let d = fails (two_inequalities q.filters) _ _ c.1 in
    let f = fails (equal_and_range q.filters) _ _ d.1 in
    let g = fails (first_order_apart q) _ _ f.1 in
    let h = fails (projects_key q) _ _ g.1 in
    let i = fails (repeats (projected q.select)) _ _ h.1 in
    let j = fails (projects_equal q) _ _ i.1 in
    record { key_values = a.0; kinded = c.0; one_inequality = d.0; unequal = f.0; first_order = g.0; no_key = h.0; once = i.0; no_equal = j.0 }

-- ---- equalities and the inequality

-- `__key__` has no equality
no_and : (a b : Bool) → ((a && false) && b) ≡ false
no_and true b = refl
no_and false b = refl

never : (a : Bool) → (a && false) ≡ false
never true = refl
never false = refl

pub key_unequal : (filters : List Filter) → has_equality filters key_name ≡ false
key_unequal [] = refl
key_unequal (f ∷ fs) = λ i. at (bytes_eq key_name f.property) refl i || key_unequal fs i where
  at : (b : Bool) → bytes_eq key_name f.property ≡ b → (is_equality f && b) ≡ false
  at true e =
      let key : is_key_name f.property ≡ true = ap is_key_name (sym (name_is key_name f.property e)) ∙ name_itself key_name in
      ap (λ k. (asks_equal f.op && not k) && true) key ∙ no_and (asks_equal f.op) true
  at false e = never (is_equality f)

-- a name with an equality isn't the key's
pub equal_no_key : (filters : List Filter) (n : List ℕ) → has_equality filters n ≡ true → is_key_name n ≡ false
equal_no_key filters n e = refuted (is_key_name n) (λ k. true≢false (sym e ∙ ap (has_equality filters) (key_name-alone n k) ∙ key_unequal filters))

-- what fails of the property of each inequality fails of the first's
pub first_inequality : (g : List ℕ → Bool) (filters : List Filter) (p : List ℕ) → inequality_of filters ≡ Some p → list_any (λ f. is_inequality f && g f.property) filters ≡ false → g p ≡ false
first_inequality g [] p e none = absurd (cc e)
first_inequality g (f ∷ fs) p e none = at (is_inequality f) e none (first_inequality g fs p) where
  at : (b : Bool) → cond b (Some f.property) (inequality_of fs) ≡ Some p → ((b && g f.property) || list_any (λ h. is_inequality h && g h.property) fs) ≡ false
      → (inequality_of fs ≡ Some p → list_any (λ h. is_inequality h && g h.property) fs ≡ false → g p ≡ false) → g p ≡ false
  at true e none later =
      let same : f.property ≡ p = cc in
      ap g (sym same) ∙ (or_neither (g f.property) (list_any (λ h. is_inequality h && g h.property) fs) none).0
  at false e none later = later e none

pub unequal_inequality : (q : Query) → IsUnrefused q → (p : List ℕ) → inequality_of q.filters ≡ Some p → has_equality q.filters p ≡ false
unequal_inequality q u p e = first_inequality (has_equality q.filters) q.filters p e u.unequal

-- the first inequality's property is among those of the filters
pub any_of_inequality : (g : List ℕ → Bool) (filters : List Filter) (p : List ℕ) → inequality_of filters ≡ Some p → g p ≡ true → list_any (λ f. g f.property) filters ≡ true
any_of_inequality g [] p e h = absurd (cc e)
any_of_inequality g (f ∷ fs) p e h = at (is_inequality f) e (any_of_inequality g fs p) where
  at : (b : Bool) → cond b (Some f.property) (inequality_of fs) ≡ Some p → (inequality_of fs ≡ Some p → g p ≡ true → list_any (λ k. g k.property) fs ≡ true) → (g f.property || list_any (λ k. g k.property) fs) ≡ true
  at true e later =
      let same : f.property ≡ p = cc in
      ap (λ b. b || list_any (λ k. g k.property) fs) (ap g same ∙ h)
  at false e later = ap (λ b. g f.property || b) (later e h) ∙ or_true (g f.property)

-- ---- orders

abbrev pub head_name : List Column → Option (List ℕ)
head_name [] = None
head_name (c ∷ cs) = Some c.name

-- the orders that count, where those on some names are dropped
abbrev pub kept_orders : (List ℕ → Bool) → List Column → List Column
kept_orders dropped orders = filter (λ c. not (dropped c.name)) (up_to_key orders)

first_left_is : (filters : List Filter) (orders : List Column) → first_left filters orders ≡ head_name (kept_orders (has_equality filters) orders)
first_left_is filters [] = refl
first_left_is filters (c ∷ cs) = at (has_equality filters c.name) refl (first_left_is filters cs) where
  at : (b : Bool) → has_equality filters c.name ≡ b → first_left filters cs ≡ head_name (kept_orders (has_equality filters) cs)
      → cond b (first_left filters cs) (Some c.name) ≡ head_name (cond (not b) (c ∷ filter (λ (x : Column). not (has_equality filters x.name)) (cond (is_key_name c.name) [] (up_to_key cs))) (filter (λ (x : Column). not (has_equality filters x.name)) (cond (is_key_name c.name) [] (up_to_key cs))))
  at true e later = later ∙ ap (λ k. head_name (filter (λ (x : Column). not (has_equality filters x.name)) (cond k [] (up_to_key cs)))) (sym (equal_no_key filters c.name e))
  at false e later = refl

-- the first order that counts is on the inequality's property
pub first_counts : (q : Query) → IsUnrefused q → (p : List ℕ) → inequality_of q.filters ≡ Some p → (c : Column) (cs : List Column) → kept_orders (has_equality q.filters) q.orders ≡ c ∷ cs → c.name ≡ p
first_counts q u p e c cs here =
    let left : first_left q.filters q.orders ≡ Some c.name = first_left_is q.filters q.orders ∙ ap head_name here in
    let same : not (bytes_eq c.name p) ≡ false = (λ i. are_apart (sym e i) (sym left i)) ∙ u.first_order in
    name_is c.name p (not_false (bytes_eq c.name p) same)

-- so where the key is among the orders that count, the inequality's property is
pub key_after_inequality : (q : Query) → IsUnrefused q → (p : List ℕ) → inequality_of q.filters ≡ Some p → has_column (kept_orders (has_equality q.filters) q.orders) key_name ≡ true → has_column (kept_orders (has_equality q.filters) q.orders) p ≡ true
key_after_inequality q u p e h = at (kept_orders (has_equality q.filters) q.orders) refl h where
  at : (cs : List Column) → kept_orders (has_equality q.filters) q.orders ≡ cs → has_column cs key_name ≡ true → has_column cs p ≡ true
  at [] here h = absurd (true≢false (sym h))
  at (c ∷ cs) here h =
      let same : p ≡ c.name = sym (first_counts q u p e c cs here) in
      ap (λ b. b || has_column cs p) (ap (bytes_eq p) (sym same) ∙ name_itself p)

-- the same where fewer orders are dropped, none of them on a property without an equality
pub key_after_inequality_by : (dropped : List ℕ → Bool) (q : Query) → IsUnrefused q → ((n : List ℕ) → has_equality q.filters n ≡ false → dropped n ≡ false) → (p : List ℕ) → inequality_of q.filters ≡ Some p → has_column (kept_orders dropped q.orders) key_name ≡ true → has_column (kept_orders dropped q.orders) p ≡ true
key_after_inequality_by dropped q u fewer p e h =
    let unequal : has_equality q.filters p ≡ false = unequal_inequality q u p e in
    let alike : (n : List ℕ) → has_equality q.filters n ≡ false → has_column (kept_orders dropped q.orders) n ≡ has_column (kept_orders (has_equality q.filters) q.orders) n =
    λ n k. among-filter (λ (c : Column). c.name) (λ m. not (dropped m)) (up_to_key q.orders) n (ap not (fewer n k)) ∙ sym (among-filter (λ (c : Column). c.name) (λ m. not (has_equality q.filters m)) (up_to_key q.orders) n (ap not k)) in
    alike p unequal ∙ key_after_inequality q u p e (sym (alike key_name (key_unequal q.filters)) ∙ h)

-- columns of which the last alone is on `__key__`
pub record EndsWithKey (cs : List Column) : Type 0 where
  pub front : List Column
  pub key : Column
  pub whole : cs ≡ front ++ key ∷ []
  pub none : has_column front key_name ≡ false
  pub is_key : is_key_name key.name ≡ true

abbrev pub KeyPlace : List Column → Type 0
KeyPlace cs = (has_column cs key_name ≡ false) ⊎ EndsWithKey cs

-- the orders that count have no `__key__`, or end with it
pub key_place : (dropped : List ℕ → Bool) → dropped key_name ≡ false → (orders : List Column) → KeyPlace (kept_orders dropped orders)
key_place dropped free [] = inl refl
key_place dropped free (c ∷ cs) = at (is_key_name c.name) refl (dropped c.name) refl (key_place dropped free cs) where
  more : (xs : List Column) → is_key_name c.name ≡ false → KeyPlace xs → KeyPlace (c ∷ xs)
  more xs k (inl none) = inl (λ i. (name_symm key_name c.name ∙ k) i || none i)
  more xs k (inr r) = inr (record { front = c ∷ r.front; key = r.key; whole = ap (λ ys. c ∷ ys) r.whole; none = λ i. (name_symm key_name c.name ∙ k) i || r.none i; is_key = r.is_key })

  at : (k : Bool) → is_key_name c.name ≡ k → (b : Bool) → dropped c.name ≡ b → KeyPlace (kept_orders dropped cs)
      → KeyPlace (cond (not b) (c ∷ filter (λ (x : Column). not (dropped x.name)) (cond k [] (up_to_key cs))) (filter (λ (x : Column). not (dropped x.name)) (cond k [] (up_to_key cs))))
  at true k true e later = absurd (true≢false (sym e ∙ ap dropped (key_name-alone c.name k) ∙ free))
  at true k false e later = inr (record { front = []; key = c; whole = refl; none = refl; is_key = k })
  at false k true e later = later
  at false k false e later = more (kept_orders dropped cs) k later

-- an order that counts is an order
pub kept_orders-any : (dropped : List ℕ → Bool) (orders : List Column) → has_column (kept_orders dropped orders) key_name ≡ true → list_any (λ c. is_key_name c.name) orders ≡ true
kept_orders-any dropped [] h = absurd (true≢false (sym h))
kept_orders-any dropped (c ∷ cs) h = at (is_key_name c.name) refl (dropped c.name) (kept_orders-any dropped cs) h where
  at : (k : Bool) → is_key_name c.name ≡ k → (b : Bool) → (has_column (kept_orders dropped cs) key_name ≡ true → list_any (λ x. is_key_name x.name) cs ≡ true)
      → has_column (cond (not b) (c ∷ filter (λ (x : Column). not (dropped x.name)) (cond k [] (up_to_key cs))) (filter (λ (x : Column). not (dropped x.name)) (cond k [] (up_to_key cs)))) key_name ≡ true
      → (k || list_any (λ x. is_key_name x.name) cs) ≡ true
  at true k b later h = refl
  at false k true later h = later h
  at false k false later h = later (sym (ap (λ b. b || has_column (kept_orders dropped cs) key_name) (name_symm key_name c.name ∙ k)) ∙ h)

-- ---- projections

projected-none : (s : Select) → is_projection s ≡ false → projected s ≡ []
projected-none select.Entities e = refl
projected-none select.Keys e = refl
projected-none (select.Projection names) e = absurd (true≢false e)

-- a query that names `__key__` in a filter or an order projects nothing
pub no_projection_by_filter : (q : Query) → IsUnrefused q → list_any (λ f. is_key_name f.property) q.filters ≡ true → projected q.select ≡ []
no_projection_by_filter q u h = projected-none q.select (and_first (is_projection q.select) _ u.no_key (ap (λ b. (list_any is_key_name (projected q.select) || b) || list_any (λ c. is_key_name c.name) q.orders) h ∙ ap (λ b. b || list_any (λ c. is_key_name c.name) q.orders) (or_true (list_any is_key_name (projected q.select)))))

pub no_projection_by_order : (q : Query) → IsUnrefused q → list_any (λ c. is_key_name c.name) q.orders ≡ true → projected q.select ≡ []
no_projection_by_order q u h = projected-none q.select (and_first (is_projection q.select) _ u.no_key (ap (λ b. (list_any is_key_name (projected q.select) || list_any (λ f. is_key_name f.property) q.filters) || b) h ∙ or_true (list_any is_key_name (projected q.select) || list_any (λ f. is_key_name f.property) q.filters)))

-- no projected property is `__key__`
pub projects_no_key : (q : Query) → IsUnrefused q → list_any is_key_name (projected q.select) ≡ false
projects_no_key q u = at q.select u.no_key where
  at : (s : Select) → (is_projection s && (list_any is_key_name (projected s) || list_any (λ f. is_key_name f.property) q.filters || list_any (λ c. is_key_name c.name) q.orders)) ≡ false → list_any is_key_name (projected s) ≡ false
  at select.Entities e = refl
  at select.Keys e = refl
  at (select.Projection names) e = (or_neither (list_any is_key_name names) _ (or_neither _ _ e).0).0
