-- Why a query is refused for its form: each reason as a condition on the query as it is written, and their order.
use Rattle.std.specs.Prelude.{ℕ, Bool, true, false, ◌&&◌, ◌||◌, not, bytes_eq, cond}
use Rattle.std.specs.Prelude.{List, [], ◌∷◌, Option, Some, None, is_none}
use Rattle.std.specs.List.{list_any}
use Rattle.ds_base.specs.declared.value.Value.{Value}
use Rattle.ds_base.specs.declared.value.Value.TheVariants as value
use Rattle.ds_base.specs.declared.column.Column.{Column}
use Rattle.ds_query.specs.declared.query.Filter.{Filter}
use Rattle.ds_query.specs.declared.query.Select.{Select}
use Rattle.ds_query.specs.declared.query.Select.TheVariants as select
use Rattle.ds_query.specs.declared.query.Query.{Query}
use Rattle.ds_query.specs.declared.refusal.Reason.{Reason}
use Rattle.ds_query.specs.declared.refusal.Reason.TheVariants as reason
use Rattle.ds_query.specs.Filters.{is_inequality, has_equality, inequality_of, is_several, projected}
use Rattle.ds_base.specs.KeyColumn.{is_key_name}

-- ---- values

abbrev pub is_key_value : Value → Bool
is_key_value (value.Key k) = true
is_key_value _ = false

-- long text and blobs, which no index holds
abbrev pub is_unindexed : Value → Bool
is_unindexed (value.Text s) = true
is_unindexed (value.Blob s) = true
is_unindexed _ = false

-- a filter on `__key__` with a value that is no key
abbrev pub has_wrong_key : Filter → Bool
has_wrong_key f = is_key_name f.property && list_any (λ v. not (is_key_value v)) f.values

abbrev pub has_unindexed : Filter → Bool
has_unindexed f = list_any is_unindexed f.values

-- ---- kinds

-- an order that a query without a kind may not have: on a property, or `__key__` descending
abbrev pub needs_kind : Column → Bool
needs_kind c = not (is_key_name c.name) || c.descending

-- no kind, and a filter, an order or a projection that needs one
abbrev pub lacks_kind : Query → Bool
lacks_kind q =
    is_none q.kind
    && (list_any (λ f. not (is_key_name f.property)) q.filters
    || list_any needs_kind q.orders
    || list_any (λ n. not (is_key_name n)) (projected q.select))

-- ---- inequalities

-- an inequality on another property than the first inequality's
abbrev pub another_inequality : Option (List ℕ) → List Filter → Bool
another_inequality None filters = false
another_inequality (Some property) filters = list_any (λ f. is_inequality f && not (bytes_eq f.property property)) filters

abbrev pub two_inequalities : List Filter → Bool
two_inequalities filters = another_inequality (inequality_of filters) filters

-- a property with an equality and an inequality
abbrev pub equal_and_range : List Filter → Bool
equal_and_range filters = list_any (λ f. is_inequality f && has_equality filters f.property) filters

-- the first order that is left when those on properties with an equality are dropped
abbrev pub first_left : List Filter → List Column → Option (List ℕ)
first_left filters [] = None
first_left filters (c ∷ cs) = cond (has_equality filters c.name) (first_left filters cs) (Some c.name)

-- there is an inequality and an order is left, and they are on different properties
abbrev pub are_apart : Option (List ℕ) → Option (List ℕ) → Bool
are_apart (Some property) (Some order) = not (bytes_eq order property)
are_apart _ _ = false

abbrev pub first_order_apart : Query → Bool
first_order_apart q = are_apart (inequality_of q.filters) (first_left q.filters q.orders)

-- ---- projections

abbrev pub is_projection : Select → Bool
is_projection (select.Projection names) = true
is_projection _ = false

-- a projection that names `__key__` in its selection, a filter or an order
abbrev pub projects_key : Query → Bool
projects_key q =
    is_projection q.select
    && (list_any is_key_name (projected q.select)
    || list_any (λ f. is_key_name f.property) q.filters
    || list_any (λ c. is_key_name c.name) q.orders)

-- is the name among these?
abbrev pub has_name : List (List ℕ) → List ℕ → Bool
has_name names name = list_any (bytes_eq name) names

-- a name that stands twice
abbrev pub repeats : List (List ℕ) → Bool
repeats [] = false
repeats (n ∷ ns) = has_name ns n || repeats ns

-- a projected property with an equality
abbrev pub projects_equal : Query → Bool
projects_equal q = list_any (has_equality q.filters) (projected q.select)

-- ---- the first reason that holds

abbrev pub first_that_holds : List (Bool × Reason) → Option Reason
first_that_holds [] = None
first_that_holds (r ∷ rs) = cond r.0 (Some r.1) (first_that_holds rs)

-- the reasons that orders, projections and cursors give
abbrev pub later_reasons : Query → List (Bool × Reason)
later_reasons q =
    (first_order_apart q, reason.FirstOrder)
    ∷ (projects_key q, reason.ProjectionKey)
    ∷ (repeats (projected q.select), reason.ProjectionRepeat)
    ∷ (projects_equal q, reason.ProjectionEqual)
    ∷ (is_several q.filters && q.cursors, reason.SeveralCursor)
    ∷ []

abbrev pub reason_of : Query → Option Reason
reason_of q = first_that_holds
    ((list_any has_wrong_key q.filters, reason.KeyValue)
    ∷ (list_any has_unindexed q.filters, reason.UnindexedValue)
    ∷ (lacks_kind q, reason.Kindless)
    ∷ (two_inequalities q.filters, reason.Inequalities)
    ∷ (equal_and_range q.filters, reason.EqualAndRange)
    ∷ later_reasons q)
