-- The branches of a query: one for each way to take its `!=` and `in` filters apart.
use Rattle.std.specs.Prelude.{ℕ, Bool, true, false, ◌&&◌, not, List, [], ◌∷◌, ◌++◌, map, flat_map, fold}
use Rattle.std.specs.Prelude.{Option, Some, None, unwrap_or, cond}
use Rattle.std.specs.Ordering.{ordering_then, match_ordering}
use Rattle.std.specs.declared.cmp.Ordering.{Ordering}
use Rattle.std.specs.BTreeSet.{insert_key}
use Rattle.ds_base.specs.declared.index_value.IndexValue.{IndexValue}
use Rattle.ds_base.specs.declared.index_value.IndexValue.TheVariants.{Null}
use Rattle.ds_base.specs.KeyOrder.{bytes_cmp}
use Rattle.ds_base.specs.IndexOrder.{index_value_cmp}
use Rattle.ds_base.specs.Values.{index_of}
use Rattle.ds_base.specs.declared.value.Value.{Value}
use Rattle.ds_query.specs.declared.query.Op.{Op}
use Rattle.ds_query.specs.declared.query.Op.TheVariants as op
use Rattle.ds_query.specs.declared.query.Filter.{Filter}
use Rattle.ds_query.specs.declared.query.Query.{Query}
use Rattle.ds_query.specs.declared.branch.Pair.{Pair}
use Rattle.ds_query.specs.declared.branch.Bound.{Bound}
use Rattle.ds_query.specs.declared.branch.Range.{Range}
use Rattle.ds_query.specs.declared.branch.Branch.{Branch}
use Rattle.ds_query.specs.declared.conditions.Conditions.{Conditions}
use Rattle.ds_query.specs.Filters.{asks_equal}
use Rattle.ds_base.specs.KeyColumn.{is_key_name}
use Rattle.ds_query.specs.ColumnLists.{columns_of}

-- ---- ranges

-- of two bounds at one value the exclusive one counts
abbrev pub stricter : Bound → Bound → Bound
stricter a b = record { value = a.value; inclusive = a.inclusive && b.inclusive }

abbrev pub greater_bound : Bound → Bound → Bound
greater_bound a b = match_ordering (index_value_cmp a.value b.value) b (stricter a b) a

abbrev pub lesser_bound : Bound → Bound → Bound
lesser_bound a b = match_ordering (index_value_cmp a.value b.value) a (stricter a b) b

abbrev pub with_bound : (Bound → Bound → Bound) → Option Bound → Bound → Option Bound
with_bound choose None b = Some b
with_bound choose (Some a) b = Some (choose a b)

-- what is above the bound too: the greatest lower bound counts
abbrev pub from_bound : Bound → Range → Range
from_bound b r = record { lower = with_bound greater_bound r.lower b; upper = r.upper }

-- what is below the bound too: the least upper bound counts
abbrev pub up_to_bound : Bound → Range → Range
up_to_bound b r = record { lower = r.lower; upper = with_bound lesser_bound r.upper b }

abbrev pub at_bound : IndexValue → Bool → Bound
at_bound v inclusive = record { value = v; inclusive = inclusive }

-- the part of a range that meets an inequality; `__key__ = k` stands for `__key__ >= k` and `__key__ <= k`
abbrev pub within : Op → IndexValue → Range → Range
within op.Less v r = up_to_bound (at_bound v false) r
within op.LessEqual v r = up_to_bound (at_bound v true) r
within op.Greater v r = from_bound (at_bound v false) r
within op.GreaterEqual v r = from_bound (at_bound v true) r
within _ v r = up_to_bound (at_bound v true) (from_bound (at_bound v true) r)

-- ---- conditions

-- nothing asked: no equality, and no bound
abbrev pub unasked : Conditions
unasked = record { equal = []; range = record { lower = None; upper = None } }

-- the conditions with one more: an equality of a property, or a smaller range
abbrev pub narrowed : List ℕ → Conditions → Op × IndexValue → Conditions
narrowed property c condition =
    cond (asks_equal condition.0 && not (is_key_name property))
    (record { equal = c.equal ++ record { property = property; value = condition.1 } ∷ []; range = c.range })
    (record { equal = c.equal; range = within condition.0 condition.1 c.range })

-- the value as an index holds it; a filter's value is one that an index holds, else the query is refused before
abbrev pub as_indexed : Value → IndexValue
as_indexed v = unwrap_or (index_of v) Null

-- `!=` stands for `<` and then `>`; every other operator for itself, `in` for an equality
abbrev pub ways : Op → IndexValue → List (Op × IndexValue)
ways op.NotEqual v = (op.Less, v) ∷ (op.Greater, v) ∷ []
ways o v = (o, v) ∷ []

-- what a filter may ask: one condition for each of its values, two for that of `!=`
abbrev pub choices : Filter → List (Op × IndexValue)
choices f = flat_map (λ v. ways f.op (as_indexed v)) f.values

-- one of the conditions before, split by what one more filter may ask
abbrev pub split_by : Filter → Conditions → List Conditions
split_by f c = map (narrowed f.property c) (choices f)

abbrev pub split_all : List Conditions → Filter → List Conditions
split_all before f = flat_map (split_by f) before

-- all ways to meet the filters, numbered by the filters as they are written, the last varying fastest
abbrev pub conditions : List Filter → List Conditions
conditions = fold split_all (unasked ∷ [])

-- ---- branches

-- pairs compare by property, by bytes, and then by value
abbrev pub pair_cmp : Pair → Pair → Ordering
pair_cmp p q = ordering_then (bytes_cmp p.property q.property) (index_value_cmp p.value q.value)

-- each pair once, ascending
abbrev pub sorted_pairs : List Pair → List Pair
sorted_pairs = fold (insert_key pair_cmp) []

-- the branch of one way to meet the filters
abbrev pub branch_of : Query → Conditions → Branch
branch_of q c = record {
  namespace = q.namespace;
  kind = q.kind;
  ancestor = q.ancestor;
  equal = sorted_pairs c.equal;
  range = c.range;
  columns = columns_of q;
  select = q.select;
}
