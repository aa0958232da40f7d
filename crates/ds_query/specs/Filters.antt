-- What the filters of a query ask: which are equalities, which inequalities, and of which property.
use Rattle.std.specs.Prelude.{ℕ, Bool, true, false, ◌&&◌, not, ◌==◌, nat_le, bytes_eq, cond}
use Rattle.std.specs.Prelude.{List, [], ◌∷◌, length, Option, Some, None}
use Rattle.std.specs.List.{list_any}
use Rattle.ds_base.specs.KeyColumn.{is_key_name}
use Rattle.ds_query.specs.declared.query.Op.{Op}
use Rattle.ds_query.specs.declared.query.Op.TheVariants as op
use Rattle.ds_query.specs.declared.query.Filter.{Filter}
use Rattle.ds_query.specs.declared.query.Select.{Select}
use Rattle.ds_query.specs.declared.query.Select.TheVariants as select

-- the values that a filter is written with: at least one for `in`, one for every other operator
abbrev pub enough_values : Op → ℕ → Bool
enough_values op.OneOf n = nat_le 1 n
enough_values _ n = n == 1

abbrev pub has_operands : Filter → Bool
has_operands f = enough_values f.op (length f.values)

-- `=`, and `in` with one of its values
abbrev pub asks_equal : Op → Bool
asks_equal op.Equal = true
asks_equal op.OneOf = true
asks_equal _ = false

-- `=` and `in` on a property other than `__key__`
abbrev pub is_equality : Filter → Bool
is_equality f = asks_equal f.op && not (is_key_name f.property)

-- each other filter: `<`, `<=`, `>`, `>=` and `!=` on any property, and any operator on `__key__`
abbrev pub is_inequality : Filter → Bool
is_inequality f = not (is_equality f)

-- does the property of this name have an equality?
abbrev pub has_equality : List Filter → List ℕ → Bool
has_equality filters name = list_any (λ f. is_equality f && bytes_eq name f.property) filters

abbrev pub is_one_of : Op → Bool
is_one_of op.OneOf = true
is_one_of _ = false

-- does the property of this name have an `in`?
abbrev pub has_one_of : List Filter → List ℕ → Bool
has_one_of filters name = list_any (λ f. is_one_of f.op && bytes_eq name f.property) filters

-- the property of the first inequality
abbrev pub inequality_of : List Filter → Option (List ℕ)
inequality_of [] = None
inequality_of (f ∷ fs) = cond (is_inequality f) (Some f.property) (inequality_of fs)

-- `!=` and `in`, which stand for several conditions
abbrev pub is_split : Op → Bool
is_split op.NotEqual = true
is_split op.OneOf = true
is_split _ = false

-- is there `!=` or `in`?
abbrev pub is_several : List Filter → Bool
is_several filters = list_any (λ f. is_split f.op) filters

-- the names of a projection
abbrev pub projected : Select → List (List ℕ)
projected (select.Projection names) = names
projected _ = []
