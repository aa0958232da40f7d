-- What may stand behind what has been read of a GQL text, token by token. Each part of the grammar is a small group of phases; a
-- token that no sentence has at its place takes no step. What a whole sentence looks like stands in `Sentences`.
use Rattle.std.specs.Prelude.{ℕ, ◌-◌, ℤ, pos, negsuc, Bool, true, false, ◌==◌, nat_lt, nat_le, if◌then◌else◌, bytes_eq, List, []}
use Rattle.std.specs.Prelude.{◌∷◌, ◌++◌, length, slice_get}
use Rattle.std.specs.Prelude.{Option, Some, None, option_map, option_and_then, unwrap_or}
use Rattle.ds_base.specs.KeyColumn.{key_name}
use Rattle.ds_base.specs.Limits.{most_results, most_elements}
use Rattle.ds_base.specs.Keys.{KeyParts, is_name, is_ident, is_path}
use Rattle.ds_base.specs.declared.key.Ident.{Ident}
use Rattle.ds_base.specs.declared.key.Ident.TheVariants as ident
use Rattle.ds_base.specs.declared.value.Value.{Value}
use Rattle.ds_base.specs.declared.value.Value.TheVariants as value
use Rattle.ds_base.specs.declared.named_value.NamedValue.{NamedValue}
use Rattle.ds_query.specs.declared.query.Op.{Op}
use Rattle.ds_query.specs.declared.query.Op.TheVariants as op
use Rattle.ds_query.specs.declared.query.Select.{Select}
use Rattle.ds_query.specs.declared.query.Select.TheVariants as select
use Rattle.ds_gql.specs.declared.statement.Bindings.{Bindings}
use Rattle.ds_gql.specs.declared.statement.Statement.{Statement}
use Rattle.ds_gql.specs.declared.draft.Phase.{Phase}
use Rattle.ds_gql.specs.declared.draft.Phase.TheVariants as phase
use Rattle.ds_gql.specs.declared.draft.KeyFor.{KeyFor}
use Rattle.ds_gql.specs.declared.draft.KeyFor.TheVariants as for
use Rattle.ds_gql.specs.declared.draft.Draft.{Draft}
use Rattle.ds_tokens.specs.declared.token.Mark.{Mark}
use Rattle.ds_tokens.specs.declared.token.Mark.TheVariants as mark
use Rattle.ds_tokens.specs.Pieces.{Piece, fixed, name, integer, string, numbered, named, strange, is, name_in}

-- ---- a draft

-- nothing is read yet
abbrev pub empty : Draft
empty = record {
  phase = phase.Start;
  select = select.Entities;
  names = [];
  kind = None;
  ancestor = None;
  filters = [];
  orders = [];
  offset = 0;
  limit = None;
  property = [];
  op = op.Equal;
  values = [];
  key_for = for.Operand;
  path = [];
  elem_kind = [];
}

-- names are a projection
abbrev pub selected : Select → List (List ℕ) → Select
selected found names = if length names == 0 then found else select.Projection names

-- the statement whose parts were read
abbrev pub complete : Draft → Statement
complete d = record {
  query = record {
    namespace = [];
    kind = d.kind;
    ancestor = d.ancestor;
    filters = d.filters;
    orders = d.orders;
    select = selected d.select d.names;
    cursors = false;
  };
  offset = d.offset;
  limit = d.limit;
}

-- the draft behind a token that has no part of its own
abbrev pub on : Phase → Draft → Option Draft
on next d = Some (record d { phase = next })

abbrev pub on_if : Bool → Phase → Draft → Option Draft
on_if true next d = on next d
on_if false next d = None

-- ---- values

-- `:n` is the n-th argument, counted from 1
abbrev pub argument : List Value → ℕ → Option Value
argument args n = if n == 0 then None else slice_get args (n - 1)

abbrev pub first_named : List NamedValue → List ℕ → Option Value
first_named [] text = None
first_named (n ∷ names) text = if bytes_eq n.name text then Some n.value else first_named names text

-- TRUE, FALSE and NULL
abbrev pub constant_of : Mark → Option Value
constant_of mark.True = Some (value.Bool true)
constant_of mark.False = Some (value.Bool false)
constant_of mark.Null = Some value.Null
constant_of _ = None

-- the value of a token that is a whole value: an integer, a string, TRUE, FALSE, NULL, or a binding that is given
abbrev pub value_of : Bindings → Piece → Option Value
value_of given (fixed found) = constant_of found
value_of given (name text) = None
value_of given (integer i) = Some (value.Int i)
value_of given (string text) = Some (value.Str text)
value_of given (numbered n) = argument given.args n
value_of given (named text) = first_named given.names text
value_of given strange = None

abbrev pub key_in : Value → Option KeyParts
key_in (value.Key k) = Some k
key_in _ = None

-- a count is an integer from 0 to 2,147,483,647
abbrev pub count_of : ℤ → Option ℕ
count_of (pos n) = if nat_le n most_results then Some n else None
count_of (negsuc n) = None

abbrev pub count_in : Piece → Option ℕ
count_in (integer n) = count_of n
count_in _ = None

-- a kind or a name of a key literal has 1 to 1,500 bytes
abbrev pub name_of : List ℕ → Option (List ℕ)
name_of text = if is_name text then Some text else None

abbrev pub key_text : Piece → Option (List ℕ)
key_text (string text) = name_of text
key_text _ = None

-- the identifier of an element: an integer from 1, or such a name
abbrev pub id_of : ℤ → Option Ident
id_of (pos n) = if is_ident (ident.Id n) then Some (ident.Id n) else None
id_of (negsuc n) = None

abbrev pub ident_in : Piece → Option Ident
ident_in (integer n) = id_of n
ident_in (string text) = option_map ident.Name (name_of text)
ident_in _ = None

-- the operators other than IN
abbrev pub compare_of : Mark → Option Op
compare_of mark.Equal = Some op.Equal
compare_of mark.Less = Some op.Less
compare_of mark.LessEqual = Some op.LessEqual
compare_of mark.Greater = Some op.Greater
compare_of mark.GreaterEqual = Some op.GreaterEqual
compare_of mark.NotEqual = Some op.NotEqual
compare_of _ = None

abbrev pub compare_in : Piece → Option Op
compare_in (fixed found) = compare_of found
compare_in _ = None

-- ---- the parts that may follow, each one optional

-- nothing, but the end of the text
abbrev pub at_end : Draft → Piece → Option Draft
at_end d p = on_if (is mark.End p) phase.Ended d

abbrev pub at_limits : Draft → Piece → Option Draft
at_limits d p = if is mark.Limit p then on phase.Limit d else (if is mark.Offset p then on phase.Offset d else at_end d p)

abbrev pub at_orders : Draft → Piece → Option Draft
at_orders d p = if is mark.Order p then on phase.OrderBy d else at_limits d p

abbrev pub at_conditions : Draft → Piece → Option Draft
at_conditions d p = if is mark.Where p then on phase.Condition d else at_orders d p

abbrev pub at_kind : Draft → Piece → Option Draft
at_kind d p = if is mark.From p then on phase.From d else at_conditions d p

-- ---- what is selected, and of which kind

abbrev pub projected : Draft → List ℕ → Option Draft
projected d text = Some (record d { phase = phase.NameRead; names = d.names ++ text ∷ [] })

-- `__key__` stands alone
abbrev pub select_named : Draft → Option (List ℕ) → Option Draft
select_named d None = None
select_named d (Some text) =
    if bytes_eq text key_name then Some (record d { phase = phase.Selected; select = select.Keys })
    else projected d text

abbrev pub at_what : Draft → Piece → Option Draft
at_what d p = if is mark.Star p then on phase.Selected d else select_named d (name_in p)

abbrev pub next_named : Draft → Option (List ℕ) → Option Draft
next_named d None = None
next_named d (Some text) = if bytes_eq text key_name then None else projected d text

abbrev pub at_name_read : Draft → Piece → Option Draft
at_name_read d p = if is mark.Comma p then on phase.NextName d else at_kind d p

abbrev pub kind_named : Draft → Option (List ℕ) → Option Draft
kind_named d None = None
kind_named d (Some text) = if is_name text then Some (record d { phase = phase.KindRead; kind = Some text }) else None

-- ---- conditions

abbrev pub property_named : Draft → Option (List ℕ) → Option Draft
property_named d None = None
property_named d (Some text) = Some (record d { phase = phase.Compare; property = text })

-- ANCESTOR stands at most once
abbrev pub no_ancestor : Option KeyParts → Bool
no_ancestor None = true
no_ancestor (Some k) = false

abbrev pub at_condition : Draft → Piece → Option Draft
at_condition d p =
    if is mark.Ancestor p then on_if (no_ancestor d.ancestor) phase.AncestorIs d else property_named d (name_in p)

abbrev pub compare_by : Draft → Option Op → Option Draft
compare_by d None = None
compare_by d (Some found) = Some (record d { phase = phase.Operand; op = found })

abbrev pub at_compare : Draft → Piece → Option Draft
at_compare d p =
    if is mark.In p then Some (record d { phase = phase.ListOpen; op = op.OneOf; values = [] }) else compare_by d (compare_in p)

-- the condition is whole: it is a filter
abbrev pub with_filter : Draft → List Value → Draft
with_filter d values = record d {
  phase = phase.ConditionRead;
  filters = d.filters ++ record { property = d.property; op = d.op; values = values } ∷ [];
  property = [];
  values = [];
}

abbrev pub operand_by : Draft → Option Value → Option Draft
operand_by d None = None
operand_by d (Some v) = Some (with_filter d (v ∷ []))

abbrev pub key_begins : KeyFor → Draft → Option Draft
key_begins purpose d = Some (record d { phase = phase.KeyOpen; key_for = purpose; path = [] })

abbrev pub at_operand : Bindings → Draft → Piece → Option Draft
at_operand given d p = if is mark.Key p then key_begins for.Operand d else operand_by d (value_of given p)

abbrev pub with_listed : Draft → Value → Draft
with_listed d v = record d { phase = phase.ListedRead; values = d.values ++ v ∷ [] }

abbrev pub listed_by : Draft → Option Value → Option Draft
listed_by d None = None
listed_by d (Some v) = Some (with_listed d v)

abbrev pub at_listed : Bindings → Draft → Piece → Option Draft
at_listed given d p = if is mark.Key p then key_begins for.Listed d else listed_by d (value_of given p)

abbrev pub at_listed_read : Draft → Piece → Option Draft
at_listed_read d p =
    if is mark.Comma p then on phase.Listed d else (if is mark.Close p then Some (with_filter d d.values) else None)

abbrev pub with_ancestor : Draft → KeyParts → Draft
with_ancestor d k = record d { phase = phase.ConditionRead; ancestor = Some k }

abbrev pub ancestor_by : Draft → Option KeyParts → Option Draft
ancestor_by d None = None
ancestor_by d (Some k) = Some (with_ancestor d k)

-- a key literal, or a binding whose value is a key
abbrev pub at_ancestor_key : Bindings → Draft → Piece → Option Draft
at_ancestor_key given d p =
    if is mark.Key p then key_begins for.Ancestor d else ancestor_by d (option_and_then key_in (value_of given p))

abbrev pub at_condition_read : Draft → Piece → Option Draft
at_condition_read d p = if is mark.And p then on phase.Condition d else at_orders d p

-- ---- key literals

abbrev pub elem_kind_by : Draft → Option (List ℕ) → Option Draft
elem_kind_by d None = None
elem_kind_by d (Some text) = Some (record d { phase = phase.KeyComma; elem_kind = text })

abbrev pub ident_by : Draft → Option Ident → Option Draft
ident_by d None = None
ident_by d (Some found) =
    Some (record d { phase = phase.ElemRead; path = d.path ++ record { kind = d.elem_kind; ident = found } ∷ []; elem_kind = [] })

-- what the whole key is for
abbrev pub key_read_for : KeyFor → Draft → KeyParts → Draft
key_read_for for.Operand d k = with_filter d (value.Key k ∷ [])
key_read_for for.Listed d k = with_listed d (value.Key k)
key_read_for for.Ancestor d k = with_ancestor d k

-- a key literal has the default namespace
abbrev pub key_read : Draft → Option Draft
key_read d =
    if is_path d.path
    then Some (key_read_for d.key_for (record d { path = [] }) (record { namespace = []; elems = d.path }))
    else None

-- a key has at most 100 elements
abbrev pub at_elem_read : Draft → Piece → Option Draft
at_elem_read d p =
    if is mark.Comma p then on_if (nat_lt (length d.path) most_elements) phase.KeyKind d
    else (if is mark.Close p then key_read d else None)

-- ---- orders

abbrev pub order_named : Draft → Option (List ℕ) → Option Draft
order_named d None = None
order_named d (Some text) = Some (record d { phase = phase.OrderRead; property = text })

-- the order is whole
abbrev pub with_order : Draft → Bool → Draft
with_order d down = record d {
  phase = phase.DirectionRead;
  orders = d.orders ++ record { name = d.property; descending = down } ∷ [];
  property = [];
}

abbrev pub at_direction_read : Draft → Piece → Option Draft
at_direction_read d p = if is mark.Comma p then on phase.Order d else at_limits d p

-- an order without a direction is ascending
abbrev pub at_order_read : Draft → Piece → Option Draft
at_order_read d p =
    if is mark.Asc p then Some (with_order d false)
    else (if is mark.Desc p then Some (with_order d true) else at_direction_read (with_order d false) p)

-- ---- limits

abbrev pub limit_by : Draft → Option ℕ → Option Draft
limit_by d None = None
limit_by d (Some n) = Some (record d { phase = phase.LimitRead; limit = Some n })

abbrev pub at_limit_read : Draft → Piece → Option Draft
at_limit_read d p =
    if is mark.Comma p then on phase.PairedLimit d else (if is mark.Offset p then on phase.Offset d else at_end d p)

abbrev pub with_pair : Draft → ℕ → ℕ → Option Draft
with_pair d offset limit = Some (record d { phase = phase.Whole; offset = offset; limit = Some limit })

-- in `LIMIT a , b` the offset is a and the limit is b
abbrev pub paired_by : Draft → Option ℕ → Option Draft
paired_by d None = None
paired_by d (Some n) = with_pair d (unwrap_or d.limit 0) n

abbrev pub offset_by : Draft → Option ℕ → Option Draft
offset_by d None = None
offset_by d (Some n) = Some (record d { phase = phase.Whole; offset = n })

-- ---- one step

-- the draft behind one more token; none where no sentence goes on so
unfoldable pub step : Bindings → Draft → Piece → Option Draft
step given d p = by d.phase where
  by : Phase → Option Draft
  by phase.Start = on_if (is mark.Select p) phase.What d
  by phase.What = at_what d p
  by phase.Selected = at_kind d p
  by phase.NameRead = at_name_read d p
  by phase.NextName = next_named d (name_in p)
  by phase.From = kind_named d (name_in p)
  by phase.KindRead = at_conditions d p
  by phase.Condition = at_condition d p
  by phase.Compare = at_compare d p
  by phase.Operand = at_operand given d p
  by phase.ListOpen = on_if (is mark.Open p) phase.Listed d
  by phase.Listed = at_listed given d p
  by phase.ListedRead = at_listed_read d p
  by phase.AncestorIs = on_if (is mark.Is p) phase.AncestorKey d
  by phase.AncestorKey = at_ancestor_key given d p
  by phase.KeyOpen = on_if (is mark.Open p) phase.KeyKind d
  by phase.KeyKind = elem_kind_by d (key_text p)
  by phase.KeyComma = on_if (is mark.Comma p) phase.KeyIdent d
  by phase.KeyIdent = ident_by d (ident_in p)
  by phase.ElemRead = at_elem_read d p
  by phase.ConditionRead = at_condition_read d p
  by phase.OrderBy = on_if (is mark.By p) phase.Order d
  by phase.Order = order_named d (name_in p)
  by phase.OrderRead = at_order_read d p
  by phase.DirectionRead = at_direction_read d p
  by phase.Limit = limit_by d (count_in p)
  by phase.LimitRead = at_limit_read d p
  by phase.PairedLimit = paired_by d (count_in p)
  by phase.Offset = offset_by d (count_in p)
  by phase.Whole = at_end d p
  by phase.Ended = None
