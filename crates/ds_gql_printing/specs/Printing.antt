-- How a statement is printed: the sentence that says it, the text of that sentence, and the arguments that the text cites.
use Rattle.std.specs.Prelude.{ℕ, ◌+◌, Bool, true, false, not, ◌&&◌, ◌==◌, nat_le, if◌then◌else◌, bytes_eq, codes, decimal}
use Rattle.std.specs.Prelude.{List, [], ◌∷◌, ◌++◌, length, map, slice_index, Option, Some, None, is_some}
use Rattle.std.specs.List.{list_all, list_any, flat_map}
use Rattle.std.specs.Fmt.{signed_decimal}
use Rattle.ds_base.specs.Limits.{most_name_bytes, most_results}
use Rattle.ds_base.specs.Keys.{KeyParts}
use Rattle.ds_base.specs.declared.value.Value.{Value}
use Rattle.ds_base.specs.declared.value.Value.TheVariants as value
use Rattle.ds_base.specs.declared.column.Column.{Column}
use Rattle.ds_query.specs.Filters.{has_operands}
use Rattle.ds_query.specs.declared.query.Op.{Op}
use Rattle.ds_query.specs.declared.query.Op.TheVariants as op
use Rattle.ds_query.specs.declared.query.Filter.{Filter}
use Rattle.ds_query.specs.declared.query.Select.{Select}
use Rattle.ds_query.specs.declared.query.Select.TheVariants as select
use Rattle.ds_gql.specs.declared.statement.Statement.{Statement}
use Rattle.ds_tokens.specs.declared.token.Mark.{Mark}
use Rattle.ds_tokens.specs.declared.token.Mark.TheVariants as mark
use Rattle.ds_tokens.specs.Pieces.{Piece, fixed, name, integer, string, numbered, named, strange, is}
use Rattle.ds_tokens.specs.Tokens.{begins_word, is_word_byte, is_quote, is_double_quote, lookup, keywords}
use Rattle.ds_base.specs.KeyColumn.{key_name}
use Rattle.ds_gql.specs.Sentences.{What, everything, keys, names, Operand, one, key, Condition, compare}
use Rattle.ds_gql.specs.Sentences.{among, under, Order, Limits, none, limit, limit_offset, offset, Sentence, pieces}

-- ---- which statements are printed

-- a projection has at least one name, and none is `__key__`
abbrev pub is_selection : Select → Bool
is_selection (select.Projection []) = false
is_selection (select.Projection (n ∷ ns)) = not (list_any (λ m. bytes_eq m key_name) (n ∷ ns))
is_selection _ = true

abbrev pub is_short_kind : Option (List ℕ) → Bool
is_short_kind None = true
is_short_kind (Some text) = nat_le (length text) most_name_bytes

abbrev pub is_count : Option ℕ → Bool
is_count None = true
is_count (Some n) = nat_le n most_results

-- the default namespace is the empty one
abbrev pub is_default : List ℕ → Bool
is_default [] = true
is_default (b ∷ bytes) = false

-- a statement that a text can be: nothing in it is what no text says
abbrev pub can_print : Statement → Bool
can_print st =
    not st.query.cursors && is_default st.query.namespace && is_short_kind st.query.kind && list_all has_operands st.query.filters
    && is_selection st.query.select && nat_le st.offset most_results && is_count st.limit

-- a name is written where it has at least one byte and no double quote
abbrev pub is_written_name : List ℕ → Bool
is_written_name [] = false
is_written_name (b ∷ bytes) = not (list_any is_double_quote (b ∷ bytes))

abbrev pub kind_names : Option (List ℕ) → List (List ℕ)
kind_names None = []
kind_names (Some text) = text ∷ []

abbrev pub selected_names : Select → List (List ℕ)
selected_names (select.Projection ns) = ns
selected_names _ = []

abbrev pub has_written_properties : List Filter → Bool
has_written_properties filters = list_all (λ f. is_written_name f.property) filters

abbrev pub has_written_orders : List Column → Bool
has_written_orders orders = list_all (λ o. is_written_name o.name) orders

-- the kind and each property can be written
abbrev pub has_written_names : Statement → Bool
has_written_names st =
    list_all is_written_name (selected_names st.query.select) && list_all is_written_name (kind_names st.query.kind)
    && has_written_properties st.query.filters && has_written_orders st.query.orders

-- ---- arguments

-- integers, strings, truth values, nulls, and keys of the default namespace have literals
abbrev pub has_literal : Value → Bool
has_literal (value.Int i) = true
has_literal (value.Str text) = true
has_literal (value.Bool b) = true
has_literal value.Null = true
has_literal (value.Key k) = is_default k.namespace
has_literal _ = false

-- the argument that a value needs
abbrev pub cited : Value → List Value
cited v = if has_literal v then [] else v ∷ []

abbrev pub all_cited : List Value → List Value
all_cited values = flat_map cited values

abbrev pub ancestor_values : Option KeyParts → List Value
ancestor_values None = []
ancestor_values (Some k) = value.Key k ∷ []

abbrev pub filter_values : List Filter → List Value
filter_values filters = flat_map (λ f. f.values) filters

-- the values of a statement in their order, the ancestor first
abbrev pub values_of : Statement → List Value
values_of st = ancestor_values st.query.ancestor ++ filter_values st.query.filters

-- the arguments of the printed text: `:1` is the first
abbrev pub args_of : Statement → List Value
args_of st = all_cited (values_of st)

-- ---- the sentence

abbrev pub truth : Bool → Piece
truth true = fixed mark.True
truth false = fixed mark.False

abbrev pub key_operand : ℕ → KeyParts → Operand
key_operand before k = if is_default k.namespace then key k.elems else one (numbered (before + 1))

-- a value, where so many arguments are cited before it
abbrev pub operand_of : ℕ → Value → Operand
operand_of before (value.Int i) = one (integer i)
operand_of before (value.Str text) = one (string text)
operand_of before (value.Bool b) = one (truth b)
operand_of before value.Null = one (fixed mark.Null)
operand_of before (value.Key k) = key_operand before k
operand_of before _ = one (numbered (before + 1))

abbrev pub operands_of : ℕ → List Value → List Operand
operands_of before [] = []
operands_of before (v ∷ values) = operand_of before v ∷ operands_of (before + length (cited v)) values

abbrev pub sign_of : Op → Mark
sign_of op.Equal = mark.Equal
sign_of op.Less = mark.Less
sign_of op.LessEqual = mark.LessEqual
sign_of op.Greater = mark.Greater
sign_of op.GreaterEqual = mark.GreaterEqual
sign_of op.NotEqual = mark.NotEqual
sign_of op.OneOf = mark.In

abbrev pub condition_by : List ℕ → Op → List Operand → Condition
condition_by property op.OneOf [] = among property (one strange) []
condition_by property op.OneOf (o ∷ os) = among property o os
condition_by property found [] = compare property (sign_of found) (one strange)
condition_by property found (o ∷ os) = compare property (sign_of found) o

-- a filter, where so many arguments are cited before it
abbrev pub condition_of : ℕ → Filter → Condition
condition_of before f = condition_by f.property f.op (operands_of before f.values)

abbrev pub conditions_of : ℕ → List Filter → List Condition
conditions_of before [] = []
conditions_of before (f ∷ filters) = condition_of before f ∷ conditions_of (before + length (all_cited f.values)) filters

-- the ancestor's condition stands first
abbrev pub all_conditions : ℕ → Option KeyParts → List Filter → List Condition
all_conditions before None filters = conditions_of before filters
all_conditions before (Some k) filters = under (key_operand before k) ∷ conditions_of (before + length (cited (value.Key k))) filters

abbrev pub what_of : Select → What
what_of select.Entities = everything
what_of select.Keys = keys
what_of (select.Projection []) = everything
what_of (select.Projection (n ∷ ns)) = names n ns

-- every order has its direction
abbrev pub order_of : Column → Order
order_of c = record { property = c.name; down = Some c.descending }

-- the offset stands there where it isn't 0
abbrev pub limits_of : Option ℕ → ℕ → Limits
limits_of None m = if m == 0 then none else offset m
limits_of (Some n) m = if m == 0 then limit n else limit_offset n m

-- the sentence that says a statement
abbrev pub sentence_of : Statement → Sentence
sentence_of st = record {
  what = what_of st.query.select;
  kind = st.query.kind;
  conditions = all_conditions 0 st.query.ancestor st.query.filters;
  orders = map order_of st.query.orders;
  limits = limits_of st.limit st.offset;
}

-- ---- the text

-- keywords stand in capitals
abbrev pub mark_text : Mark → List ℕ
mark_text mark.Select = codes "SELECT"
mark_text mark.From = codes "FROM"
mark_text mark.Where = codes "WHERE"
mark_text mark.And = codes "AND"
mark_text mark.Order = codes "ORDER"
mark_text mark.By = codes "BY"
mark_text mark.Asc = codes "ASC"
mark_text mark.Desc = codes "DESC"
mark_text mark.Limit = codes "LIMIT"
mark_text mark.Offset = codes "OFFSET"
mark_text mark.In = codes "IN"
mark_text mark.Is = codes "IS"
mark_text mark.Ancestor = codes "ANCESTOR"
mark_text mark.True = codes "TRUE"
mark_text mark.False = codes "FALSE"
mark_text mark.Null = codes "NULL"
mark_text mark.Key = codes "KEY"
mark_text mark.Star = codes "*"
mark_text mark.Comma = codes ","
mark_text mark.Open = codes "("
mark_text mark.Close = codes ")"
mark_text mark.Equal = codes "="
mark_text mark.Less = codes "<"
mark_text mark.LessEqual = codes "<="
mark_text mark.Greater = codes ">"
mark_text mark.GreaterEqual = codes ">="
mark_text mark.NotEqual = codes "!="
mark_text mark.End = []

-- a name that stands without double quotes: a word that is no keyword
abbrev pub is_plain : List ℕ → Bool
is_plain text = begins_word (slice_index text 0) && list_all is_word_byte text && not (is_some (lookup keywords text))

abbrev pub name_text : List ℕ → List ℕ
name_text text = if is_plain text then text else 34 ∷ text ++ 34 ∷ []

-- with two quotes for each one
abbrev pub doubled_byte : ℕ → List ℕ
doubled_byte b = if is_quote b then 39 ∷ 39 ∷ [] else b ∷ []

abbrev pub doubled : List ℕ → List ℕ
doubled text = flat_map doubled_byte text

abbrev pub string_text : List ℕ → List ℕ
string_text text = 39 ∷ doubled text ++ 39 ∷ []

-- how a token is written
abbrev pub written : Piece → List ℕ
written (fixed m) = mark_text m
written (name text) = name_text text
written (integer i) = signed_decimal i
written (string text) = string_text text
written (numbered n) = 58 ∷ decimal n
written (named text) = 58 ∷ text
written strange = []

-- nothing is written of the end
abbrev pub behind_space : Piece → List ℕ
behind_space p = if is mark.End p then [] else 32 ∷ written p

abbrev pub spaced : List Piece → List ℕ
spaced ps = flat_map behind_space ps

-- one space stands between two tokens
abbrev pub text_of_pieces : List Piece → List ℕ
text_of_pieces [] = []
text_of_pieces (p ∷ ps) = written p ++ spaced ps

-- the text that a statement is printed as
unfoldable pub text_of : Statement → List ℕ
text_of st = text_of_pieces (pieces (sentence_of st))
