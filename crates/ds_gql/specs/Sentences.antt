-- Whole sentences of GQL: what their parts may be, the tokens that they are written with, and what they say. Each production of the
-- grammar is one equation.
use Rattle.std.specs.Prelude.{◌≡◌, ℕ, pos, Bool, true, false, not, ◌&&◌, if◌then◌else◌, bytes_eq, List, [], ◌∷◌, ◌++◌, map}
use Rattle.std.specs.Prelude.{Option, Some, None, option_map, option_and_then, unwrap_or}
use Rattle.std.specs.List.{list_any}
use Rattle.ds_base.specs.Keys.{KeyParts, is_name, is_path}
use Rattle.ds_base.specs.declared.key.Ident.{Ident}
use Rattle.ds_base.specs.declared.key.Ident.TheVariants as ident
use Rattle.ds_base.specs.declared.key.Elem.{Elem}
use Rattle.ds_base.specs.declared.value.Value.{Value}
use Rattle.ds_base.specs.declared.value.Value.TheVariants as value
use Rattle.ds_base.specs.declared.column.Column.{Column}
use Rattle.ds_query.specs.declared.query.Op.TheVariants as op
use Rattle.ds_query.specs.declared.query.Filter.{Filter}
use Rattle.ds_query.specs.declared.query.Select.{Select}
use Rattle.ds_query.specs.declared.query.Select.TheVariants as select
use Rattle.ds_gql.specs.declared.statement.Bindings.{Bindings}
use Rattle.ds_gql.specs.declared.statement.Statement.{Statement}
use Rattle.ds_tokens.specs.declared.token.Mark.{Mark}
use Rattle.ds_tokens.specs.declared.token.Mark.TheVariants as mark
use Rattle.ds_tokens.specs.Pieces.{Piece, fixed, name, integer, string}
use Rattle.ds_gql.specs.Steps.{value_of, key_in, compare_of, count_of, no_ancestor}
use Rattle.ds_base.specs.KeyColumn.{key_name}

-- ---- the parts of a sentence

-- what = * | __key__ | name {, name}
pub data What : Type 0 where
  everything : What
  keys : What
  names : List ℕ → List (List ℕ) → What

-- value = integer | string | TRUE | FALSE | NULL | binding, which are one token, | key
pub data Operand : Type 0 where
  one : Piece → Operand
  key : List Elem → Operand

-- condition = name compare value | name IN ( value {, value} ) | ANCESTOR IS key
pub data Condition : Type 0 where
  compare : List ℕ → Mark → Operand → Condition
  among : List ℕ → Operand → List Operand → Condition
  under : Operand → Condition

-- order = name [ASC | DESC]; the direction says whether it goes down
pub record Order : Type 0 where
  pub property : List ℕ
  pub down : Option Bool

-- limits = LIMIT count | LIMIT count OFFSET count | LIMIT count , count | OFFSET count
pub data Limits : Type 0 where
  none : Limits
  limit : ℕ → Limits
  limit_offset : ℕ → ℕ → Limits
  pair : ℕ → ℕ → Limits
  offset : ℕ → Limits

-- statement = SELECT what [FROM name] [WHERE condition {AND condition}] [ORDER BY order {, order}] [limits]
pub record Sentence : Type 0 where
  pub what : What
  pub kind : Option (List ℕ)
  pub conditions : List Condition
  pub orders : List Order
  pub limits : Limits

-- ---- the tokens that they are written with

abbrev pub comma : Piece
comma = fixed mark.Comma

-- each of the others stands behind a separator
abbrev pub others : {A : Type 0} → Piece → (A → List Piece) → List A → List Piece
others {A = A} separator f [] = []
others {A = A} separator f (x ∷ xs) = separator ∷ f x ++ others separator f xs

-- what leads the first and the others stands there only where there is a first
abbrev pub led_by : {A : Type 0} → List Piece → Piece → (A → List Piece) → List A → List Piece
led_by {A = A} lead separator f [] = []
led_by {A = A} lead separator f (x ∷ xs) = lead ++ (f x ++ others separator f xs)

abbrev pub name_pieces : List ℕ → List Piece
name_pieces text = name text ∷ []

abbrev pub what_pieces : What → List Piece
what_pieces everything = fixed mark.Star ∷ []
what_pieces keys = name key_name ∷ []
what_pieces (names first more) = name first ∷ others comma name_pieces more

abbrev pub kind_pieces : Option (List ℕ) → List Piece
kind_pieces None = []
kind_pieces (Some text) = fixed mark.From ∷ name text ∷ []

-- ident = integer from 1 | string
abbrev pub ident_piece : Ident → Piece
ident_piece (ident.Id n) = integer (pos n)
ident_piece (ident.Name text) = string text

abbrev pub elem_pieces : Elem → List Piece
elem_pieces e = string e.kind ∷ comma ∷ ident_piece e.ident ∷ []

-- key = KEY ( string , ident {, string , ident} )
abbrev pub key_pieces : List Elem → List Piece
key_pieces path = led_by (fixed mark.Key ∷ fixed mark.Open ∷ []) comma elem_pieces path ++ fixed mark.Close ∷ []

abbrev pub operand_pieces : Operand → List Piece
operand_pieces (one p) = p ∷ []
operand_pieces (key path) = key_pieces path

abbrev pub condition_pieces : Condition → List Piece
condition_pieces (compare property sign o) = name property ∷ fixed sign ∷ operand_pieces o
condition_pieces (among property first more) =
    name property ∷ fixed mark.In ∷ fixed mark.Open ∷ operand_pieces first ++ (others comma operand_pieces more ++ fixed mark.Close ∷ [])
condition_pieces (under o) = fixed mark.Ancestor ∷ fixed mark.Is ∷ operand_pieces o

abbrev pub direction_pieces : Option Bool → List Piece
direction_pieces None = []
direction_pieces (Some false) = fixed mark.Asc ∷ []
direction_pieces (Some true) = fixed mark.Desc ∷ []

abbrev pub order_pieces : Order → List Piece
order_pieces o = name o.property ∷ direction_pieces o.down

abbrev pub limits_pieces : Limits → List Piece
limits_pieces none = []
limits_pieces (limit n) = fixed mark.Limit ∷ integer (pos n) ∷ []
limits_pieces (limit_offset n m) = fixed mark.Limit ∷ integer (pos n) ∷ fixed mark.Offset ∷ integer (pos m) ∷ []
limits_pieces (pair m n) = fixed mark.Limit ∷ integer (pos m) ∷ comma ∷ integer (pos n) ∷ []
limits_pieces (offset m) = fixed mark.Offset ∷ integer (pos m) ∷ []

-- the tokens of a statement between SELECT and the end of the text
abbrev pub sentence_pieces : Sentence → List Piece
sentence_pieces s =
    what_pieces s.what ++ (kind_pieces s.kind ++ (led_by (fixed mark.Where ∷ []) (fixed mark.And) condition_pieces s.conditions
    ++ (led_by (fixed mark.Order ∷ fixed mark.By ∷ []) comma order_pieces s.orders ++ limits_pieces s.limits)))

abbrev pub pieces : Sentence → List Piece
pieces s =
    fixed mark.Select ∷ what_pieces s.what ++ (kind_pieces s.kind
    ++ (led_by (fixed mark.Where ∷ []) (fixed mark.And) condition_pieces s.conditions
    ++ (led_by (fixed mark.Order ∷ fixed mark.By ∷ []) comma order_pieces s.orders ++ (limits_pieces s.limits ++ fixed mark.End ∷ []))))

-- ---- what they say; none where a rule about names, keys, counts or bindings is broken

-- `__key__` stands alone
abbrev pub is_what : What → Bool
is_what everything = true
is_what keys = true
is_what (names first more) = not (list_any (λ n. bytes_eq n key_name) (first ∷ more))

abbrev pub select_of : What → Select
select_of everything = select.Entities
select_of keys = select.Keys
select_of (names first more) = select.Projection (first ∷ more)

-- a kind has 1 to 1,500 bytes
abbrev pub is_kind : Option (List ℕ) → Bool
is_kind None = true
is_kind (Some text) = is_name text

-- a key literal has the default namespace
abbrev pub operand_value : Bindings → Operand → Option Value
operand_value given (one p) = value_of given p
operand_value given (key path) = if is_path path then Some (value.Key (record { namespace = []; elems = path })) else None

abbrev pub operand_values : Bindings → List Operand → Option (List Value)
operand_values given [] = Some []
operand_values given (o ∷ os) = option_and_then (λ v. option_map (λ vs. v ∷ vs) (operand_values given os)) (operand_value given o)

-- the filters, and the ancestor
abbrev pub Conditions : Type 0
Conditions = List Filter × Option KeyParts

-- one condition more: a filter, or the ancestor, which stands at most once
abbrev pub with_condition : Bindings → Conditions → Condition → Option Conditions
with_condition given so_far (compare property sign o) =
    option_and_then (λ found. option_map (λ v. (so_far.0 ++ record { property = property; op = found; values = v ∷ [] } ∷ [], so_far.1))
    (operand_value given o)) (compare_of sign)
with_condition given so_far (among property first more) =
    option_map (λ vs. (so_far.0 ++ record { property = property; op = op.OneOf; values = vs } ∷ [], so_far.1))
    (operand_values given (first ∷ more))
with_condition given so_far (under o) =
    option_and_then (λ k. if no_ancestor so_far.1 then Some (so_far.0, Some k) else None) (option_and_then key_in (operand_value given o))

abbrev pub with_conditions : Bindings → Conditions → List Condition → Option Conditions
with_conditions given so_far [] = Some so_far
with_conditions given so_far (c ∷ cs) = option_and_then (λ next. with_conditions given next cs) (with_condition given so_far c)

-- an order without a direction is ascending
abbrev pub column_of : Order → Column
column_of o = record { name = o.property; descending = unwrap_or o.down false }

-- the offset and the limit; each count is at most 2,147,483,647
abbrev pub bounds_of : Limits → Option (ℕ × Option ℕ)
bounds_of none = Some (0, None)
bounds_of (limit n) = option_map (λ c. (0, Some c)) (count_of (pos n))
bounds_of (limit_offset n m) = option_and_then (λ c. option_map (λ e. (e, Some c)) (count_of (pos m))) (count_of (pos n))
bounds_of (pair m n) = option_and_then (λ e. option_map (λ c. (e, Some c)) (count_of (pos n))) (count_of (pos m))
bounds_of (offset m) = option_map (λ e. (e, None)) (count_of (pos m))

-- what a sentence says under these arguments
abbrev pub says : Bindings → Sentence → Option Statement
says given s =
    if is_what s.what && is_kind s.kind
    then option_and_then (λ found. option_map (λ bounds. record {
      query = record {
        namespace = [];
        kind = s.kind;
        ancestor = found.1;
        filters = found.0;
        orders = map column_of s.orders;
        select = select_of s.what;
        cursors = false;
      };
      offset = bounds.0;
      limit = bounds.1;
    }) (bounds_of s.limits)) (with_conditions given ([], None) s.conditions)
    else None

-- these tokens are a sentence that says this
pub record Derives (given : Bindings) (written : List Piece) (st : Statement) : Type 0 where
  pub sentence : Sentence
  pub spelled : written ≡ pieces sentence
  pub said : says given sentence ≡ Some st
