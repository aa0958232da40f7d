-- What is left of a sentence behind what has been read, for each phase of reading.
use Rattle.std.proofs.Common.{◌≡◌, ℕ, Bool, List, [], ◌∷◌, ◌++◌, map, Option, Some, None, ◌⊎◌, true, false}
use Rattle.std.specs.Prelude.{pos, option_and_then, bytes_eq, unwrap_or}
use Rattle.std.specs.List.{list_any}
use Rattle.ds_base.specs.Keys.{KeyParts, is_name, is_path}
use Rattle.ds_base.specs.declared.key.Ident.{Ident}
use Rattle.ds_base.specs.declared.key.Elem.{Elem}
use Rattle.ds_base.specs.declared.value.Value.{Value}
use Rattle.ds_base.specs.declared.value.Value.TheVariants as value
use Rattle.ds_query.specs.declared.query.Op.{Op}
use Rattle.ds_query.specs.declared.query.Select.TheVariants as select
use Rattle.ds_gql.specs.declared.statement.Bindings.{Bindings}
use Rattle.ds_gql.specs.declared.statement.Statement.{Statement}
use Rattle.ds_gql.specs.declared.draft.Phase.{Phase}
use Rattle.ds_gql.specs.declared.draft.Phase.TheVariants as phase
use Rattle.ds_gql.specs.declared.draft.KeyFor.{KeyFor}
use Rattle.ds_gql.specs.declared.draft.KeyFor.TheVariants as for
use Rattle.ds_tokens.specs.declared.token.Mark.{Mark}
use Rattle.ds_tokens.specs.declared.token.Mark.TheVariants as mark
use Rattle.ds_tokens.specs.Pieces.{Piece, fixed, name, integer}
use Rattle.ds_gql.specs.Steps.{selected, key_in, count_of}
use Rattle.ds_base.specs.KeyColumn.{key_name}
use Rattle.ds_gql.specs.Sentences.{Operand, Condition, Conditions, Order, Limits, none, limit, limit_offset, pair, offset, comma, others}
use Rattle.ds_gql.specs.Sentences.{led_by, name_pieces, kind_pieces, elem_pieces, ident_piece, operand_pieces, condition_pieces}
use Rattle.ds_gql.specs.Sentences.{direction_pieces, order_pieces, limits_pieces, is_kind, operand_value, operand_values, with_condition}
use Rattle.ds_gql.specs.Sentences.{with_conditions, column_of}
use Rattle.ds_gql.proofs.SentenceSteps.{Shown, Open}
use Rattle.ds_gql.proofs.ConditionSteps.{with_found}

-- the statement of a whole draft
abbrev pub shows : Shown → Statement
shows v = record {
  query = record {
    namespace = [];
    kind = v.kind;
    ancestor = v.ancestor;
    filters = v.filters;
    orders = v.orders;
    select = selected v.select v.names;
    cursors = false;
  };
  offset = v.offset;
  limit = v.limit;
}

-- what limits change
abbrev pub after_limits : Shown → Limits → Shown
after_limits v none = v
after_limits v (limit n) = record v { limit = Some n }
after_limits v (limit_offset n m) = record v { limit = Some n; offset = m }
after_limits v (pair m n) = record v { limit = Some n; offset = m }
after_limits v (offset m) = record v { offset = m }

-- each count is at most 2,147,483,647
abbrev pub AreCounts : Limits → Type 0
AreCounts none = Unit {0}
AreCounts (limit n) = count_of (pos n) ≡ Some n
AreCounts (limit_offset n m) = (count_of (pos n) ≡ Some n) × (count_of (pos m) ≡ Some m)
AreCounts (pair m n) = (count_of (pos m) ≡ Some m) × (count_of (pos n) ≡ Some n)
AreCounts (offset m) = count_of (pos m) ≡ Some m

abbrev pub or_else : Option (List ℕ) → Option (List ℕ) → Option (List ℕ)
or_else old None = old
or_else old (Some text) = Some text

abbrev pub with_filter_of : Shown → List ℕ → Op → List Value → Shown
with_filter_of v property found values = record v { filters = v.filters ++ record { property = property; op = found; values = values } ∷ [] }

abbrev pub default_key : List Elem → KeyParts
default_key path = record { namespace = []; elems = path }

abbrev pub elem_of : List ℕ → Ident → Elem
elem_of kind ident = record { kind = kind; ident = ident }

abbrev pub order_by : List ℕ → Option Bool → Order
order_by property down = record { property = property; down = down }

-- a keyword or a sign, and what follows it
pub record Led (m : Mark) (F : List Piece → Type 0) (ps : List Piece) : Type 0 where
  pub tail : List Piece
  pub spelled : ps ≡ fixed m ∷ tail
  pub rest : F tail

-- a count, and what follows it
pub record Counted (F : ℕ → List Piece → Type 0) (ps : List Piece) : Type 0 where
  pub count : ℕ
  pub tail : List Piece
  pub spelled : ps ≡ integer (pos count) ∷ tail
  pub few : count_of (pos count) ≡ Some count
  pub rest : F count tail

module _ (given : Bindings) (st : Statement) where
  -- ---- limits and the end

  pub record EndRest (v : Shown) (ps : List Piece) : Type 0 where
    pub behind : List Piece
    pub spelled : ps ≡ fixed mark.End ∷ behind
    pub same : shows v ≡ st

  pub record LimitsRest (v : Shown) (ps : List Piece) : Type 0 where
    pub limits : Limits
    pub behind : List Piece
    pub spelled : ps ≡ limits_pieces limits ++ fixed mark.End ∷ behind
    pub counts : AreCounts limits
    pub same : shows (after_limits v limits) ≡ st

  abbrev pub OffsetRest : Shown → List Piece → Type 0
  OffsetRest v = Counted (λ m. EndRest (record v { offset = m }))

  abbrev pub PairedRest : Shown → List Piece → Type 0
  PairedRest v = Counted (λ n. EndRest (record v { offset = unwrap_or v.limit 0; limit = Some n }))

  abbrev pub LimitReadRest : Shown → List Piece → Type 0
  LimitReadRest v ps = EndRest v ps ⊎ (Led mark.Offset (OffsetRest v) ps ⊎ Led mark.Comma (PairedRest v) ps)

  abbrev pub LimitRest : Shown → List Piece → Type 0
  LimitRest v = Counted (λ n. LimitReadRest (record v { limit = Some n }))

  -- ---- orders

  pub record OrdersRest (v : Shown) (ps : List Piece) : Type 0 where
    pub orders : List Order
    pub tail : List Piece
    pub spelled : ps ≡ led_by (fixed mark.Order ∷ fixed mark.By ∷ []) comma order_pieces orders ++ tail
    pub rest : LimitsRest (record v { orders = v.orders ++ map column_of orders }) tail

  pub record FurtherOrders (v : Shown) (ps : List Piece) : Type 0 where
    pub orders : List Order
    pub tail : List Piece
    pub spelled : ps ≡ others comma order_pieces orders ++ tail
    pub rest : LimitsRest (record v { orders = v.orders ++ map column_of orders }) tail

  pub record OrderRest (v : Shown) (ps : List Piece) : Type 0 where
    pub order : Order
    pub orders : List Order
    pub tail : List Piece
    pub spelled : ps ≡ order_pieces order ++ (others comma order_pieces orders ++ tail)
    pub rest : LimitsRest (record v { orders = v.orders ++ column_of order ∷ map column_of orders }) tail

  -- behind the name of an order
  pub record DirectionRest (v : Shown) (property : List ℕ) (ps : List Piece) : Type 0 where
    pub down : Option Bool
    pub orders : List Order
    pub tail : List Piece
    pub spelled : ps ≡ direction_pieces down ++ (others comma order_pieces orders ++ tail)
    pub rest : LimitsRest (record v { orders = v.orders ++ column_of (order_by property down) ∷ map column_of orders }) tail

  -- ---- conditions

  pub record WhereRest (v : Shown) (ps : List Piece) : Type 0 where
    pub conditions : List Condition
    pub next : Conditions
    pub tail : List Piece
    pub spelled : ps ≡ led_by (fixed mark.Where ∷ []) (fixed mark.And) condition_pieces conditions ++ tail
    pub said : with_conditions given (v.filters, v.ancestor) conditions ≡ Some next
    pub rest : OrdersRest (with_found v next) tail

  pub record FurtherRest (v : Shown) (ps : List Piece) : Type 0 where
    pub conditions : List Condition
    pub next : Conditions
    pub tail : List Piece
    pub spelled : ps ≡ others (fixed mark.And) condition_pieces conditions ++ tail
    pub said : with_conditions given (v.filters, v.ancestor) conditions ≡ Some next
    pub rest : OrdersRest (with_found v next) tail

  -- a condition, of which these tokens are read
  pub record ConditionRest (v : Shown) (read : List Piece) (ps : List Piece) : Type 0 where
    pub condition : Condition
    pub left : List Piece
    pub next : Conditions
    pub tail : List Piece
    pub whole : condition_pieces condition ≡ read ++ left
    pub spelled : ps ≡ left ++ tail
    pub said : with_condition given (v.filters, v.ancestor) condition ≡ Some next
    pub rest : FurtherRest (with_found v next) tail

  pub record OperandRest (v : Shown) (property : List ℕ) (sign : Op) (ps : List Piece) : Type 0 where
    pub operand : Operand
    pub found : Value
    pub tail : List Piece
    pub spelled : ps ≡ operand_pieces operand ++ tail
    pub said : operand_value given operand ≡ Some found
    pub rest : FurtherRest (with_filter_of v property sign (found ∷ [])) tail

  pub record ListedRest (v : Shown) (property : List ℕ) (sign : Op) (before : List Value) (ps : List Piece) : Type 0 where
    pub operand : Operand
    pub operands : List Operand
    pub values : List Value
    pub tail : List Piece
    pub spelled : ps ≡ operand_pieces operand ++ (others comma operand_pieces operands ++ fixed mark.Close ∷ tail)
    pub said : operand_values given (operand ∷ operands) ≡ Some values
    pub rest : FurtherRest (with_filter_of v property sign (before ++ values)) tail

  pub record ListedReadRest (v : Shown) (property : List ℕ) (sign : Op) (before : List Value) (ps : List Piece) : Type 0 where
    pub operands : List Operand
    pub values : List Value
    pub tail : List Piece
    pub spelled : ps ≡ others comma operand_pieces operands ++ fixed mark.Close ∷ tail
    pub said : operand_values given operands ≡ Some values
    pub rest : FurtherRest (with_filter_of v property sign (before ++ values)) tail

  pub record AncestorRest (v : Shown) (ps : List Piece) : Type 0 where
    pub operand : Operand
    pub key : KeyParts
    pub tail : List Piece
    pub spelled : ps ≡ operand_pieces operand ++ tail
    pub said : option_and_then key_in (operand_value given operand) ≡ Some key
    pub rest : FurtherRest (record v { ancestor = Some key }) tail

  -- ---- key literals

  abbrev pub AfterKey : KeyFor → Shown → List ℕ → Op → List Value → KeyParts → List Piece → Type 0
  AfterKey for.Operand v property sign before k = FurtherRest (with_filter_of v property sign (value.Key k ∷ []))
  AfterKey for.Listed v property sign before k = ListedReadRest v property sign (before ++ value.Key k ∷ [])
  AfterKey for.Ancestor v property sign before k = FurtherRest (record v { ancestor = Some k })

  -- behind a whole element
  pub record ElemRest (v : Shown) (r : Open) (ps : List Piece) : Type 0 where
    pub elems : List Elem
    pub tail : List Piece
    pub spelled : ps ≡ others comma elem_pieces elems ++ fixed mark.Close ∷ tail
    pub lawful : is_path (r.path ++ elems) ≡ true
    pub rest : AfterKey r.key_for v r.property r.op r.values (default_key (r.path ++ elems)) tail

  pub record KindRest (v : Shown) (r : Open) (ps : List Piece) : Type 0 where
    pub elem : Elem
    pub elems : List Elem
    pub tail : List Piece
    pub spelled : ps ≡ elem_pieces elem ++ (others comma elem_pieces elems ++ fixed mark.Close ∷ tail)
    pub lawful : is_path (r.path ++ elem ∷ elems) ≡ true
    pub rest : AfterKey r.key_for v r.property r.op r.values (default_key (r.path ++ elem ∷ elems)) tail

  -- behind the kind of an element and its comma
  pub record IdentRest (v : Shown) (r : Open) (ps : List Piece) : Type 0 where
    pub ident : Ident
    pub elems : List Elem
    pub tail : List Piece
    pub spelled : ps ≡ ident_piece ident ∷ (others comma elem_pieces elems ++ fixed mark.Close ∷ tail)
    pub lawful : is_path (r.path ++ elem_of r.elem_kind ident ∷ elems) ≡ true
    pub rest : AfterKey r.key_for v r.property r.op r.values (default_key (r.path ++ elem_of r.elem_kind ident ∷ elems)) tail

  -- ---- the selection and the kind

  pub record FromRest (v : Shown) (ps : List Piece) : Type 0 where
    pub text : List ℕ
    pub tail : List Piece
    pub spelled : ps ≡ name text ∷ tail
    pub lawful : is_name text ≡ true
    pub rest : WhereRest (record v { kind = Some text }) tail

  pub record SelectedRest (v : Shown) (ps : List Piece) : Type 0 where
    pub kind : Option (List ℕ)
    pub tail : List Piece
    pub spelled : ps ≡ kind_pieces kind ++ tail
    pub lawful : is_kind kind ≡ true
    pub rest : WhereRest (record v { kind = or_else v.kind kind }) tail

  pub record NamesRest (v : Shown) (ps : List Piece) : Type 0 where
    pub names : List (List ℕ)
    pub tail : List Piece
    pub spelled : ps ≡ others comma name_pieces names ++ tail
    pub other : list_any (λ n. bytes_eq n key_name) names ≡ false
    pub rest : SelectedRest (record v { names = v.names ++ names }) tail

  -- a further name, and others
  pub record NameRest (v : Shown) (ps : List Piece) : Type 0 where
    pub text : List ℕ
    pub tail : List Piece
    pub spelled : ps ≡ name text ∷ tail
    pub other : bytes_eq text key_name ≡ false
    pub rest : NamesRest (record v { names = v.names ++ text ∷ [] }) tail

  pub record KeysRest (v : Shown) (ps : List Piece) : Type 0 where
    pub tail : List Piece
    pub spelled : ps ≡ name key_name ∷ tail
    pub rest : SelectedRest (record v { select = select.Keys }) tail

  -- what is selected: everything, the keys, or names
  abbrev pub WhatRest : Shown → List Piece → Type 0
  WhatRest v ps = Led mark.Star (SelectedRest v) ps ⊎ (KeysRest v ps ⊎ NameRest v ps)

  -- ---- by phase

  abbrev pub Rest : Phase → Shown → Open → List Piece → Type 0
  Rest phase.Start v r = Led mark.Select (WhatRest v)
  Rest phase.What v r = WhatRest v
  Rest phase.Selected v r = SelectedRest v
  Rest phase.NameRead v r = NamesRest v
  Rest phase.NextName v r = NameRest v
  Rest phase.From v r = FromRest v
  Rest phase.KindRead v r = WhereRest v
  Rest phase.Condition v r = ConditionRest v []
  Rest phase.Compare v r = ConditionRest v (name r.property ∷ [])
  Rest phase.Operand v r = OperandRest v r.property r.op
  Rest phase.ListOpen v r = Led mark.Open (ListedRest v r.property r.op r.values)
  Rest phase.Listed v r = ListedRest v r.property r.op r.values
  Rest phase.ListedRead v r = ListedReadRest v r.property r.op r.values
  Rest phase.AncestorIs v r = Led mark.Is (AncestorRest v)
  Rest phase.AncestorKey v r = AncestorRest v
  Rest phase.KeyOpen v r = Led mark.Open (KindRest v r)
  Rest phase.KeyKind v r = KindRest v r
  Rest phase.KeyComma v r = Led mark.Comma (IdentRest v r)
  Rest phase.KeyIdent v r = IdentRest v r
  Rest phase.ElemRead v r = ElemRest v r
  Rest phase.ConditionRead v r = FurtherRest v
  Rest phase.OrderBy v r = Led mark.By (OrderRest v)
  Rest phase.Order v r = OrderRest v
  Rest phase.OrderRead v r = DirectionRest v r.property
  Rest phase.DirectionRead v r = FurtherOrders v
  Rest phase.Limit v r = LimitRest v
  Rest phase.LimitRead v r = LimitReadRest v
  Rest phase.PairedLimit v r = PairedRest v
  Rest phase.Offset v r = OffsetRest v
  Rest phase.Whole v r = EndRest v
  Rest phase.Ended v r = λ ps. shows v ≡ st
