-- Each filter of a statement has the values of its operator: one, and at least one behind IN.
use Rattle.std.proofs.Common.{◌≡◌, ℕ, ◌≤◌, Bool, true, false, List, [], ◌∷◌, ◌++◌, length, Option, Some, None, Result, Ok, Err, IsTrue}
use Rattle.std.proofs.Common.{refl, sym, ◌∙◌, subst, arith, if◌then◌else◌}
use Rattle.std.specs.Prelude.{◌&&◌, nat_le, option_and_then}
use Rattle.std.specs.List.{list_all}
use Rattle.std.proofs.Common.{length-append}
use Rattle.std.proofs.lemmas.List.Folds.{list_all-append}
use Rattle.ds_base.specs.Keys.{KeyParts, is_name, is_path}
use Rattle.ds_base.specs.declared.key.Ident.{Ident}
use Rattle.ds_base.specs.declared.value.Value.{Value}
use Rattle.ds_base.specs.declared.value.Value.TheVariants as value
use Rattle.ds_query.specs.declared.query.Op.{Op}
use Rattle.ds_query.specs.declared.query.Op.TheVariants as op
use Rattle.ds_query.specs.declared.query.Select.TheVariants as select
use Rattle.ds_query.specs.declared.query.Filter.{Filter}
use Rattle.ds_query.specs.Filters.{enough_values, has_operands}
use Rattle.ds_gql.specs.declared.statement.Bindings.{Bindings}
use Rattle.ds_gql.specs.declared.statement.Statement.{Statement}
use Rattle.ds_gql.specs.declared.draft.Phase.{Phase}
use Rattle.ds_gql.specs.declared.draft.Phase.TheVariants as phase
use Rattle.ds_gql.specs.declared.draft.KeyFor.{KeyFor}
use Rattle.ds_gql.specs.declared.draft.KeyFor.TheVariants as for
use Rattle.ds_gql.specs.declared.draft.Draft.{Draft}
use Rattle.ds_tokens.specs.declared.token.Mark.{Mark}
use Rattle.ds_tokens.specs.declared.token.Mark.TheVariants as mark
use Rattle.ds_tokens.specs.Pieces.{Piece, fixed, is, name_in}
use Rattle.ds_tokens.specs.Tokens.{Token, tokens_of}
use Rattle.ds_gql.specs.Statements.{stepped, read_on, statement_of}
use Rattle.ds_gql.specs.Steps
use Rattle.ds_gql.specs.GqlLaws.{StatementsHaveValues}

-- ---- what a draft keeps

-- one value is asked for
abbrev IsSingle : Op → Type 0
IsSingle o = IsTrue (enough_values o 1)

-- the operator of the condition that a key literal is read for
abbrev KeyAsks : KeyFor → Draft → Type 0
KeyAsks for.Operand d = IsSingle d.op
KeyAsks for.Listed d = d.op ≡ op.OneOf
KeyAsks for.Ancestor d = Unit {0}

-- the operator of the condition that is being read, and the values so far
abbrev Asks : Phase → Draft → Type 0
Asks phase.Operand d = IsSingle d.op
Asks phase.ListOpen d = d.op ≡ op.OneOf
Asks phase.Listed d = d.op ≡ op.OneOf
Asks phase.ListedRead d = (d.op ≡ op.OneOf) × (1 ≤ length d.values)
Asks phase.KeyOpen d = KeyAsks d.key_for d
Asks phase.KeyKind d = KeyAsks d.key_for d
Asks phase.KeyComma d = KeyAsks d.key_for d
Asks phase.KeyIdent d = KeyAsks d.key_for d
Asks phase.ElemRead d = KeyAsks d.key_for d
Asks _ d = Unit {0}

abbrev AreFit : List Filter → Type 0
AreFit filters = IsTrue (list_all has_operands filters)

abbrev Fits : Draft → Type 0
Fits d = AreFit d.filters × Asks d.phase d

abbrev Next : Option Draft → Type 0
Next None = Unit {0}
Next (Some d) = Fits d

-- ---- choices

either : (b : Bool) (x y : Option Draft) → Next x → Next y → Next (if b then x else y)
either true x y h k = h
either false x y h k = k

on_if-kept : (b : Bool) (f : Phase) (d : Draft) → Fits (record d { phase = f }) → Next (Steps.on_if b f d)
on_if-kept true f d h = h
on_if-kept false f d h = tt

-- ---- filters

one_more : (filters : List Filter) (f : Filter) → AreFit filters → IsTrue (has_operands f) → AreFit (filters ++ f ∷ [])
one_more filters f h k = list_all-append has_operands filters (f ∷ []) ∙ joined (list_all has_operands filters) (has_operands f) h k where
  joined : (a b : Bool) → a ≡ true → b ≡ true → (a && (b && true)) ≡ true
  joined true true h k = refl
  joined true false h k = k
  joined false b h k = h

listed_enough : (o : Op) (n : ℕ) → o ≡ op.OneOf → 1 ≤ n → IsTrue (enough_values o n)
listed_enough o n e h = subst (λ x. IsTrue (enough_values x n)) (sym e) (is_le n h) where
  is_le : (n : ℕ) → 1 ≤ n → nat_le 1 n ≡ true
  is_le n h = grind arith

more_values : (values : List Value) (v : Value) → 1 ≤ length (values ++ v ∷ [])
more_values values v = rw length-append (omega arith)

-- ---- the parts that may follow

at_end-kept : (d : Draft) (p : Piece) → AreFit d.filters → Next (Steps.at_end d p)
at_end-kept d p h = on_if-kept (is mark.End p) phase.Ended d (h, tt)

at_limits-kept : (d : Draft) (p : Piece) → AreFit d.filters → Next (Steps.at_limits d p)
at_limits-kept d p h =
    either (is mark.Limit p) (Steps.on phase.Limit d) _ (h, tt)
    (either (is mark.Offset p) (Steps.on phase.Offset d) (Steps.at_end d p) (h, tt) (at_end-kept d p h))

at_orders-kept : (d : Draft) (p : Piece) → AreFit d.filters → Next (Steps.at_orders d p)
at_orders-kept d p h =
    either (is mark.Order p) (Steps.on phase.OrderBy d) (Steps.at_limits d p) (h, tt) (at_limits-kept d p h)

at_conditions-kept : (d : Draft) (p : Piece) → AreFit d.filters → Next (Steps.at_conditions d p)
at_conditions-kept d p h =
    either (is mark.Where p) (Steps.on phase.Condition d) (Steps.at_orders d p) (h, tt) (at_orders-kept d p h)

at_kind-kept : (d : Draft) (p : Piece) → AreFit d.filters → Next (Steps.at_kind d p)
at_kind-kept d p h =
    either (is mark.From p) (Steps.on phase.From d) (Steps.at_conditions d p) (h, tt) (at_conditions-kept d p h)

-- ---- what is selected

select_named-kept : (d : Draft) (o : Option (List ℕ)) → AreFit d.filters → Next (Steps.select_named d o)
select_named-kept d None h = tt
select_named-kept d (Some text) h = either _ (Some (record d { phase = phase.Selected; select = select.Keys })) (Steps.projected d text) (h, tt) (h, tt)

at_what-kept : (d : Draft) (p : Piece) → AreFit d.filters → Next (Steps.at_what d p)
at_what-kept d p h =
    either (is mark.Star p) (Steps.on phase.Selected d) (Steps.select_named d (name_in p)) (h, tt) (select_named-kept d (name_in p) h)

next_named-kept : (d : Draft) (o : Option (List ℕ)) → AreFit d.filters → Next (Steps.next_named d o)
next_named-kept d None h = tt
next_named-kept d (Some text) h = either _ None (Steps.projected d text) tt (h, tt)

at_name_read-kept : (d : Draft) (p : Piece) → AreFit d.filters → Next (Steps.at_name_read d p)
at_name_read-kept d p h = either (is mark.Comma p) (Steps.on phase.NextName d) (Steps.at_kind d p) (h, tt) (at_kind-kept d p h)

kind_named-kept : (d : Draft) (o : Option (List ℕ)) → AreFit d.filters → Next (Steps.kind_named d o)
kind_named-kept d None h = tt
kind_named-kept d (Some text) h = either (is_name text) (Some (record d { phase = phase.KindRead; kind = Some text })) None (h, tt) tt

-- ---- conditions

property_named-kept : (d : Draft) (o : Option (List ℕ)) → AreFit d.filters → Next (Steps.property_named d o)
property_named-kept d None h = tt
property_named-kept d (Some text) h = (h, tt)

at_condition-kept : (d : Draft) (p : Piece) → AreFit d.filters → Next (Steps.at_condition d p)
at_condition-kept d p h =
    either (is mark.Ancestor p) (Steps.on_if (Steps.no_ancestor d.ancestor) phase.AncestorIs d) (Steps.property_named d (name_in p))
    (on_if-kept (Steps.no_ancestor d.ancestor) phase.AncestorIs d (h, tt)) (property_named-kept d (name_in p) h)

abbrev AreSingle : Option Op → Type 0
AreSingle None = Unit {0}
AreSingle (Some o) = IsSingle o

mark-single : (m : Mark) → AreSingle (Steps.compare_of m)
mark-single mark.Equal = refl
mark-single mark.Less = refl
mark-single mark.LessEqual = refl
mark-single mark.Greater = refl
mark-single mark.GreaterEqual = refl
mark-single mark.NotEqual = refl
mark-single _ = tt

compares_single : (p : Piece) → AreSingle (Steps.compare_in p)
compares_single (fixed m) = mark-single m
compares_single _ = tt

compare_by-kept : (d : Draft) (o : Option Op) → AreSingle o → AreFit d.filters → Next (Steps.compare_by d o)
compare_by-kept d None single h = tt
compare_by-kept d (Some o) single h = (h, single)

at_compare-kept : (d : Draft) (p : Piece) → AreFit d.filters → Next (Steps.at_compare d p)
at_compare-kept d p h =
    either (is mark.In p) (Some (record d { phase = phase.ListOpen; op = op.OneOf; values = [] })) (Steps.compare_by d (Steps.compare_in p))
    (h, refl) (compare_by-kept d (Steps.compare_in p) (compares_single p) h)

with_filter-kept : (d : Draft) (values : List Value) → AreFit d.filters → IsTrue (enough_values d.op (length values))
    → Fits (Steps.with_filter d values)
with_filter-kept d values h enough = (one_more d.filters _ h enough, tt)

operand_by-kept : (d : Draft) (o : Option Value) → AreFit d.filters → IsSingle d.op → Next (Steps.operand_by d o)
operand_by-kept d None h single = tt
operand_by-kept d (Some v) h single = with_filter-kept d (v ∷ []) h single

at_operand-kept : (given : Bindings) (d : Draft) (p : Piece) → AreFit d.filters → IsSingle d.op → Next (Steps.at_operand given d p)
at_operand-kept given d p h single =
    either (is mark.Key p) (Steps.key_begins for.Operand d) (Steps.operand_by d (Steps.value_of given p)) (h, single)
    (operand_by-kept d (Steps.value_of given p) h single)

with_listed-kept : (d : Draft) (v : Value) → AreFit d.filters → d.op ≡ op.OneOf → Fits (Steps.with_listed d v)
with_listed-kept d v h one_of = (h, (one_of, more_values d.values v))

listed_by-kept : (d : Draft) (o : Option Value) → AreFit d.filters → d.op ≡ op.OneOf → Next (Steps.listed_by d o)
listed_by-kept d None h one_of = tt
listed_by-kept d (Some v) h one_of = with_listed-kept d v h one_of

at_listed-kept : (given : Bindings) (d : Draft) (p : Piece) → AreFit d.filters → d.op ≡ op.OneOf → Next (Steps.at_listed given d p)
at_listed-kept given d p h one_of =
    either (is mark.Key p) (Steps.key_begins for.Listed d) (Steps.listed_by d (Steps.value_of given p)) (h, one_of)
    (listed_by-kept d (Steps.value_of given p) h one_of)

at_listed_read-kept : (d : Draft) (p : Piece) → AreFit d.filters → d.op ≡ op.OneOf → 1 ≤ length d.values → Next (Steps.at_listed_read d p)
at_listed_read-kept d p h one_of some =
    either (is mark.Comma p) (Steps.on phase.Listed d) (if is mark.Close p then Some (Steps.with_filter d d.values) else None) (h, one_of)
    (either (is mark.Close p) (Some (Steps.with_filter d d.values)) None
    (with_filter-kept d d.values h (listed_enough d.op (length d.values) one_of some)) tt)

ancestor_by-kept : (d : Draft) (o : Option KeyParts) → AreFit d.filters → Next (Steps.ancestor_by d o)
ancestor_by-kept d None h = tt
ancestor_by-kept d (Some k) h = (h, tt)

at_ancestor_key-kept : (given : Bindings) (d : Draft) (p : Piece) → AreFit d.filters → Next (Steps.at_ancestor_key given d p)
at_ancestor_key-kept given d p h =
    either (is mark.Key p) (Steps.key_begins for.Ancestor d) (Steps.ancestor_by d (option_and_then Steps.key_in (Steps.value_of given p)))
    (h, tt) (ancestor_by-kept d (option_and_then Steps.key_in (Steps.value_of given p)) h)

at_condition_read-kept : (d : Draft) (p : Piece) → AreFit d.filters → Next (Steps.at_condition_read d p)
at_condition_read-kept d p h =
    either (is mark.And p) (Steps.on phase.Condition d) (Steps.at_orders d p) (h, tt) (at_orders-kept d p h)

-- ---- key literals

elem_kind_by-kept : (d : Draft) (o : Option (List ℕ)) → AreFit d.filters → KeyAsks d.key_for d → Next (Steps.elem_kind_by d o)
elem_kind_by-kept d None h asks = tt
elem_kind_by-kept d (Some text) h asks = (h, asks_on d.key_for asks) where
  asks_on : (f : KeyFor) → KeyAsks f d → KeyAsks f (record d { phase = phase.KeyComma; elem_kind = text })
  asks_on for.Operand a = a
  asks_on for.Listed a = a
  asks_on for.Ancestor a = a

ident_by-kept : (d : Draft) (o : Option Ident) → AreFit d.filters → KeyAsks d.key_for d → Next (Steps.ident_by d o)
ident_by-kept d None h asks = tt
ident_by-kept d (Some found) h asks = (h, asks_on d.key_for asks) where
  asks_on : (f : KeyFor) → KeyAsks f d
      → KeyAsks f (record d { phase = phase.ElemRead; path = d.path ++ record { kind = d.elem_kind; ident = found } ∷ []; elem_kind = [] })
  asks_on for.Operand a = a
  asks_on for.Listed a = a
  asks_on for.Ancestor a = a

on_key : (f : Phase) (d : Draft) (k : KeyFor) → KeyAsks k d → KeyAsks k (record d { phase = f })
on_key f d for.Operand a = a
on_key f d for.Listed a = a
on_key f d for.Ancestor a = a

key_read_for-kept : (f : KeyFor) (d : Draft) (k : KeyParts) → AreFit d.filters → KeyAsks f d
    → Fits (Steps.key_read_for f (record d { path = [] }) k)
key_read_for-kept for.Operand d k h asks = with_filter-kept (record d { path = [] }) (value.Key k ∷ []) h asks
key_read_for-kept for.Listed d k h asks = with_listed-kept (record d { path = [] }) (value.Key k) h asks
key_read_for-kept for.Ancestor d k h asks = (h, tt)

key_read-kept : (d : Draft) → AreFit d.filters → KeyAsks d.key_for d → Next (Steps.key_read d)
key_read-kept d h asks =
    either (is_path d.path) (Some (Steps.key_read_for d.key_for (record d { path = [] }) (record { namespace = []; elems = d.path }))) None
    (key_read_for-kept d.key_for d (record { namespace = []; elems = d.path }) h asks) tt

at_elem_read-kept : (d : Draft) (p : Piece) → AreFit d.filters → KeyAsks d.key_for d → Next (Steps.at_elem_read d p)
at_elem_read-kept d p h asks =
    either (is mark.Comma p) (Steps.on_if _ phase.KeyKind d) (if is mark.Close p then Steps.key_read d else None)
    (on_if-kept _ phase.KeyKind d (h, on_key phase.KeyKind d d.key_for asks))
    (either (is mark.Close p) (Steps.key_read d) None (key_read-kept d h asks) tt)

-- ---- orders and limits

order_named-kept : (d : Draft) (o : Option (List ℕ)) → AreFit d.filters → Next (Steps.order_named d o)
order_named-kept d None h = tt
order_named-kept d (Some text) h = (h, tt)

at_direction_read-kept : (d : Draft) (p : Piece) → AreFit d.filters → Next (Steps.at_direction_read d p)
at_direction_read-kept d p h = either (is mark.Comma p) (Steps.on phase.Order d) (Steps.at_limits d p) (h, tt) (at_limits-kept d p h)

at_order_read-kept : (d : Draft) (p : Piece) → AreFit d.filters → Next (Steps.at_order_read d p)
at_order_read-kept d p h =
    either (is mark.Asc p) (Some (Steps.with_order d false)) _ (h, tt)
    (either (is mark.Desc p) (Some (Steps.with_order d true)) (Steps.at_direction_read (Steps.with_order d false) p) (h, tt)
    (at_direction_read-kept (Steps.with_order d false) p h))

limit_by-kept : (d : Draft) (o : Option ℕ) → AreFit d.filters → Next (Steps.limit_by d o)
limit_by-kept d None h = tt
limit_by-kept d (Some n) h = (h, tt)

at_limit_read-kept : (d : Draft) (p : Piece) → AreFit d.filters → Next (Steps.at_limit_read d p)
at_limit_read-kept d p h =
    either (is mark.Comma p) (Steps.on phase.PairedLimit d) _ (h, tt)
    (either (is mark.Offset p) (Steps.on phase.Offset d) (Steps.at_end d p) (h, tt) (at_end-kept d p h))

paired_by-kept : (d : Draft) (o : Option ℕ) → AreFit d.filters → Next (Steps.paired_by d o)
paired_by-kept d None h = tt
paired_by-kept d (Some n) h = (h, tt)

offset_by-kept : (d : Draft) (o : Option ℕ) → AreFit d.filters → Next (Steps.offset_by d o)
offset_by-kept d None h = tt
offset_by-kept d (Some n) h = (h, tt)

-- ---- one step

step_on : (given : Bindings) (f : Phase) (d : Draft) (p : Piece) → AreFit d.filters → Asks f d
    → Next (Steps.step given (record d { phase = f }) p)
unfolding Steps.step
step_on given phase.Start d p h asks = on_if-kept (is mark.Select p) phase.What (record d { phase = phase.Start }) (h, tt)
step_on given phase.What d p h asks = at_what-kept (record d { phase = phase.What }) p h
step_on given phase.Selected d p h asks = at_kind-kept (record d { phase = phase.Selected }) p h
step_on given phase.NameRead d p h asks = at_name_read-kept (record d { phase = phase.NameRead }) p h
step_on given phase.NextName d p h asks = next_named-kept (record d { phase = phase.NextName }) (name_in p) h
step_on given phase.From d p h asks = kind_named-kept (record d { phase = phase.From }) (name_in p) h
step_on given phase.KindRead d p h asks = at_conditions-kept (record d { phase = phase.KindRead }) p h
step_on given phase.Condition d p h asks = at_condition-kept (record d { phase = phase.Condition }) p h
step_on given phase.Compare d p h asks = at_compare-kept (record d { phase = phase.Compare }) p h
step_on given phase.Operand d p h asks = at_operand-kept given (record d { phase = phase.Operand }) p h asks
step_on given phase.ListOpen d p h asks = on_if-kept (is mark.Open p) phase.Listed (record d { phase = phase.ListOpen }) (h, asks)
step_on given phase.Listed d p h asks = at_listed-kept given (record d { phase = phase.Listed }) p h asks
step_on given phase.ListedRead d p h asks = at_listed_read-kept (record d { phase = phase.ListedRead }) p h asks.0 asks.1
step_on given phase.AncestorIs d p h asks = on_if-kept (is mark.Is p) phase.AncestorKey (record d { phase = phase.AncestorIs }) (h, tt)
step_on given phase.AncestorKey d p h asks = at_ancestor_key-kept given (record d { phase = phase.AncestorKey }) p h
step_on given phase.KeyOpen d p h asks = on_if-kept (is mark.Open p) phase.KeyKind (record d { phase = phase.KeyOpen }) (h, on_key phase.KeyKind d d.key_for asks)
step_on given phase.KeyKind d p h asks =
    elem_kind_by-kept (record d { phase = phase.KeyKind }) (Steps.key_text p) h (on_key phase.KeyKind d d.key_for asks)
step_on given phase.KeyComma d p h asks = on_if-kept (is mark.Comma p) phase.KeyIdent (record d { phase = phase.KeyComma }) (h, on_key phase.KeyIdent d d.key_for asks)
step_on given phase.KeyIdent d p h asks =
    ident_by-kept (record d { phase = phase.KeyIdent }) (Steps.ident_in p) h (on_key phase.KeyIdent d d.key_for asks)
step_on given phase.ElemRead d p h asks =
    at_elem_read-kept (record d { phase = phase.ElemRead }) p h (on_key phase.ElemRead d d.key_for asks)
step_on given phase.ConditionRead d p h asks = at_condition_read-kept (record d { phase = phase.ConditionRead }) p h
step_on given phase.OrderBy d p h asks = on_if-kept (is mark.By p) phase.Order (record d { phase = phase.OrderBy }) (h, tt)
step_on given phase.Order d p h asks = order_named-kept (record d { phase = phase.Order }) (name_in p) h
step_on given phase.OrderRead d p h asks = at_order_read-kept (record d { phase = phase.OrderRead }) p h
step_on given phase.DirectionRead d p h asks = at_direction_read-kept (record d { phase = phase.DirectionRead }) p h
step_on given phase.Limit d p h asks = limit_by-kept (record d { phase = phase.Limit }) (Steps.count_in p) h
step_on given phase.LimitRead d p h asks = at_limit_read-kept (record d { phase = phase.LimitRead }) p h
step_on given phase.PairedLimit d p h asks = paired_by-kept (record d { phase = phase.PairedLimit }) (Steps.count_in p) h
step_on given phase.Offset d p h asks = offset_by-kept (record d { phase = phase.Offset }) (Steps.count_in p) h
step_on given phase.Whole d p h asks = at_end-kept (record d { phase = phase.Whole }) p h
step_on given phase.Ended d p h asks = tt

step-kept : (given : Bindings) (d : Draft) (p : Piece) → Fits d → Next (Steps.step given d p)
step-kept given d p h = step_on given d.phase d p h.0 h.1

-- ---- the whole text

abbrev Read : Result Statement ℕ → Type 0
Read (Ok st) = AreFit st.query.filters
Read (Err place) = Unit {0}

stepped-kept : (o : Option Draft) (t : Token) (others : Draft → Result Statement ℕ) → Next o → ((d : Draft) → Fits d → Read (others d))
    → Read (stepped o t others)
stepped-kept None t others h more = tt
stepped-kept (Some d) t others h more = ended (is mark.End t.piece) where
  ended : (b : Bool) → Read (if b then Ok (Steps.complete d) else others d)
  ended true = h.0
  ended false = more d h

read_on-kept : (given : Bindings) (tokens : List Token) (d : Draft) → Fits d → Read (read_on given d tokens)
unfolding read_on
read_on-kept given [] d h = tt
read_on-kept given (t ∷ tokens) d h =
    stepped-kept (Steps.step given d t.piece) t (λ next. read_on given next tokens) (step-kept given d t.piece h)
    (λ next k. read_on-kept given tokens next k)

-- each filter of a statement has its values
pub statements_have_values : StatementsHaveValues
unfolding statement_of
statements_have_values given text st is = subst Read is (read_on-kept given (tokens_of text) Steps.empty (refl, tt))
