-- What is read of a text is a sentence: each token that takes a step is one more of what is left of a sentence.
use Rattle.std.proofs.Common.{◌≡◌, ℕ, Bool, true, false, cond, List, [], ◌∷◌, ◌++◌, length, map, Option, Some, None, inl, inr, refl, sym}
use Rattle.std.proofs.Common.{ap, ◌∙◌, subst, append_assoc, append-nil}
use Rattle.std.specs.Prelude.{option_map, option_and_then, pos, nat_lt, ◌||◌, bytes_eq, unwrap_or}
use Rattle.std.specs.List.{list_any}
use Rattle.std.proofs.lemmas.Slice.Eq.{bytes_eq-Decides}
use Rattle.ds_base.specs.Limits.{most_elements}
use Rattle.ds_base.specs.Keys.{KeyParts, is_name, is_path}
use Rattle.ds_base.specs.declared.key.Elem.{Elem}
use Rattle.ds_base.specs.declared.value.Value.{Value}
use Rattle.ds_base.specs.declared.value.Value.TheVariants as value
use Rattle.ds_base.specs.declared.column.Column.{Column}
use Rattle.ds_query.specs.declared.query.Op.{Op}
use Rattle.ds_query.specs.declared.query.Op.TheVariants as op
use Rattle.ds_query.specs.declared.query.Select.TheVariants as select
use Rattle.ds_gql.specs.declared.statement.Bindings.{Bindings}
use Rattle.ds_gql.specs.declared.statement.Statement.{Statement}
use Rattle.ds_gql.specs.declared.draft.Phase.{Phase}
use Rattle.ds_gql.specs.declared.draft.Phase.TheVariants as phase
use Rattle.ds_gql.specs.declared.draft.KeyFor.{KeyFor}
use Rattle.ds_gql.specs.declared.draft.KeyFor.TheVariants as for
use Rattle.ds_gql.specs.declared.draft.Draft.{Draft}
use Rattle.ds_tokens.specs.declared.token.Mark.{Mark}
use Rattle.ds_tokens.specs.declared.token.Mark.TheVariants as mark
use Rattle.ds_tokens.specs.Pieces.{Piece, fixed, name, integer, string, is, name_in}
use Rattle.ds_gql.specs.Steps.{step, on_if, at_end, at_limits, at_orders, at_conditions, at_kind, at_direction_read, at_condition_read}
use Rattle.ds_gql.specs.Steps.{select_named, next_named, kind_named, property_named, order_named, projected, no_ancestor, compare_by}
use Rattle.ds_gql.specs.Steps.{compare_in, operand_by, listed_by, ancestor_by, value_of, key_in, elem_kind_by, key_text, ident_by, ident_in}
use Rattle.ds_gql.specs.Steps.{key_read, key_read_for, with_order, limit_by, offset_by, paired_by, count_in}
use Rattle.ds_base.specs.KeyColumn.{key_name}
use Rattle.ds_gql.specs.Sentences.{Operand, one, key, Condition, compare, among, under, Conditions, Order, none, limit, limit_offset, pair}
use Rattle.ds_gql.specs.Sentences.{offset, comma, others, elem_pieces, ident_piece, key_pieces, operand_pieces, condition_pieces}
use Rattle.ds_gql.specs.Sentences.{direction_pieces, order_pieces, operand_value, operand_values, with_condition, with_conditions}
use Rattle.ds_gql.specs.Sentences.{column_of}
use Rattle.ds_gql.proofs.SentenceSteps.{Shown, Open, draft, only_if}
use Rattle.ds_gql.proofs.GoingOn.{shown_of, open_of}
use Rattle.ds_gql.proofs.PieceLemmas.{is_mark, is_name_piece, compares, counts, kind_text, ident_text}
use Rattle.ds_gql.proofs.Choices.{chosen}
use Rattle.ds_gql.proofs.Rests.{with_filter_of, default_key, elem_of, order_by, Led, EndRest, LimitsRest, OffsetRest, PairedRest}
use Rattle.ds_gql.proofs.Rests.{LimitReadRest, LimitRest, OrdersRest, FurtherOrders, OrderRest, DirectionRest, WhereRest, FurtherRest}
use Rattle.ds_gql.proofs.Rests.{ConditionRest, ListedRest, ListedReadRest, AncestorRest, AfterKey, ElemRest, KindRest, IdentRest}
use Rattle.ds_gql.proofs.Rests.{SelectedRest, NameRest, WhatRest, Rest}

-- ---- parts put together

-- a list behind its first item
list_spelled : {A : Type 0} (sep : Piece) (f : A → List Piece) (x : A) (xs : List A) (tail : List Piece) → f x ++ (others sep f xs ++ tail) ≡ (f x ++ others sep f xs) ++ tail
list_spelled sep f x xs tail = sym (append_assoc (f x) (others sep f xs) tail)

key_spelled : (e : Elem) (es : List Elem) (tail : List Piece) → fixed mark.Key ∷ fixed mark.Open ∷ elem_pieces e ++ (others comma elem_pieces es ++ fixed mark.Close ∷ tail) ≡ key_pieces (e ∷ es) ++ tail
key_spelled e es tail =
    let ends : fixed mark.Close ∷ tail ≡ (fixed mark.Close ∷ []) ++ tail = refl in
    ap (λ ps. fixed mark.Key ∷ fixed mark.Open ∷ ps)
    (sym (append_assoc (elem_pieces e) (others comma elem_pieces es) (fixed mark.Close ∷ tail))
    ∙ sym (append_assoc (elem_pieces e ++ others comma elem_pieces es) (fixed mark.Close ∷ []) tail))

module _ (given : Bindings) (st : Statement) (next : Draft) (ps : List Piece) where
  abbrev After : Draft → Type 0
  After d = Rest given st d.phase (shown_of d) (open_of d) ps

  module _ (after : After next) where
    moved : (d : Draft) → Some d ≡ Some next → After d
    moved d e = let same : d ≡ next = cc in subst After (sym same) after

    if_on : {G : Type 0} (b : Bool) (x : Phase) (d : Draft) → on_if b x d ≡ Some next → (b ≡ true → After (record d { phase = x }) → G) → G
    if_on true x d e k = k refl (moved (record d { phase = x }) e)
    if_on false x d e k = absurd (cc)

    either : {G : Type 0} (b : Bool) (d : Draft) (other : Option Draft) → cond b (Some d) other ≡ Some next → (b ≡ true → After d → G) → (other ≡ Some next → G) → G
    either true d other e here there = here refl (moved d e)
    either false d other e here there = there e

    given_some : {A G : Type 0} (o : Option A) (f : Option A → Option Draft) → f o ≡ Some next → f None ≡ None → ((x : A) → o ≡ Some x → f (Some x) ≡ Some next → G) → G
    given_some None f e nothing some = absurd (let n : None ≡ Some next = sym nothing ∙ e in cc)
    given_some (Some x) f e nothing some = some x refl e

    module _ (p : Piece) where
      first_is : {q : Piece} → p ≡ q → p ∷ ps ≡ q ∷ ps
      first_is e = ap (λ r. r ∷ ps) e

      led : (m : Mark) (F : List Piece → Type 0) → is m p ≡ true → F ps → Led m F (p ∷ ps)
      led m F t rest = record { tail = ps; spelled = first_is (is_mark m p t); rest = rest }

      -- ---- limits and the end

      end_back : (d : Draft) → at_end d p ≡ Some next → EndRest given st (shown_of d) (p ∷ ps)
      end_back d e = if_on (is mark.End p) phase.Ended d e (λ t same. record { behind = ps; spelled = first_is (is_mark mark.End p t); same = same })

      limit_first : (v : Shown) → p ≡ fixed mark.Limit → LimitRest given st v ps → LimitsRest given st v (p ∷ ps)
      limit_first v is_limit c = by c.rest where
        n : ℕ
        n = c.count

        begins : {tail : List Piece} → c.tail ≡ tail → p ∷ ps ≡ fixed mark.Limit ∷ integer (pos n) ∷ tail
        begins e = first_is is_limit ∙ ap (λ t. fixed mark.Limit ∷ t) (c.spelled ∙ ap (λ t. integer (pos n) ∷ t) e)

        by : LimitReadRest given st (record v { limit = Some n }) c.tail → LimitsRest given st v (p ∷ ps)
        by (inl end) = record { limits = limit n; behind = end.behind; spelled = begins end.spelled; counts = c.few; same = end.same }
        by (inr (inl behind)) =
            let m = behind.rest in
            record {
              limits = limit_offset n m.count;
              behind = m.rest.behind;
              spelled = begins (behind.spelled ∙ ap (λ t. fixed mark.Offset ∷ t) (m.spelled ∙ ap (λ t. integer (pos m.count) ∷ t) m.rest.spelled));
              counts = (c.few, m.few);
              same = m.rest.same;
            }
        by (inr (inr behind)) =
            let m = behind.rest in
            record {
              limits = pair n m.count;
              behind = m.rest.behind;
              spelled = begins (behind.spelled ∙ ap (λ t. comma ∷ t) (m.spelled ∙ ap (λ t. integer (pos m.count) ∷ t) m.rest.spelled));
              counts = (c.few, m.few);
              same = m.rest.same;
            }

      limits_back : (d : Draft) → at_limits d p ≡ Some next → LimitsRest given st (shown_of d) (p ∷ ps)
      limits_back d e =
          either (is mark.Limit p) (record d { phase = phase.Limit }) _ e (λ t c. limit_first (shown_of d) (is_mark mark.Limit p t) c)
          (λ e. either (is mark.Offset p) (record d { phase = phase.Offset }) _ e
          (λ t m. record {
            limits = offset m.count;
            behind = m.rest.behind;
            spelled = first_is (is_mark mark.Offset p t) ∙ ap (λ q. fixed mark.Offset ∷ q) (m.spelled ∙ ap (λ q. integer (pos m.count) ∷ q) m.rest.spelled);
            counts = m.few;
            same = m.rest.same;
          })
          (λ e. let end = end_back d e in record { limits = none; behind = end.behind; spelled = end.spelled; counts = tt; same = end.same }))

      -- ---- orders

      no_orders : (v : Shown) (qs : List Piece) → LimitsRest given st v qs → LimitsRest given st (record v { orders = v.orders ++ [] }) qs
      no_orders v qs rest = subst (λ (os : List Column). LimitsRest given st (record v { orders = os }) qs) (sym (append-nil v.orders)) rest

      orders_back : (d : Draft) → at_orders d p ≡ Some next → OrdersRest given st (shown_of d) (p ∷ ps)
      orders_back d e =
          either (is mark.Order p) (record d { phase = phase.OrderBy }) _ e
          (λ t by. let o = by.rest in record {
            orders = o.order ∷ o.orders;
            tail = o.tail;
            spelled = first_is (is_mark mark.Order p t) ∙ ap (λ q. fixed mark.Order ∷ q) (by.spelled ∙ ap (λ q. fixed mark.By ∷ q) (o.spelled ∙ list_spelled comma order_pieces o.order o.orders o.tail));
            rest = o.rest;
          })
          (λ e. record { orders = []; tail = p ∷ ps; spelled = refl; rest = no_orders (shown_of d) (p ∷ ps) (limits_back d e) })

      direction_back : (d : Draft) → at_direction_read d p ≡ Some next → FurtherOrders given st (shown_of d) (p ∷ ps)
      direction_back d e =
          either (is mark.Comma p) (record d { phase = phase.Order }) _ e
          (λ t o. record {
            orders = o.order ∷ o.orders;
            tail = o.tail;
            spelled = first_is (is_mark mark.Comma p t) ∙ ap (λ q. comma ∷ q) (o.spelled ∙ list_spelled comma order_pieces o.order o.orders o.tail);
            rest = o.rest;
          })
          (λ e. record { orders = []; tail = p ∷ ps; spelled = refl; rest = no_orders (shown_of d) (p ∷ ps) (limits_back d e) })

      -- ---- conditions

      -- a condition, and those behind it
      several_said : (v : Shown) (c : Condition) (cs : List Condition) (first last : Conditions) → with_condition given (v.filters, v.ancestor) c ≡ Some first → with_conditions given first cs ≡ Some last → with_conditions given (v.filters, v.ancestor) (c ∷ cs) ≡ Some last
      several_said v c cs first last here there = ap (option_and_then (λ n. with_conditions given n cs)) here ∙ there

      conditions_spelled : (v : Shown) (c : ConditionRest given st v [] ps) → ps ≡ (condition_pieces c.condition ++ others (fixed mark.And) condition_pieces c.rest.conditions) ++ c.rest.tail
      conditions_spelled v c =
          c.spelled ∙ ap (λ l. l ++ c.tail) (sym c.whole) ∙ ap (λ t. condition_pieces c.condition ++ t) c.rest.spelled
          ∙ list_spelled (fixed mark.And) condition_pieces c.condition c.rest.conditions c.rest.tail

      conditions_back : (d : Draft) → at_conditions d p ≡ Some next → WhereRest given st (shown_of d) (p ∷ ps)
      conditions_back d e =
          let v = shown_of d in
          either (is mark.Where p) (record d { phase = phase.Condition }) _ e
          (λ t c. record {
            conditions = c.condition ∷ c.rest.conditions;
            next = c.rest.next;
            tail = c.rest.tail;
            spelled = first_is (is_mark mark.Where p t) ∙ ap (λ q. fixed mark.Where ∷ q) (conditions_spelled v c);
            said = several_said v c.condition c.rest.conditions c.next c.rest.next c.said c.rest.said;
            rest = c.rest.rest;
          })
          (λ e. record { conditions = []; next = (v.filters, v.ancestor); tail = p ∷ ps; spelled = refl; said = refl; rest = orders_back d e })

      condition_back : (d : Draft) → at_condition_read d p ≡ Some next → FurtherRest given st (shown_of d) (p ∷ ps)
      condition_back d e =
          let v = shown_of d in
          either (is mark.And p) (record d { phase = phase.Condition }) _ e
          (λ t c. record {
            conditions = c.condition ∷ c.rest.conditions;
            next = c.rest.next;
            tail = c.rest.tail;
            spelled = first_is (is_mark mark.And p t) ∙ ap (λ q. fixed mark.And ∷ q) (conditions_spelled v c);
            said = several_said v c.condition c.rest.conditions c.next c.rest.next c.said c.rest.said;
            rest = c.rest.rest;
          })
          (λ e. record { conditions = []; next = (v.filters, v.ancestor); tail = p ∷ ps; spelled = refl; said = refl; rest = orders_back d e })

      kind_back : (d : Draft) → at_kind d p ≡ Some next → SelectedRest given st (shown_of d) (p ∷ ps)
      kind_back d e =
          either (is mark.From p) (record d { phase = phase.From }) _ e
          (λ t f. record {
            kind = Some f.text;
            tail = f.tail;
            spelled = first_is (is_mark mark.From p t) ∙ ap (λ q. fixed mark.From ∷ q) f.spelled;
            lawful = f.lawful;
            rest = f.rest;
          })
          (λ e. record { kind = None; tail = p ∷ ps; spelled = refl; lawful = refl; rest = conditions_back d e })

      -- ---- values and keys

      key_said : (e : Elem) (es : List Elem) → is_path (e ∷ es) ≡ true → operand_value given (key (e ∷ es)) ≡ Some (value.Key (default_key (e ∷ es)))
      key_said e es lawful = chosen _ _ _ lawful

      -- KEY, and what is behind it
      key_read_spelled : (v : Shown) (r : Open) (t : is mark.Key p ≡ true) (l : Led mark.Open (KindRest given st v r) ps) → p ∷ ps ≡ key_pieces (l.rest.elem ∷ l.rest.elems) ++ l.rest.tail
      key_read_spelled v r t l =
          first_is (is_mark mark.Key p t) ∙ ap (λ q. fixed mark.Key ∷ q) (l.spelled ∙ ap (λ q. fixed mark.Open ∷ q) l.rest.spelled)
          ∙ key_spelled l.rest.elem l.rest.elems l.rest.tail

      listed_first : (v : Shown) (property : List ℕ) (sign : Op) (before : List Value) (o : Operand) (x : Value) (tail : List Piece) → p ∷ ps ≡ operand_pieces o ++ tail → operand_value given o ≡ Some x → ListedReadRest given st v property sign (before ++ x ∷ []) tail → ListedRest given st v property sign before (p ∷ ps)
      listed_first v property sign before o x tail spelled said l = record {
        operand = o;
        operands = l.operands;
        values = x ∷ l.values;
        tail = l.tail;
        spelled = spelled ∙ ap (λ q. operand_pieces o ++ q) l.spelled;
        said =
            ap (option_and_then (λ y. option_map (λ ys. y ∷ ys) (operand_values given l.operands))) said
            ∙ ap (option_map (λ ys. x ∷ ys)) l.said;
        rest = subst (λ (xs : List Value). FurtherRest given st (with_filter_of v property sign xs) l.tail) (append_assoc before (x ∷ []) l.values) l.rest;
      }

      closed_back : (purpose : KeyFor) (v : Shown) (r : Open) (k : KeyParts) → Some (key_read_for purpose (draft phase.ElemRead v (record r { path = [] })) k) ≡ Some next → AfterKey given st purpose v r.property r.op r.values k ps
      closed_back for.Operand v r k e = moved (key_read_for for.Operand (draft phase.ElemRead v (record r { path = [] })) k) e
      closed_back for.Listed v r k e = moved (key_read_for for.Listed (draft phase.ElemRead v (record r { path = [] })) k) e
      closed_back for.Ancestor v r k e = moved (key_read_for for.Ancestor (draft phase.ElemRead v (record r { path = [] })) k) e

      -- ---- each phase

      pub back : (x : Phase) (v : Shown) (r : Open) → step given (draft x v r) p ≡ Some next → Rest given st x v r (p ∷ ps)
      unfolding step
      back phase.Start v r e = if_on (is mark.Select p) phase.What (draft phase.Start v r) e (λ t rest. led mark.Select (WhatRest given st v) t rest)
      back phase.What v r e =
          let d = draft phase.What v r in
          either (is mark.Star p) (record d { phase = phase.Selected }) _ e (λ t rest. inl (led mark.Star (SelectedRest given st v) t rest))
          (λ e. given_some (name_in p) (select_named d) e refl (λ text named e. by (bytes_eq text key_name) text refl named e)) where
            keys_named : (text : List ℕ) → bytes_eq text key_name ≡ true → text ≡ key_name
            keys_named text same = (bytes_eq-Decides text key_name).0 same

            by : (b : Bool) (text : List ℕ) → bytes_eq text key_name ≡ b → name_in p ≡ Some text
                → cond b (Some (record (draft phase.What v r) { phase = phase.Selected; select = select.Keys })) (projected (draft phase.What v r) text) ≡ Some next → WhatRest given st v (p ∷ ps)
            by true text same named e =
                inr (inl (record {
                  tail = ps;
                  spelled = first_is (is_name_piece p text named ∙ ap name (keys_named text same));
                  rest = moved (record (draft phase.What v r) { phase = phase.Selected; select = select.Keys }) e;
                }))
            by false text other named e =
                inr (inr (record {
                  text = text;
                  tail = ps;
                  spelled = first_is (is_name_piece p text named);
                  other = other;
                  rest = moved (record (draft phase.What v r) { phase = phase.NameRead; names = v.names ++ text ∷ [] }) e;
                }))
      back phase.Selected v r e = kind_back (draft phase.Selected v r) e
      back phase.NameRead v r e =
          either (is mark.Comma p) (draft phase.NextName v r) _ e
          (λ t n. record {
            names = n.text ∷ n.rest.names;
            tail = n.rest.tail;
            spelled = first_is (is_mark mark.Comma p t) ∙ ap (λ q. comma ∷ q) (n.spelled ∙ ap (λ q. name n.text ∷ q) n.rest.spelled);
            other = ap (λ b. b || list_any (λ m. bytes_eq m key_name) n.rest.names) n.other ∙ n.rest.other;
            rest = subst (λ (ns : List (List ℕ)). SelectedRest given st (record v { names = ns }) n.rest.tail) (append_assoc v.names (n.text ∷ []) n.rest.names) n.rest.rest;
          })
          (λ e. record {
            names = [];
            tail = p ∷ ps;
            spelled = refl;
            other = refl;
            rest = subst (λ (ns : List (List ℕ)). SelectedRest given st (record v { names = ns }) (p ∷ ps)) (sym (append-nil v.names)) (kind_back (draft phase.NameRead v r) e);
          })
      back phase.NextName v r e = given_some (name_in p) (next_named (draft phase.NextName v r)) e refl (λ text named e. by (bytes_eq text key_name) text refl named e) where
        by : (b : Bool) (text : List ℕ) → bytes_eq text key_name ≡ b → name_in p ≡ Some text → cond b None (projected (draft phase.NextName v r) text) ≡ Some next → NameRest given st v (p ∷ ps)
        by true text same named e = absurd (cc)
        by false text other named e = record {
          text = text;
          tail = ps;
          spelled = first_is (is_name_piece p text named);
          other = other;
          rest = moved (record (draft phase.NextName v r) { phase = phase.NameRead; names = v.names ++ text ∷ [] }) e;
        }
      back phase.From v r e =
          given_some (name_in p) (kind_named (draft phase.From v r)) e refl
          (λ text named e. let parts = only_if (is_name text) (Some (record (draft phase.From v r) { phase = phase.KindRead; kind = Some text })) next e in record {
            text = text;
            tail = ps;
            spelled = first_is (is_name_piece p text named);
            lawful = parts.0;
            rest = moved (record (draft phase.From v r) { phase = phase.KindRead; kind = Some text }) parts.1;
          })
      back phase.KindRead v r e = conditions_back (draft phase.KindRead v r) e
      back phase.Condition v r e = by (is mark.Ancestor p) refl e where
        by : (b : Bool) → is mark.Ancestor p ≡ b → cond b (on_if (no_ancestor v.ancestor) phase.AncestorIs (draft phase.Condition v r)) (property_named (draft phase.Condition v r) (name_in p)) ≡ Some next → ConditionRest given st v [] (p ∷ ps)
        by true t e = if_on (no_ancestor v.ancestor) phase.AncestorIs (draft phase.Condition v r) e (λ lone l. let a = l.rest in record {
          condition = under a.operand;
          left = fixed mark.Ancestor ∷ fixed mark.Is ∷ operand_pieces a.operand;
          next = (v.filters, Some a.key);
          tail = a.tail;
          whole = refl;
          spelled = first_is (is_mark mark.Ancestor p t) ∙ ap (λ q. fixed mark.Ancestor ∷ q) (l.spelled ∙ ap (λ q. fixed mark.Is ∷ q) a.spelled);
          said =
              ap (option_and_then (λ (k : KeyParts). cond (no_ancestor v.ancestor) (Some (v.filters, Some k)) None)) a.said
              ∙ chosen _ _ _ lone;
          rest = a.rest;
        })
        by false t e = given_some (name_in p) (property_named (draft phase.Condition v r)) e refl (λ text named e.
            let c = moved (record (draft phase.Condition v r) { phase = phase.Compare; property = text }) e in record {
              condition = c.condition;
              left = name text ∷ c.left;
              next = c.next;
              tail = c.tail;
              whole = c.whole;
              spelled = first_is (is_name_piece p text named) ∙ ap (λ q. name text ∷ q) c.spelled;
              said = c.said;
              rest = c.rest;
            })
      back phase.Compare v r e =
          let d = draft phase.Compare v r in
          either (is mark.In p) (record d { phase = phase.ListOpen; op = op.OneOf; values = [] }) _ e
          (λ t l. let o = l.rest in record {
            condition = among r.property o.operand o.operands;
            left = fixed mark.In ∷ fixed mark.Open ∷ operand_pieces o.operand ++ (others comma operand_pieces o.operands ++ fixed mark.Close ∷ []);
            next = (v.filters ++ record { property = r.property; op = op.OneOf; values = o.values } ∷ [], v.ancestor);
            tail = o.tail;
            whole = refl;
            spelled =
                first_is (is_mark mark.In p t) ∙ ap (λ q. fixed mark.In ∷ q) (l.spelled ∙ ap (λ q. fixed mark.Open ∷ q) (o.spelled
                ∙ ap (λ q. operand_pieces o.operand ++ q) (sym (append_assoc (others comma operand_pieces o.operands) (fixed mark.Close ∷ []) o.tail))
                ∙ sym (append_assoc (operand_pieces o.operand) (others comma operand_pieces o.operands ++ fixed mark.Close ∷ []) o.tail)));
            said = ap (option_map (λ (xs : List Value). (v.filters ++ record { property = r.property; op = op.OneOf; values = xs } ∷ [], v.ancestor))) o.said;
            rest = o.rest;
          })
          (λ e. given_some (compare_in p) (compare_by d) e refl (λ found named e.
          let o = moved (record d { phase = phase.Operand; op = found }) e in
          let sign = compares p found named in record {
            condition = compare r.property sign.0 o.operand;
            left = fixed sign.0 ∷ operand_pieces o.operand;
            next = (v.filters ++ record { property = r.property; op = found; values = o.found ∷ [] } ∷ [], v.ancestor);
            tail = o.tail;
            whole = refl;
            spelled = first_is sign.1 ∙ ap (λ q. fixed sign.0 ∷ q) o.spelled;
            said =
                ap (option_and_then (λ (f : Op). option_map (λ (x : Value). (v.filters ++ record { property = r.property; op = f; values = x ∷ [] } ∷ [], v.ancestor)) (operand_value given o.operand))) sign.2
                ∙ ap (option_map (λ (x : Value). (v.filters ++ record { property = r.property; op = found; values = x ∷ [] } ∷ [], v.ancestor))) o.said;
            rest = o.rest;
          }))
      back phase.Operand v r e =
          let d = draft phase.Operand v r in
          either (is mark.Key p) (record d { phase = phase.KeyOpen; key_for = for.Operand; path = [] }) _ e
          (λ t l. record {
            operand = key (l.rest.elem ∷ l.rest.elems);
            found = value.Key (default_key (l.rest.elem ∷ l.rest.elems));
            tail = l.rest.tail;
            spelled = key_read_spelled v (record r { key_for = for.Operand; path = [] }) t l;
            said = key_said l.rest.elem l.rest.elems l.rest.lawful;
            rest = l.rest.rest;
          })
          (λ e. given_some (value_of given p) (operand_by d) e refl (λ x said e. record {
            operand = one p;
            found = x;
            tail = ps;
            spelled = refl;
            said = said;
            rest = moved (draft phase.ConditionRead (with_filter_of v r.property r.op (x ∷ [])) (record r { property = []; values = [] })) e;
          }))
      back phase.ListOpen v r e = if_on (is mark.Open p) phase.Listed (draft phase.ListOpen v r) e (λ t rest. led mark.Open (ListedRest given st v r.property r.op r.values) t rest)
      back phase.Listed v r e =
          let d = draft phase.Listed v r in
          either (is mark.Key p) (record d { phase = phase.KeyOpen; key_for = for.Listed; path = [] }) _ e
          (λ t l. listed_first v r.property r.op r.values (key (l.rest.elem ∷ l.rest.elems)) (value.Key (default_key (l.rest.elem ∷ l.rest.elems))) l.rest.tail
          (key_read_spelled v (record r { key_for = for.Listed; path = [] }) t l) (key_said l.rest.elem l.rest.elems l.rest.lawful) l.rest.rest)
          (λ e. given_some (value_of given p) (listed_by d) e refl (λ x said e.
          listed_first v r.property r.op r.values (one p) x ps refl said (moved (draft phase.ListedRead v (record r { values = r.values ++ x ∷ [] })) e)))
      back phase.ListedRead v r e =
          either (is mark.Comma p) (draft phase.Listed v r) _ e
          (λ t l. record {
            operands = l.operand ∷ l.operands;
            values = l.values;
            tail = l.tail;
            spelled = first_is (is_mark mark.Comma p t) ∙ ap (λ q. comma ∷ q) (l.spelled ∙ list_spelled comma operand_pieces l.operand l.operands (fixed mark.Close ∷ l.tail));
            said = l.said;
            rest = l.rest;
          })
          (λ e. let parts = only_if (is mark.Close p) _ next e in record {
            operands = [];
            values = [];
            tail = ps;
            spelled = first_is (is_mark mark.Close p parts.0);
            said = refl;
            rest = subst (λ (xs : List Value). FurtherRest given st (with_filter_of v r.property r.op xs) ps) (sym (append-nil r.values)) (moved (draft phase.ConditionRead (with_filter_of v r.property r.op r.values) (record r { property = []; values = [] })) parts.1);
          })
      back phase.AncestorIs v r e = if_on (is mark.Is p) phase.AncestorKey (draft phase.AncestorIs v r) e (λ t rest. led mark.Is (AncestorRest given st v) t rest)
      back phase.AncestorKey v r e =
          let d = draft phase.AncestorKey v r in
          either (is mark.Key p) (record d { phase = phase.KeyOpen; key_for = for.Ancestor; path = [] }) _ e
          (λ t l. record {
            operand = key (l.rest.elem ∷ l.rest.elems);
            key = default_key (l.rest.elem ∷ l.rest.elems);
            tail = l.rest.tail;
            spelled = key_read_spelled v (record r { key_for = for.Ancestor; path = [] }) t l;
            said = ap (option_and_then key_in) (key_said l.rest.elem l.rest.elems l.rest.lawful);
            rest = l.rest.rest;
          })
          (λ e. given_some (option_and_then key_in (value_of given p)) (ancestor_by d) e refl (λ k said e. record {
            operand = one p;
            key = k;
            tail = ps;
            spelled = refl;
            said = said;
            rest = moved (draft phase.ConditionRead (record v { ancestor = Some k }) r) e;
          }))
      back phase.KeyOpen v r e = if_on (is mark.Open p) phase.KeyKind (draft phase.KeyOpen v r) e (λ t rest. led mark.Open (KindRest given st v r) t rest)
      back phase.KeyKind v r e = given_some (key_text p) (elem_kind_by (draft phase.KeyKind v r)) e refl (λ text said e.
          let l = moved (draft phase.KeyComma v (record r { elem_kind = text })) e in
          let i = l.rest in record {
            elem = elem_of text i.ident;
            elems = i.elems;
            tail = i.tail;
            spelled = first_is (kind_text p text said) ∙ ap (λ q. string text ∷ q) (l.spelled ∙ ap (λ q. comma ∷ q) i.spelled);
            lawful = i.lawful;
            rest = i.rest;
          })
      back phase.KeyComma v r e = if_on (is mark.Comma p) phase.KeyIdent (draft phase.KeyComma v r) e (λ t rest. led mark.Comma (IdentRest given st v r) t rest)
      back phase.KeyIdent v r e = given_some (ident_in p) (ident_by (draft phase.KeyIdent v r)) e refl (λ found said e.
          let grown = r.path ++ elem_of r.elem_kind found ∷ [] in
          let l = moved (draft phase.ElemRead v (record r { path = grown; elem_kind = [] })) e in
          let same : grown ++ l.elems ≡ r.path ++ elem_of r.elem_kind found ∷ l.elems = append_assoc r.path (elem_of r.elem_kind found ∷ []) l.elems in record {
            ident = found;
            elems = l.elems;
            tail = l.tail;
            spelled = first_is (ident_text p found said) ∙ ap (λ q. ident_piece found ∷ q) l.spelled;
            lawful = sym (ap is_path same) ∙ l.lawful;
            rest = subst (λ (es : List Elem). AfterKey given st r.key_for v r.property r.op r.values (default_key es) l.tail) same l.rest;
          })
      back phase.ElemRead v r e = by (is mark.Comma p) refl e where
        closed : cond (is mark.Close p) (key_read (draft phase.ElemRead v r)) None ≡ Some next → ElemRest given st v r (p ∷ ps)
        closed e =
            let close = only_if (is mark.Close p) (key_read (draft phase.ElemRead v r)) next e in
            let lawful = only_if (is_path r.path) (Some (key_read_for r.key_for (draft phase.ElemRead v (record r { path = [] })) (default_key r.path))) next close.1 in
            record {
              elems = [];
              tail = ps;
              spelled = first_is (is_mark mark.Close p close.0);
              lawful = ap is_path (append-nil r.path) ∙ lawful.0;
              rest = subst (λ (es : List Elem). AfterKey given st r.key_for v r.property r.op r.values (default_key es) ps) (sym (append-nil r.path)) (closed_back r.key_for v r (default_key r.path) lawful.1);
            }

        by : (b : Bool) → is mark.Comma p ≡ b → cond b (on_if (nat_lt (length r.path) most_elements) phase.KeyKind (draft phase.ElemRead v r)) (cond (is mark.Close p) (key_read (draft phase.ElemRead v r)) None) ≡ Some next → ElemRest given st v r (p ∷ ps)
        by true t e = if_on (nat_lt (length r.path) most_elements) phase.KeyKind (draft phase.ElemRead v r) e (λ few k. record {
          elems = k.elem ∷ k.elems;
          tail = k.tail;
          spelled = first_is (is_mark mark.Comma p t) ∙ ap (λ q. comma ∷ q) (k.spelled ∙ list_spelled comma elem_pieces k.elem k.elems (fixed mark.Close ∷ k.tail));
          lawful = k.lawful;
          rest = k.rest;
        })
        by false t e = closed e
      back phase.ConditionRead v r e = condition_back (draft phase.ConditionRead v r) e
      back phase.OrderBy v r e = if_on (is mark.By p) phase.Order (draft phase.OrderBy v r) e (λ t rest. led mark.By (OrderRest given st v) t rest)
      back phase.Order v r e = given_some (name_in p) (order_named (draft phase.Order v r)) e refl (λ text named e.
          let o = moved (draft phase.OrderRead v (record r { property = text })) e in record {
            order = order_by text o.down;
            orders = o.orders;
            tail = o.tail;
            spelled = first_is (is_name_piece p text named) ∙ ap (λ q. name text ∷ q) o.spelled;
            rest = o.rest;
          })
      back phase.OrderRead v r e =
          let d = draft phase.OrderRead v r in
          either (is mark.Asc p) (with_order d false) _ e (λ t o. direction (Some false) (fixed mark.Asc ∷ []) refl (first_is (is_mark mark.Asc p t)) o)
          (λ e. either (is mark.Desc p) (with_order d true) _ e (λ t o. direction (Some true) (fixed mark.Desc ∷ []) refl (first_is (is_mark mark.Desc p t)) o)
          (λ e. let o = direction_back (with_order d false) e in record {
            down = None;
            orders = o.orders;
            tail = o.tail;
            spelled = o.spelled;
            rest = ordered false o.orders o.tail o.rest;
          })) where
            ordered : (down : Bool) (os : List Order) (tail : List Piece) → LimitsRest given st (record v { orders = (v.orders ++ record { name = r.property; descending = down } ∷ []) ++ map column_of os }) tail
                → LimitsRest given st (record v { orders = v.orders ++ record { name = r.property; descending = down } ∷ map column_of os }) tail
            ordered down os tail rest = subst (λ (cs : List Column). LimitsRest given st (record v { orders = cs }) tail) (append_assoc v.orders (record { name = r.property; descending = down } ∷ []) (map column_of os)) rest

            direction : (down : Option Bool) (q : List Piece) → direction_pieces down ≡ q → p ∷ ps ≡ q ++ ps → FurtherOrders given st (record v { orders = v.orders ++ column_of (order_by r.property down) ∷ [] }) ps → DirectionRest given st v r.property (p ∷ ps)
            direction down q is first o = record {
              down = down;
              orders = o.orders;
              tail = o.tail;
              spelled = first ∙ ap (λ w. q ++ w) o.spelled ∙ ap (λ w. w ++ (others comma order_pieces o.orders ++ o.tail)) (sym is);
              rest = ordered (column_of (order_by r.property down)).descending o.orders o.tail o.rest;
            }
      back phase.DirectionRead v r e = direction_back (draft phase.DirectionRead v r) e
      back phase.Limit v r e = given_some (count_in p) (limit_by (draft phase.Limit v r)) e refl (λ n said e.
          let c = counts p n said in record { count = n; tail = ps; spelled = first_is c.0; few = c.1; rest = moved (draft phase.LimitRead (record v { limit = Some n }) r) e })
      back phase.LimitRead v r e =
          let d = draft phase.LimitRead v r in
          either (is mark.Comma p) (record d { phase = phase.PairedLimit }) _ e (λ t rest. inr (inr (led mark.Comma (PairedRest given st v) t rest)))
          (λ e. either (is mark.Offset p) (record d { phase = phase.Offset }) _ e (λ t rest. inr (inl (led mark.Offset (OffsetRest given st v) t rest)))
          (λ e. inl (end_back d e)))
      back phase.PairedLimit v r e = given_some (count_in p) (paired_by (draft phase.PairedLimit v r)) e refl (λ n said e.
          let c = counts p n said in record { count = n; tail = ps; spelled = first_is c.0; few = c.1; rest = moved (draft phase.Whole (record v { offset = unwrap_or v.limit 0; limit = Some n }) r) e })
      back phase.Offset v r e = given_some (count_in p) (offset_by (draft phase.Offset v r)) e refl (λ n said e.
          let c = counts p n said in record { count = n; tail = ps; spelled = first_is c.0; few = c.1; rest = moved (draft phase.Whole (record v { offset = n }) r) e })
      back phase.Whole v r e = end_back (draft phase.Whole v r) e
      back phase.Ended v r e = absurd (cc)
