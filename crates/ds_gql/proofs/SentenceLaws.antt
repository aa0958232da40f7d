-- Sentences are read, and where a text stops no sentence goes on.
use Rattle.std.proofs.Common.{◌≡◌, ℕ, zero, suc, Bool, true, false, cond, not, List, [], ◌∷◌, ◌++◌, length, map, Option, Some, None, Ok}
use Rattle.std.proofs.Common.{Err, ◌⊎◌, inl, inr, refl, sym, ap, ◌∙◌, subst, arith, append_assoc, append-nil}
use Rattle.std.specs.Prelude.{option_map, unwrap_or, pos, ◌&&◌, ◌||◌, ◌==◌, bytes_eq}
use Rattle.std.specs.List.{list_any}
use Rattle.std.proofs.lemmas.Bool.{and_parts}
use Rattle.std.proofs.lemmas.Bool.Decides.{nat_tests}
use Rattle.ds_query.specs.declared.query.Op.TheVariants as op
use Rattle.ds_query.specs.declared.query.Select.{Select}
use Rattle.ds_query.specs.declared.query.Select.TheVariants as select
use Rattle.ds_gql.specs.declared.statement.Bindings.{Bindings}
use Rattle.ds_gql.specs.declared.statement.Statement.{Statement}
use Rattle.ds_gql.specs.declared.draft.Phase.{Phase}
use Rattle.ds_gql.specs.declared.draft.Phase.TheVariants as phase
use Rattle.ds_gql.specs.declared.draft.KeyFor.TheVariants as for
use Rattle.ds_gql.specs.declared.draft.Draft.{Draft}
use Rattle.ds_tokens.specs.declared.token.Mark.TheVariants as mark
use Rattle.ds_tokens.specs.Pieces.{Piece, fixed, name, integer, strange, is}
use Rattle.ds_tokens.specs.Tokens.{Front, Token, tokens_from, tokens_of, front, is_blank}
use Rattle.ds_gql.specs.Steps.{step, empty, complete, selected, projected, count_of, limit_by, offset_by, paired_by}
use Rattle.ds_base.specs.KeyColumn.{key_name}
use Rattle.ds_gql.specs.Statements.{read_on, stepped, statement_of}
use Rattle.ds_gql.specs.Sentences.{What, everything, keys, names, Condition, Conditions, Order, Limits, none, limit, limit_offset, pair}
use Rattle.ds_gql.specs.Sentences.{offset, Sentence, comma, others, led_by, name_pieces, what_pieces, kind_pieces, condition_pieces}
use Rattle.ds_gql.specs.Sentences.{direction_pieces, order_pieces, limits_pieces, pieces, is_what, select_of, is_kind, with_conditions}
use Rattle.ds_gql.specs.Sentences.{column_of, bounds_of, says, Derives}
use Rattle.ds_gql.specs.GqlLaws.{pieces_of, SentencesAreRead, NoSentenceGoesOn}
use Rattle.ds_gql.proofs.SentenceSteps.{Shown, Open, draft, stepped_to, read_pieces, Goes, stay, more, chain_some, map_some, only_if}
use Rattle.ds_gql.proofs.ConditionSteps.{with_found, first_conditions}
use Rattle.ds_gql.proofs.ReadingLemmas.{step-strange, read_on-cons}

-- ---- phases behind which a further part may begin

data Behind : Type 0 where
  starred : Behind
  listed : Behind
  kinded : Behind
  conditioned : Behind
  ordered : Behind

abbrev phase_of : Behind → Phase
phase_of starred = phase.Selected
phase_of listed = phase.NameRead
phase_of kinded = phase.KindRead
phase_of conditioned = phase.ConditionRead
phase_of ordered = phase.DirectionRead

abbrev MayFrom : Behind → Type 0
MayFrom starred = Unit {0}
MayFrom listed = Unit {0}
MayFrom _ = ⊥

abbrev MayWhere : Behind → Type 0
MayWhere conditioned = ⊥
MayWhere ordered = ⊥
MayWhere _ = Unit {0}

abbrev MayOrder : Behind → Type 0
MayOrder ordered = ⊥
MayOrder _ = Unit {0}

from_where : (x : Behind) → MayFrom x → MayWhere x
from_where starred may = tt
from_where listed may = tt
from_where kinded may = absurd may
from_where conditioned may = absurd may
from_where ordered may = absurd may

where_order : (x : Behind) → MayWhere x → MayOrder x
where_order starred may = tt
where_order listed may = tt
where_order kinded may = tt
where_order conditioned may = absurd may
where_order ordered may = absurd may

module _ (given : Bindings) where
  from_step : (x : Behind) (v : Shown) (r : Open) → MayFrom x → step given (draft (phase_of x) v r) (fixed mark.From) ≡ Some (draft phase.From v r)
  unfolding step
  from_step starred v r may = refl
  from_step listed v r may = refl
  from_step kinded v r may = absurd may
  from_step conditioned v r may = absurd may
  from_step ordered v r may = absurd may

  where_step : (x : Behind) (v : Shown) (r : Open) → MayWhere x → step given (draft (phase_of x) v r) (fixed mark.Where) ≡ Some (draft phase.Condition v r)
  unfolding step
  where_step starred v r may = refl
  where_step listed v r may = refl
  where_step kinded v r may = refl
  where_step conditioned v r may = absurd may
  where_step ordered v r may = absurd may

  order_step : (x : Behind) (v : Shown) (r : Open) → MayOrder x → step given (draft (phase_of x) v r) (fixed mark.Order) ≡ Some (draft phase.OrderBy v r)
  unfolding step
  order_step starred v r may = refl
  order_step listed v r may = refl
  order_step kinded v r may = refl
  order_step conditioned v r may = refl
  order_step ordered v r may = absurd may

  limit_step : (x : Behind) (v : Shown) (r : Open) → step given (draft (phase_of x) v r) (fixed mark.Limit) ≡ Some (draft phase.Limit v r)
  unfolding step
  limit_step starred v r = refl
  limit_step listed v r = refl
  limit_step kinded v r = refl
  limit_step conditioned v r = refl
  limit_step ordered v r = refl

  offset_step : (x : Behind) (v : Shown) (r : Open) → step given (draft (phase_of x) v r) (fixed mark.Offset) ≡ Some (draft phase.Offset v r)
  unfolding step
  offset_step starred v r = refl
  offset_step listed v r = refl
  offset_step kinded v r = refl
  offset_step conditioned v r = refl
  offset_step ordered v r = refl

  end_step : (x : Behind) (v : Shown) (r : Open) → step given (draft (phase_of x) v r) (fixed mark.End) ≡ Some (draft phase.Ended v r)
  unfolding step
  end_step starred v r = refl
  end_step listed v r = refl
  end_step kinded v r = refl
  end_step conditioned v r = refl
  end_step ordered v r = refl

  -- ---- what is selected, and of which kind

  neither : (a b : Bool) → not (a || b) ≡ true → (a ≡ false) × (b ≡ false)
  neither true b e = absurd (cc)
  neither false true e = absurd (cc)
  neither false false e = (refl, refl)

  some_or : (a b : Bool) → (a || b) ≡ false → (a ≡ false) × (b ≡ false)
  some_or true b e = absurd (cc)
  some_or false b e = (refl, e)

  further_names : (v : Shown) (r : Open) (ns : List (List ℕ)) → list_any (λ n. bytes_eq n key_name) ns ≡ false → Goes given (draft phase.NameRead v r) (others comma name_pieces ns) (draft phase.NameRead (record v { names = v.names ++ ns }) r)
  unfolding step
  further_names v r [] other = subst (λ (ns : List (List ℕ)). Goes given (draft phase.NameRead v r) [] (draft phase.NameRead (record v { names = ns }) r)) (sym (append-nil v.names)) stay
  further_names v r (n ∷ ns) other =
      let parts = some_or (bytes_eq n key_name) (list_any (λ m. bytes_eq m key_name) ns) other in
      subst (λ (all : List (List ℕ)). Goes given (draft phase.NameRead v r) (others comma name_pieces (n ∷ ns)) (draft phase.NameRead (record v { names = all }) r)) (append_assoc v.names (n ∷ []) ns)
      (more refl refl
      (more (ap (λ b. cond b None (projected (draft phase.NextName v r) n)) parts.0) refl (further_names (record v { names = v.names ++ n ∷ [] }) r ns parts.1)))

  -- nothing but a selection
  abbrev only_selects : Select → List (List ℕ) → Shown
  only_selects found ns = record { select = found; names = ns; kind = None; ancestor = None; filters = []; orders = []; offset = 0; limit = None }

  positive_length : (n : ℕ) → (suc n == 0) ≡ false
  positive_length n = grind (arith, nat_tests)

  record WhatGoes (r : Open) (w : What) : Type 0 where
    behind : Behind
    found : Select
    found_names : List (List ℕ)
    may : MayFrom behind
    goes : Goes given (draft phase.What (only_selects select.Entities []) r) (what_pieces w) (draft (phase_of behind) (only_selects found found_names) r)
    same : selected found found_names ≡ select_of w

  what_goes : (r : Open) (w : What) → is_what w ≡ true → WhatGoes r w
  unfolding step
  what_goes r everything lawful = record { behind = starred; found = select.Entities; found_names = []; may = tt; goes = more refl refl stay; same = refl }
  what_goes r keys lawful = record { behind = starred; found = select.Keys; found_names = []; may = tt; goes = more refl refl stay; same = refl }
  what_goes r (names first rest) lawful =
      let parts = neither (bytes_eq first key_name) (list_any (λ n. bytes_eq n key_name) rest) lawful in
      let d = draft phase.What (only_selects select.Entities []) r in
      record {
        behind = listed;
        found = select.Entities;
        found_names = first ∷ rest;
        may = tt;
        goes = more (ap (λ b. cond b (Some (record d { phase = phase.Selected; select = select.Keys })) (projected d first)) parts.0) refl (further_names (only_selects select.Entities (first ∷ [])) r rest parts.1);
        same = ap (λ b. cond b select.Entities (select.Projection (first ∷ rest))) (positive_length (length rest));
      }

  kind_goes : (x : Behind) (v : Shown) (r : Open) (k : Option (List ℕ)) → MayFrom x → is_kind k ≡ true → v.kind ≡ None → (y : Behind) × MayWhere y × Goes given (draft (phase_of x) v r) (kind_pieces k) (draft (phase_of y) (record v { kind = k }) r)
  unfolding step
  kind_goes x v r None may lawful none_yet = (x, from_where x may, subst (λ (k : Option (List ℕ)). Goes given (draft (phase_of x) v r) [] (draft (phase_of x) (record v { kind = k }) r)) none_yet stay)
  kind_goes x v r (Some text) may lawful none_yet =
      let d = draft phase.From v r in
      (kinded, tt, more (from_step x v r may) refl (more (ap (λ b. cond b (Some (record d { phase = phase.KindRead; kind = Some text })) None) lawful) refl stay))

  conditions_goes : (x : Behind) (v : Shown) (r : Open) (cs : List Condition) (next : Conditions) → MayWhere x → with_conditions given (v.filters, v.ancestor) cs ≡ Some next
      → (y : Behind) × (s : Open) × MayOrder y × Goes given (draft (phase_of x) v r) (led_by (fixed mark.Where ∷ []) (fixed mark.And) condition_pieces cs) (draft (phase_of y) (with_found v next) s)
  conditions_goes x v r [] next may e =
      let same : (v.filters, v.ancestor) ≡ next = cc in
      (x, r, where_order x may, subst (λ (n : Conditions). Goes given (draft (phase_of x) v r) [] (draft (phase_of x) (with_found v n) r)) same stay)
  conditions_goes x v r (c ∷ cs) next may e =
      let goes = first_conditions v (record r { property = r.property }) c cs next e in
      (conditioned, goes.0, tt, more (where_step x v r may) refl goes.1)

  -- ---- orders

  -- behind an order without a direction these pieces go on as behind an ascending one
  record Ends (rest : List Piece) : Type 0 where
    same : (v : Shown) (r : Open) → read_pieces given (draft phase.OrderRead v r) rest ≡ read_pieces given (draft phase.DirectionRead (record v { orders = v.orders ++ record { name = r.property; descending = false } ∷ [] }) (record r { property = [] })) rest

  limits_end : (l : Limits) → Ends (limits_pieces l ++ fixed mark.End ∷ [])
  unfolding step
  limits_end none = record { same = λ v r. refl }
  limits_end (limit n) = record { same = λ v r. refl }
  limits_end (limit_offset n m) = record { same = λ v r. refl }
  limits_end (pair m n) = record { same = λ v r. refl }
  limits_end (offset m) = record { same = λ v r. refl }

  others_end : (os : List Order) (rest : List Piece) → Ends rest → Ends (others comma order_pieces os ++ rest)
  unfolding step
  others_end [] rest ends = ends
  others_end (o ∷ os) rest ends = record { same = λ v r. refl }

  one_order : (v : Shown) (r : Open) (o : Order) (rest : List Piece) → Ends rest → (s : Open) × (read_pieces given (draft phase.Order v r) (order_pieces o ++ rest) ≡ read_pieces given (draft phase.DirectionRead (record v { orders = v.orders ++ column_of o ∷ [] }) s) rest)
  unfolding step
  one_order v r o rest ends = by o.down refl where
    by : (down : Option Bool) → o.down ≡ down → (s : Open) × (read_pieces given (draft phase.Order v r) (name o.property ∷ direction_pieces o.down ++ rest) ≡ read_pieces given (draft phase.DirectionRead (record v { orders = v.orders ++ record { name = o.property; descending = unwrap_or o.down false } ∷ [] }) s) rest)
    by None is = (record r { property = [] }, rw is (ends.same v (record r { property = o.property })))
    by (Some false) is = (record r { property = [] }, rw is refl)
    by (Some true) is = (record r { property = [] }, rw is refl)

  further_orders : (v : Shown) (r : Open) (os : List Order) (rest : List Piece) → Ends rest → (s : Open) × (read_pieces given (draft phase.DirectionRead v r) (others comma order_pieces os ++ rest) ≡ read_pieces given (draft phase.DirectionRead (record v { orders = v.orders ++ map column_of os }) s) rest)
  unfolding step
  further_orders v r [] rest ends = (r, ap (λ cs. read_pieces given (draft phase.DirectionRead (record v { orders = cs }) r) rest) (sym (append-nil v.orders)))
  further_orders v r (o ∷ os) rest ends =
      let here = one_order v r o (others comma order_pieces os ++ rest) (others_end os rest ends) in
      let there = further_orders (record v { orders = v.orders ++ column_of o ∷ [] }) here.0 os rest ends in (
        there.0,
        ap (read_pieces given (draft phase.Order v r)) (append_assoc (order_pieces o) (others comma order_pieces os) rest)
            ∙ here.1 ∙ there.1
            ∙ ap (λ cs. read_pieces given (draft phase.DirectionRead (record v { orders = cs }) there.0) rest) (append_assoc v.orders (column_of o ∷ []) (map column_of os)),
      )

  orders_goes : (x : Behind) (v : Shown) (r : Open) (os : List Order) (rest : List Piece) → MayOrder x → Ends rest → v.orders ≡ []
      → (y : Behind) × (s : Open) × (read_pieces given (draft (phase_of x) v r) (led_by (fixed mark.Order ∷ fixed mark.By ∷ []) comma order_pieces os ++ rest) ≡ read_pieces given (draft (phase_of y) (record v { orders = map column_of os }) s) rest)
  unfolding step
  orders_goes x v r [] rest may ends none_yet = (x, r, ap (λ cs. read_pieces given (draft (phase_of x) (record v { orders = cs }) r) rest) none_yet)
  orders_goes x v r (o ∷ os) rest may ends none_yet =
      let here = one_order v r o (others comma order_pieces os ++ rest) (others_end os rest ends) in
      let there = further_orders (record v { orders = v.orders ++ column_of o ∷ [] }) here.0 os rest ends in (
        ordered,
        there.0,
        ap (λ n. stepped_to n (fixed mark.Order) (λ d. read_pieces given d (fixed mark.By ∷ (order_pieces o ++ others comma order_pieces os) ++ rest))) (order_step x v r may)
            ∙ ap (read_pieces given (draft phase.Order v r)) (append_assoc (order_pieces o) (others comma order_pieces os) rest)
            ∙ here.1 ∙ there.1
            ∙ ap (λ cs. read_pieces given (draft phase.DirectionRead (record v { orders = (cs ++ column_of o ∷ []) ++ map column_of os }) there.0) rest) none_yet,
      )

  -- ---- limits and the end

  abbrev unbounded : Shown → Shown
  unbounded v = record v { offset = 0; limit = None }

  abbrev bounded : Shown → ℕ × Option ℕ → Shown
  bounded v bounds = record v { offset = bounds.0; limit = bounds.1 }

  limits_goes : (x : Behind) (v : Shown) (r : Open) (l : Limits) (bounds : ℕ × Option ℕ) → bounds_of l ≡ Some bounds → read_pieces given (draft (phase_of x) (unbounded v) r) (limits_pieces l ++ fixed mark.End ∷ []) ≡ Some (complete (draft phase.Ended (bounded v bounds) r))
  unfolding step
  limits_goes x v r none bounds e =
      let same : (0, None) ≡ bounds = cc in
      ap (λ n. stepped_to n (fixed mark.End) (λ d. read_pieces given d [])) (end_step x (unbounded v) r) ∙ ap (λ (b : ℕ × Option ℕ). Some (complete (draft phase.Ended (bounded v b) r))) same
  limits_goes x v r (limit n) bounds e =
      let found = map_some (count_of (pos n)) (λ c. (0, Some c)) bounds e in
      ap (λ o. stepped_to o (fixed mark.Limit) (λ d. read_pieces given d (integer (pos n) ∷ fixed mark.End ∷ []))) (limit_step x (unbounded v) r)
      ∙ ap (λ o. stepped_to (limit_by (draft phase.Limit (unbounded v) r) o) (integer (pos n)) (λ d. read_pieces given d (fixed mark.End ∷ []))) found.1
      ∙ ap (λ (b : ℕ × Option ℕ). Some (complete (draft phase.Ended (bounded v b) r))) found.2
  limits_goes x v r (limit_offset n m) bounds e =
      let first = chain_some (count_of (pos n)) (λ c. option_map (λ d. (d, Some c)) (count_of (pos m))) bounds e in
      let second = map_some (count_of (pos m)) (λ d. (d, Some first.0)) bounds first.2 in
      ap (λ o. stepped_to o (fixed mark.Limit) (λ d. read_pieces given d (integer (pos n) ∷ fixed mark.Offset ∷ integer (pos m) ∷ fixed mark.End ∷ []))) (limit_step x (unbounded v) r)
      ∙ ap (λ o. stepped_to (limit_by (draft phase.Limit (unbounded v) r) o) (integer (pos n)) (λ d. read_pieces given d (fixed mark.Offset ∷ integer (pos m) ∷ fixed mark.End ∷ []))) first.1
      ∙ ap (λ o. stepped_to (offset_by (draft phase.Offset (record v { offset = 0; limit = Some first.0 }) r) o) (integer (pos m)) (λ d. read_pieces given d (fixed mark.End ∷ []))) second.1
      ∙ ap (λ (b : ℕ × Option ℕ). Some (complete (draft phase.Ended (bounded v b) r))) second.2
  limits_goes x v r (pair m n) bounds e =
      let first = chain_some (count_of (pos m)) (λ d. option_map (λ c. (d, Some c)) (count_of (pos n))) bounds e in
      let second = map_some (count_of (pos n)) (λ c. (first.0, Some c)) bounds first.2 in
      ap (λ o. stepped_to o (fixed mark.Limit) (λ d. read_pieces given d (integer (pos m) ∷ comma ∷ integer (pos n) ∷ fixed mark.End ∷ []))) (limit_step x (unbounded v) r)
      ∙ ap (λ o. stepped_to (limit_by (draft phase.Limit (unbounded v) r) o) (integer (pos m)) (λ d. read_pieces given d (comma ∷ integer (pos n) ∷ fixed mark.End ∷ []))) first.1
      ∙ ap (λ o. stepped_to (paired_by (draft phase.PairedLimit (record v { offset = 0; limit = Some first.0 }) r) o) (integer (pos n)) (λ d. read_pieces given d (fixed mark.End ∷ []))) second.1
      ∙ ap (λ (b : ℕ × Option ℕ). Some (complete (draft phase.Ended (bounded v b) r))) second.2
  limits_goes x v r (offset m) bounds e =
      let found = map_some (count_of (pos m)) (λ d. (d, None)) bounds e in
      ap (λ o. stepped_to o (fixed mark.Offset) (λ d. read_pieces given d (integer (pos m) ∷ fixed mark.End ∷ []))) (offset_step x (unbounded v) r)
      ∙ ap (λ o. stepped_to (offset_by (draft phase.Offset (unbounded v) r) o) (integer (pos m)) (λ d. read_pieces given d (fixed mark.End ∷ []))) found.1
      ∙ ap (λ (b : ℕ × Option ℕ). Some (complete (draft phase.Ended (bounded v b) r))) found.2

  -- ---- whole sentences

  abbrev nothing_open : Open
  nothing_open = record { property = []; op = op.Equal; values = []; key_for = for.Operand; path = []; elem_kind = [] }

  sentence_is_read : (s : Sentence) (st : Statement) → says given s ≡ Some st → read_pieces given empty (pieces s) ≡ Some st
  unfolding step
  sentence_is_read s st said =
      let lawful = only_if (is_what s.what && is_kind s.kind) _ st said in
      let parts = and_parts (is_what s.what) (is_kind s.kind) lawful.0 in
      let found = chain_some (with_conditions given ([], None) s.conditions) _ st lawful.1 in
      let bounds = map_some (bounds_of s.limits) _ st found.2 in
      let end : List Piece = limits_pieces s.limits ++ fixed mark.End ∷ [] in
      let w = what_goes nothing_open s.what parts.0 in
      let v1 = only_selects w.found w.found_names in
      let k = kind_goes w.behind v1 nothing_open s.kind w.may parts.1 refl in
      let v2 : Shown = record v1 { kind = s.kind } in
      let c = conditions_goes k.0 v2 nothing_open s.conditions found.0 k.1 found.1 in
      let v3 = with_found v2 found.0 in
      let o = orders_goes c.0 v3 c.1 s.orders end c.2 (limits_end s.limits) refl in
      let v4 : Shown = record v3 { orders = map column_of s.orders } in
      w.goes.by _ ∙ k.2.by _ ∙ c.3.by _ ∙ o.2 ∙ limits_goes o.0 v4 o.1 s.limits bounds.0 bounds.1
      ∙ ap (λ chosen. Some (let t : Statement = record {
        query = record {
          namespace = [];
          kind = s.kind;
          ancestor = found.0.1;
          filters = found.0.0;
          orders = map column_of s.orders;
          select = chosen;
          cursors = false;
        };
        offset = bounds.0.0;
        limit = bounds.0.1;
      } in t)) w.same
      ∙ ap Some bounds.2

  -- ---- with their places

  pub read_with_places : (tokens : List Token) (d : Draft) (st : Statement) → read_pieces given d (pieces_of tokens) ≡ Some st → read_on given d tokens ≡ Ok st
  read_with_places [] d st e = absurd (cc)
  read_with_places (t ∷ tokens) d st e = read_on-cons given d t tokens ∙ by (step given d t.piece) e (λ n. read_with_places tokens n st) where
    by : (next : Option Draft) → stepped_to next t.piece (λ n. read_pieces given n (pieces_of tokens)) ≡ Some st → ((n : Draft) → read_pieces given n (pieces_of tokens) ≡ Some st → read_on given n tokens ≡ Ok st) → stepped next t (λ n. read_on given n tokens) ≡ Ok st
    by None e later = absurd (cc)
    by (Some n) e later = ended (is mark.End t.piece) e where
      ended : (end : Bool) → cond end (Some (complete n)) (read_pieces given n (pieces_of tokens)) ≡ Some st → cond end (Ok (complete n)) (read_on given n tokens) ≡ Ok st
      ended true e = let same : complete n ≡ st = cc in ap Ok same
      ended false e = later n e

  derived_is_read : (written : List Piece) (st : Statement) → Derives given written st → read_pieces given empty written ≡ Some st
  derived_is_read written st derived = ap (read_pieces given empty) derived.spelled ∙ sentence_is_read derived.sentence st derived.said

pub sentences_are_read : SentencesAreRead
unfolding statement_of
sentences_are_read given text st derived = read_with_places given (tokens_of text) empty st (derived_is_read given (pieces_of (tokens_of text)) st derived)

-- ---- where a text stops

-- the last token is the end, or a place where no token stands
abbrev pub Closed : List Token → Type 0
Closed [] = ⊥
Closed (t ∷ []) = (t.piece ≡ strange) ⊎ (t.piece ≡ fixed mark.End)
Closed (t ∷ u ∷ ts) = Closed (u ∷ ts)

closed_more : (t : Token) (ts : List Token) → Closed ts → Closed (t ∷ ts)
closed_more t [] closed = absurd closed
closed_more t (u ∷ ts) closed = closed

pub tokens_from-closed : (left place : ℕ) (text : List ℕ) → Closed (tokens_from left place text)
tokens_from-closed left place [] = inr refl
tokens_from-closed (suc left) place (b ∷ text) = tokens_from-closed left (suc place) text
tokens_from-closed zero place (b ∷ text) = by (is_blank b) refl (λ left. tokens_from-closed left (suc place) text) where
  begins : (found : Option Front) → front (b ∷ text) ≡ found → is_blank b ≡ false → ((left : ℕ) → Closed (tokens_from left (suc place) text)) → Closed (tokens_from 0 place (b ∷ text))
  begins None none_here not_blank later = rw (not_blank, none_here) (inl refl)
  begins (Some f) found not_blank later = rw (not_blank, found) (closed_more (let t : Token = record { piece = f.piece; place = place } in t) (tokens_from f.more (suc place) text) (later f.more))

  by : (blank : Bool) → is_blank b ≡ blank → ((left : ℕ) → Closed (tokens_from left (suc place) text)) → Closed (tokens_from 0 place (b ∷ text))
  by true blank later = rw blank (later 0)
  by false blank later = begins (front (b ∷ text)) refl blank later

-- the token that takes no step
record Stuck (given : Bindings) (d : Draft) (tokens : List Token) (place : ℕ) : Type 0 where
  before : List Token
  token : Token
  behind : List Token
  all : tokens ≡ before ++ token ∷ behind
  there : token.place ≡ place
  nothing : (rest : List Piece) → read_pieces given d (pieces_of before ++ token.piece ∷ rest) ≡ None

stuck : (given : Bindings) (d : Draft) (tokens : List Token) (place : ℕ) → Closed tokens → read_on given d tokens ≡ Err place → Stuck given d tokens place
stuck given d [] place end e = absurd end
stuck given d (t ∷ []) place end e = by (step given d t.piece) refl (sym (read_on-cons given d t []) ∙ e) where
  by : (next : Option Draft) → step given d t.piece ≡ next → stepped next t (λ n. read_on given n []) ≡ Err place → Stuck given d (t ∷ []) place
  by None halts e = record { before = []; token = t; behind = []; all = refl; there = cc; nothing = λ rest. ap (λ o. stepped_to o t.piece (λ n. read_pieces given n rest)) halts }
  by (Some n) some e = absurd (elim end [
    | inl strange_there ↦ let never : step given d t.piece ≡ None = ap (step given d) strange_there ∙ step-strange given d in cc
    | inr end_there ↦
        let is_end : is mark.End t.piece ≡ true = ap (is mark.End) end_there in
        let read : Ok (complete n) ≡ Err place = sym (ap (λ q. cond q (Ok (complete n)) (read_on given n [])) is_end) ∙ e in cc
  ])
stuck given d (t ∷ u ∷ us) place closed e = by (step given d t.piece) refl (sym (read_on-cons given d t (u ∷ us)) ∙ e) (λ n. stuck given n (u ∷ us) place closed) where
  by : (next : Option Draft) → step given d t.piece ≡ next → stepped next t (λ n. read_on given n (u ∷ us)) ≡ Err place → ((n : Draft) → read_on given n (u ∷ us) ≡ Err place → Stuck given n (u ∷ us) place) → Stuck given d (t ∷ u ∷ us) place
  by None halts e others_stuck = record { before = []; token = t; behind = u ∷ us; all = refl; there = cc; nothing = λ rest. ap (λ o. stepped_to o t.piece (λ n. read_pieces given n rest)) halts }
  by (Some n) some e others_stuck = ended (is mark.End t.piece) refl e where
    ended : (end : Bool) → is mark.End t.piece ≡ end → cond end (Ok (complete n)) (read_on given n (u ∷ us)) ≡ Err place → Stuck given d (t ∷ u ∷ us) place
    ended true end e = absurd (cc)
    ended false end e =
        let found = others_stuck n e in
        record {
          before = t ∷ found.before;
          token = found.token;
          behind = found.behind;
          all = ap (λ ts. t ∷ ts) found.all;
          there = found.there;
          nothing = λ rest.
              ap (λ o. stepped_to o t.piece (λ m. read_pieces given m (pieces_of found.before ++ found.token.piece ∷ rest))) some
              ∙ ap (λ q. cond q (Some (complete n)) (read_pieces given n (pieces_of found.before ++ found.token.piece ∷ rest))) end ∙ found.nothing rest;
        }

pub no_sentence_goes_on : NoSentenceGoesOn
unfolding statement_of tokens_of
no_sentence_goes_on given text place e =
    let found = stuck given empty (tokens_from 0 0 text) place (tokens_from-closed 0 0 text) e in
    record {
      before = found.before;
      token = found.token;
      behind = found.behind;
      all = found.all;
      there = found.there;
      stops = λ more_pieces st derived. let read = derived_is_read given _ st derived in let never = found.nothing more_pieces in absurd (cc);
    }
