-- What has been read of a text can always go on to a statement.
use Rattle.std.proofs.Common.{◌≡◌, ℕ, ◌+◌, ◌<◌, Bool, true, false, cond, List, [], ◌∷◌, ◌++◌, length, Option, Some, None, refl, sym, ap}
use Rattle.std.proofs.Common.{◌∙◌, subst, arith, length-append}
use Rattle.std.specs.Prelude.{option_map, option_and_then, pos, nat_lt, nat_le, ◌&&◌, bytes_eq, codes}
use Rattle.std.specs.List.{list_all}
use Rattle.std.proofs.lemmas.Bool.{and_parts}
use Rattle.std.proofs.lemmas.Bool.Decides.{nat_tests}
use borrow.Author.Tests.{ltb-true}
use Rattle.ds_base.specs.Limits.{most_elements}
use Rattle.ds_base.specs.Keys.{KeyParts, is_name, is_ident, is_elem, is_path}
use Rattle.ds_base.specs.declared.key.Ident.{Ident}
use Rattle.ds_base.specs.declared.key.Ident.TheVariants as ident
use Rattle.ds_base.specs.declared.key.Elem.{Elem}
use Rattle.ds_query.specs.declared.query.Op.TheVariants as op
use Rattle.ds_query.specs.declared.query.Select.TheVariants as select
use Rattle.ds_gql.specs.declared.statement.Bindings.{Bindings}
use Rattle.ds_gql.specs.declared.statement.Statement.{Statement}
use Rattle.ds_gql.specs.declared.draft.Phase.{Phase}
use Rattle.ds_gql.specs.declared.draft.Phase.TheVariants as phase
use Rattle.ds_gql.specs.declared.draft.KeyFor.{KeyFor}
use Rattle.ds_gql.specs.declared.draft.KeyFor.TheVariants as for
use Rattle.ds_gql.specs.declared.draft.Draft.{Draft}
use Rattle.ds_tokens.specs.declared.token.Mark.TheVariants as mark
use Rattle.ds_tokens.specs.Pieces.{Piece, fixed, name, integer, string, is, name_in}
use Rattle.ds_gql.specs.Steps.{step, complete, no_ancestor, on_if, at_end, at_limits, at_orders, at_conditions, at_kind, at_direction_read}
use Rattle.ds_gql.specs.Steps.{with_order, select_named, next_named, kind_named, property_named, order_named, projected, compare_by}
use Rattle.ds_gql.specs.Steps.{compare_in, operand_by, listed_by, ancestor_by, value_of, key_in, elem_kind_by, key_text, name_of, ident_by}
use Rattle.ds_gql.specs.Steps.{ident_in, id_of, key_read, key_read_for, limit_by, offset_by, paired_by, count_in}
use Rattle.ds_base.specs.KeyColumn.{key_name}
use Rattle.ds_gql.proofs.SentenceSteps.{Shown, Open, draft, stepped_to, read_pieces, only_if}

-- ---- what holds of a draft that was read so far

-- a path to which an element may be added
pub record Room (path : List Elem) : Type 0 where
  pub lawful : list_all is_elem path ≡ true
  pub few : length path < 100

abbrev pub Sound : Phase → Open → Type 0
Sound phase.KeyOpen r = r.path ≡ []
Sound phase.KeyKind r = Room r.path
Sound phase.KeyComma r = Room r.path × (is_name r.elem_kind ≡ true)
Sound phase.KeyIdent r = Room r.path × (is_name r.elem_kind ≡ true)
Sound phase.ElemRead r = is_path r.path ≡ true
Sound phase.Ended r = ⊥
Sound _ r = Unit {0}

abbrev pub shown_of : Draft → Shown
shown_of d = record { select = d.select; names = d.names; kind = d.kind; ancestor = d.ancestor; filters = d.filters; orders = d.orders; offset = d.offset; limit = d.limit }

abbrev pub open_of : Draft → Open
open_of d = record { property = d.property; op = d.op; values = d.values; key_for = d.key_for; path = d.path; elem_kind = d.elem_kind }

abbrev pub IsSound : Draft → Type 0
IsSound d = Sound d.phase (open_of d)

-- ---- paths

list_all-push : (es : List Elem) (e : Elem) → list_all is_elem es ≡ true → is_elem e ≡ true → list_all is_elem (es ++ e ∷ []) ≡ true
list_all-push [] e lawful one = ap (λ b. b && true) one
list_all-push (f ∷ es) e lawful one =
    let parts = and_parts (is_elem f) (list_all is_elem es) lawful in
    ap (λ b. b && list_all is_elem (es ++ e ∷ [])) parts.0 ∙ list_all-push es e parts.1 one

path_more : (es : List Elem) (e : Elem) → Room es → is_elem e ≡ true → is_path (es ++ e ∷ []) ≡ true
path_more es e room one =
    let size : length (es ++ e ∷ []) ≡ length es + 1 = length-append es (e ∷ []) in
    let bounds : (nat_le 1 (length (es ++ e ∷ [])) && nat_le (length (es ++ e ∷ [])) most_elements) ≡ true =
    ap (λ n. nat_le 1 n && nat_le n most_elements) size ∙ within (length es) room.few in
    ap (λ b. b && list_all is_elem (es ++ e ∷ [])) bounds ∙ list_all-push es e room.lawful one where
      within : (n : ℕ) → n < 100 → (nat_le 1 (n + 1) && nat_le (n + 1) 100) ≡ true
      within n few = grind (arith, nat_tests)

path_room : (es : List Elem) → is_path es ≡ true → nat_lt (length es) most_elements ≡ true → Room es
path_room es lawful few =
    let parts = and_parts (nat_le 1 (length es) && nat_le (length es) most_elements) (list_all is_elem es) lawful in
    record { lawful = parts.1; few = ltb-true _ _ few }

-- ---- each step keeps it

module _ (next : Draft) where
  same_sound : (d : Draft) → IsSound d → d ≡ next → IsSound next
  same_sound d sound same = subst IsSound same sound

  if_on : (b : Bool) (x : Phase) (d : Draft) → on_if b x d ≡ Some next → (b ≡ true → IsSound (record d { phase = x })) → IsSound next
  if_on true x d e sound = same_sound (record d { phase = x }) (sound refl) (cc)
  if_on false x d e sound = absurd (cc)

  either : (b : Bool) (d : Draft) (other : Option Draft) → cond b (Some d) other ≡ Some next → (b ≡ true → IsSound d) → (other ≡ Some next → IsSound next) → IsSound next
  either true d other e here there = same_sound d (here refl) (cc)
  either false d other e here there = there e

  just : (d : Draft) → Some d ≡ Some next → IsSound d → IsSound next
  just d e sound = same_sound d sound (cc)

  given_some : {A : Type 0} (o : Option A) (f : Option A → Option Draft) → f o ≡ Some next → f None ≡ None → ((x : A) → f (Some x) ≡ Some next → IsSound next) → IsSound next
  given_some None f e nothing some = absurd (let n : None ≡ Some next = sym nothing ∙ e in cc)
  given_some (Some x) f e nothing some = some x e

  module _ (p : Piece) (not_end : is mark.End p ≡ false) where
    end_sound : (d : Draft) → at_end d p ≡ Some next → IsSound next
    end_sound d e = if_on (is mark.End p) phase.Ended d e (λ end. absurd (cc))

    limits_sound : (d : Draft) → at_limits d p ≡ Some next → IsSound next
    limits_sound d e = either (is mark.Limit p) (record d { phase = phase.Limit }) _ e (λ _. tt) (λ e. either (is mark.Offset p) (record d { phase = phase.Offset }) _ e (λ _. tt) (end_sound d))

    orders_sound : (d : Draft) → at_orders d p ≡ Some next → IsSound next
    orders_sound d e = either (is mark.Order p) (record d { phase = phase.OrderBy }) _ e (λ _. tt) (limits_sound d)

    conditions_sound : (d : Draft) → at_conditions d p ≡ Some next → IsSound next
    conditions_sound d e = either (is mark.Where p) (record d { phase = phase.Condition }) _ e (λ _. tt) (orders_sound d)

    kind_sound : (d : Draft) → at_kind d p ≡ Some next → IsSound next
    kind_sound d e = either (is mark.From p) (record d { phase = phase.From }) _ e (λ _. tt) (conditions_sound d)

    direction_sound : (d : Draft) → at_direction_read d p ≡ Some next → IsSound next
    direction_sound d e = either (is mark.Comma p) (record d { phase = phase.Order }) _ e (λ _. tt) (limits_sound d)

    key_read_sound : (purpose : KeyFor) (d : Draft) (k : KeyParts) → Some (key_read_for purpose d k) ≡ Some next → IsSound next
    key_read_sound for.Operand d k e = just (key_read_for for.Operand d k) e tt
    key_read_sound for.Listed d k e = just (key_read_for for.Listed d k) e tt
    key_read_sound for.Ancestor d k e = just (key_read_for for.Ancestor d k) e tt

    pub step_sound : (given : Bindings) (x : Phase) (v : Shown) (r : Open) → Sound x r → step given (draft x v r) p ≡ Some next → IsSound next
    unfolding step
    step_sound given phase.Start v r sound e = if_on (is mark.Select p) phase.What (draft phase.Start v r) e (λ _. tt)
    step_sound given phase.What v r sound e =
        let d = draft phase.What v r in
        either (is mark.Star p) (record d { phase = phase.Selected }) _ e (λ _. tt)
        (λ e. given_some (name_in p) (select_named d) e refl
        (λ text e. either (bytes_eq text key_name) (record d { phase = phase.Selected; select = select.Keys }) _ e (λ _. tt) (λ e. just (record d { phase = phase.NameRead; names = d.names ++ text ∷ [] }) e tt)))
    step_sound given phase.Selected v r sound e = kind_sound (draft phase.Selected v r) e
    step_sound given phase.NameRead v r sound e = either (is mark.Comma p) (draft phase.NextName v r) _ e (λ _. tt) (kind_sound (draft phase.NameRead v r))
    step_sound given phase.NextName v r sound e =
        let d = draft phase.NextName v r in
        given_some (name_in p) (next_named d) e refl (λ text e. by (bytes_eq text key_name) text e) where
          by : (b : Bool) (text : List ℕ) → cond b None (projected (draft phase.NextName v r) text) ≡ Some next → IsSound next
          by true text e = absurd (cc)
          by false text e = just (record (draft phase.NextName v r) { phase = phase.NameRead; names = v.names ++ text ∷ [] }) e tt
    step_sound given phase.From v r sound e =
        let d = draft phase.From v r in
        given_some (name_in p) (kind_named d) e refl (λ text e. let parts = only_if (is_name text) _ next e in just (record d { phase = phase.KindRead; kind = Some text }) parts.1 tt)
    step_sound given phase.KindRead v r sound e = conditions_sound (draft phase.KindRead v r) e
    step_sound given phase.Condition v r sound e = by (is mark.Ancestor p) e where
      by : (b : Bool) → cond b (on_if (no_ancestor v.ancestor) phase.AncestorIs (draft phase.Condition v r)) (property_named (draft phase.Condition v r) (name_in p)) ≡ Some next → IsSound next
      by true e = if_on (no_ancestor v.ancestor) phase.AncestorIs (draft phase.Condition v r) e (λ _. tt)
      by false e = given_some (name_in p) (property_named (draft phase.Condition v r)) e refl (λ text e. just (record (draft phase.Condition v r) { phase = phase.Compare; property = text }) e tt)
    step_sound given phase.Compare v r sound e =
        let d = draft phase.Compare v r in
        either (is mark.In p) (record d { phase = phase.ListOpen; op = op.OneOf; values = [] }) _ e (λ _. tt)
        (λ e. given_some (compare_in p) (compare_by d) e refl (λ found e. just (record d { phase = phase.Operand; op = found }) e tt))
    step_sound given phase.Operand v r sound e =
        let d = draft phase.Operand v r in
        either (is mark.Key p) (record d { phase = phase.KeyOpen; key_for = for.Operand; path = [] }) _ e (λ _. refl)
        (λ e. given_some (value_of given p) (operand_by d) e refl (λ x e. just _ e tt))
    step_sound given phase.ListOpen v r sound e = if_on (is mark.Open p) phase.Listed (draft phase.ListOpen v r) e (λ _. tt)
    step_sound given phase.Listed v r sound e =
        let d = draft phase.Listed v r in
        either (is mark.Key p) (record d { phase = phase.KeyOpen; key_for = for.Listed; path = [] }) _ e (λ _. refl)
        (λ e. given_some (value_of given p) (listed_by d) e refl (λ x e. just _ e tt))
    step_sound given phase.ListedRead v r sound e =
        either (is mark.Comma p) (draft phase.Listed v r) _ e (λ _. tt) (λ e. let parts = only_if (is mark.Close p) _ next e in just _ parts.1 tt)
    step_sound given phase.AncestorIs v r sound e = if_on (is mark.Is p) phase.AncestorKey (draft phase.AncestorIs v r) e (λ _. tt)
    step_sound given phase.AncestorKey v r sound e =
        let d = draft phase.AncestorKey v r in
        either (is mark.Key p) (record d { phase = phase.KeyOpen; key_for = for.Ancestor; path = [] }) _ e (λ _. refl)
        (λ e. given_some (option_and_then key_in (value_of given p)) (ancestor_by d) e refl (λ k e. just _ e tt))
    step_sound given phase.KeyOpen v r sound e =
        if_on (is mark.Open p) phase.KeyKind (draft phase.KeyOpen v r) e (λ _. subst Room (sym sound) (record { lawful = refl; few = omega arith }))
    step_sound given phase.KeyKind v r sound e = by p e where
      text_sound : (text : List ℕ) → elem_kind_by (draft phase.KeyKind v r) (name_of text) ≡ Some next → IsSound next
      text_sound text e = named_by (is_name text) refl e where
        named_by : (b : Bool) → is_name text ≡ b → elem_kind_by (draft phase.KeyKind v r) (cond b (Some text) None) ≡ Some next → IsSound next
        named_by true lawful e = just (draft phase.KeyComma v (record r { elem_kind = text })) e (sound, lawful)
        named_by false lawful e = absurd (cc)

      by : (q : Piece) → elem_kind_by (draft phase.KeyKind v r) (key_text q) ≡ Some next → IsSound next
      by (string text) e = text_sound text e
      by _ e = absurd (cc)
    step_sound given phase.KeyComma v r sound e = if_on (is mark.Comma p) phase.KeyIdent (draft phase.KeyComma v r) e (λ _. sound)
    step_sound given phase.KeyIdent v r sound e = by p e where
      put : (found : Ident) → is_ident found ≡ true → Some (draft phase.ElemRead v (record r { path = r.path ++ record { kind = r.elem_kind; ident = found } ∷ []; elem_kind = [] })) ≡ Some next → IsSound next
      put found lawful e =
          just (draft phase.ElemRead v (record r { path = r.path ++ record { kind = r.elem_kind; ident = found } ∷ []; elem_kind = [] })) e
          (path_more r.path (record { kind = r.elem_kind; ident = found }) sound.0 (ap (λ b. b && is_ident found) sound.1 ∙ lawful))

      id_sound : (n : ℕ) → ident_by (draft phase.KeyIdent v r) (id_of (pos n)) ≡ Some next → IsSound next
      id_sound n e = by_id (is_ident (ident.Id n)) refl e where
        by_id : (b : Bool) → is_ident (ident.Id n) ≡ b → ident_by (draft phase.KeyIdent v r) (cond b (Some (ident.Id n)) None) ≡ Some next → IsSound next
        by_id true lawful e = put (ident.Id n) lawful e
        by_id false lawful e = absurd (cc)

      text_sound : (text : List ℕ) → ident_by (draft phase.KeyIdent v r) (option_map ident.Name (name_of text)) ≡ Some next → IsSound next
      text_sound text e = by_name (is_name text) refl e where
        by_name : (b : Bool) → is_name text ≡ b → ident_by (draft phase.KeyIdent v r) (option_map ident.Name (cond b (Some text) None)) ≡ Some next → IsSound next
        by_name true lawful e = put (ident.Name text) lawful e
        by_name false lawful e = absurd (cc)

      by : (q : Piece) → ident_by (draft phase.KeyIdent v r) (ident_in q) ≡ Some next → IsSound next
      by (integer (pos n)) e = id_sound n e
      by (string text) e = text_sound text e
      by _ e = absurd (cc)
    step_sound given phase.ElemRead v r sound e = by (is mark.Comma p) e where
      closed : key_read (draft phase.ElemRead v r) ≡ Some next → IsSound next
      closed e = let parts = only_if (is_path r.path) _ next e in key_read_sound r.key_for (record (draft phase.ElemRead v r) { path = [] }) (record { namespace = []; elems = r.path }) parts.1

      by : (b : Bool) → cond b (on_if (nat_lt (length r.path) most_elements) phase.KeyKind (draft phase.ElemRead v r)) (cond (is mark.Close p) (key_read (draft phase.ElemRead v r)) None) ≡ Some next → IsSound next
      by true e = if_on (nat_lt (length r.path) most_elements) phase.KeyKind (draft phase.ElemRead v r) e (λ few. path_room r.path sound few)
      by false e = closed (only_if (is mark.Close p) (key_read (draft phase.ElemRead v r)) next e).1
    step_sound given phase.ConditionRead v r sound e = either (is mark.And p) (draft phase.Condition v r) _ e (λ _. tt) (orders_sound (draft phase.ConditionRead v r))
    step_sound given phase.OrderBy v r sound e = if_on (is mark.By p) phase.Order (draft phase.OrderBy v r) e (λ _. tt)
    step_sound given phase.Order v r sound e =
        let d = draft phase.Order v r in
        given_some (name_in p) (order_named d) e refl (λ text e. just (record d { phase = phase.OrderRead; property = text }) e tt)
    step_sound given phase.OrderRead v r sound e =
        let d = draft phase.OrderRead v r in
        either (is mark.Asc p) (with_order d false) _ e (λ _. tt) (λ e. either (is mark.Desc p) (with_order d true) _ e (λ _. tt) (direction_sound (with_order d false)))
    step_sound given phase.DirectionRead v r sound e = direction_sound (draft phase.DirectionRead v r) e
    step_sound given phase.Limit v r sound e =
        let d = draft phase.Limit v r in
        given_some (count_in p) (limit_by d) e refl (λ n e. just (record d { phase = phase.LimitRead; limit = Some n }) e tt)
    step_sound given phase.LimitRead v r sound e =
        let d = draft phase.LimitRead v r in
        either (is mark.Comma p) (record d { phase = phase.PairedLimit }) _ e (λ _. tt) (λ e. either (is mark.Offset p) (record d { phase = phase.Offset }) _ e (λ _. tt) (end_sound d))
    step_sound given phase.PairedLimit v r sound e = given_some (count_in p) (paired_by (draft phase.PairedLimit v r)) e refl (λ n e. just _ e tt)
    step_sound given phase.Offset v r sound e = given_some (count_in p) (offset_by (draft phase.Offset v r)) e refl (λ n e. just _ e tt)
    step_sound given phase.Whole v r sound e = end_sound (draft phase.Whole v r) e
    step_sound given phase.Ended v r sound e = absurd sound

-- ---- and it has a completion

pub record CanEnd (given : Bindings) (d : Draft) : Type 0 where
  pub pieces : List Piece
  pub statement : Statement
  pub reads : read_pieces given d pieces ≡ Some statement

module _ (given : Bindings) where
  by_pieces : (d : Draft) (ps : List Piece) (st : Statement) → read_pieces given d ps ≡ Some st → CanEnd given d
  by_pieces d ps st reads = record { pieces = ps; statement = st; reads = reads }

  prepend : (d mid : Draft) (p : Piece) → step given d p ≡ Some mid → is mark.End p ≡ false → CanEnd given mid → CanEnd given d
  prepend d mid p e not_end can =
      by_pieces d (p ∷ can.pieces) can.statement
      (ap (λ o. stepped_to o p (λ n. read_pieces given n can.pieces)) e ∙ ap (λ q. cond q (Some (complete mid)) (read_pieces given mid can.pieces)) not_end ∙ can.reads)

  abbrev a_name : Piece
  a_name = name (codes "a")

  abbrev a_key : List Piece
  a_key = fixed mark.Key ∷ fixed mark.Open ∷ string (codes "a") ∷ fixed mark.Comma ∷ integer (pos 1) ∷ fixed mark.Close ∷ fixed mark.End ∷ []

  abbrev read_key : KeyFor → Shown → Open → Draft
  read_key purpose v r = key_read_for purpose (draft phase.ElemRead v (record r { path = [] })) (record { namespace = []; elems = r.path })

  after_key : (purpose : KeyFor) (v : Shown) (r : Open) → CanEnd given (read_key purpose v r)
  unfolding step
  after_key for.Operand v r = by_pieces _ (fixed mark.End ∷ []) _ refl
  after_key for.Listed v r = by_pieces _ (fixed mark.Close ∷ fixed mark.End ∷ []) _ refl
  after_key for.Ancestor v r = by_pieces _ (fixed mark.End ∷ []) _ refl

  closes : (v : Shown) (r : Open) → is_path r.path ≡ true → CanEnd given (draft phase.ElemRead v r)
  unfolding step
  closes v r lawful = prepend (draft phase.ElemRead v r) (read_key r.key_for v r) (fixed mark.Close) (ap (λ b. cond b (Some (read_key r.key_for v r)) None) lawful) refl (after_key r.key_for v r)

  ident_ends : (v : Shown) (r : Open) → Room r.path → is_name r.elem_kind ≡ true → CanEnd given (draft phase.KeyIdent v r)
  unfolding step
  ident_ends v r room lawful =
      prepend _ (draft phase.ElemRead v (record r { path = r.path ++ record { kind = r.elem_kind; ident = ident.Id 1 } ∷ []; elem_kind = [] })) (integer (pos 1)) refl refl
      (closes v (record r { path = r.path ++ record { kind = r.elem_kind; ident = ident.Id 1 } ∷ []; elem_kind = [] }) (path_more r.path (record { kind = r.elem_kind; ident = ident.Id 1 }) room (ap (λ b. b && true) lawful)))

  kind_ends : (v : Shown) (r : Open) → Room r.path → CanEnd given (draft phase.KeyKind v r)
  unfolding step
  kind_ends v r room =
      prepend _ (draft phase.KeyComma v (record r { elem_kind = codes "a" })) (string (codes "a")) refl refl
      (prepend _ (draft phase.KeyIdent v (record r { elem_kind = codes "a" })) (fixed mark.Comma) refl refl (ident_ends v (record r { elem_kind = codes "a" }) room refl))

  pub can_end : (x : Phase) (v : Shown) (r : Open) → Sound x r → CanEnd given (draft x v r)
  unfolding step
  can_end phase.Start v r sound = by_pieces _ (fixed mark.Select ∷ fixed mark.Star ∷ fixed mark.End ∷ []) _ refl
  can_end phase.What v r sound = by_pieces _ (fixed mark.Star ∷ fixed mark.End ∷ []) _ refl
  can_end phase.Selected v r sound = by_pieces _ (fixed mark.End ∷ []) _ refl
  can_end phase.NameRead v r sound = by_pieces _ (fixed mark.End ∷ []) _ refl
  can_end phase.NextName v r sound = by_pieces _ (a_name ∷ fixed mark.End ∷ []) _ refl
  can_end phase.From v r sound = by_pieces _ (a_name ∷ fixed mark.End ∷ []) _ refl
  can_end phase.KindRead v r sound = by_pieces _ (fixed mark.End ∷ []) _ refl
  can_end phase.Condition v r sound = by_pieces _ (a_name ∷ fixed mark.Equal ∷ integer (pos 1) ∷ fixed mark.End ∷ []) _ refl
  can_end phase.Compare v r sound = by_pieces _ (fixed mark.Equal ∷ integer (pos 1) ∷ fixed mark.End ∷ []) _ refl
  can_end phase.Operand v r sound = by_pieces _ (integer (pos 1) ∷ fixed mark.End ∷ []) _ refl
  can_end phase.ListOpen v r sound = by_pieces _ (fixed mark.Open ∷ integer (pos 1) ∷ fixed mark.Close ∷ fixed mark.End ∷ []) _ refl
  can_end phase.Listed v r sound = by_pieces _ (integer (pos 1) ∷ fixed mark.Close ∷ fixed mark.End ∷ []) _ refl
  can_end phase.ListedRead v r sound = by_pieces _ (fixed mark.Close ∷ fixed mark.End ∷ []) _ refl
  can_end phase.AncestorIs v r sound = by_pieces _ (fixed mark.Is ∷ a_key) _ refl
  can_end phase.AncestorKey v r sound = by_pieces _ a_key _ refl
  can_end phase.KeyOpen v r sound = prepend _ (draft phase.KeyKind v r) (fixed mark.Open) refl refl (kind_ends v r (subst Room (sym sound) (record { lawful = refl; few = omega arith })))
  can_end phase.KeyKind v r sound = kind_ends v r sound
  can_end phase.KeyComma v r sound = prepend _ (draft phase.KeyIdent v r) (fixed mark.Comma) refl refl (ident_ends v r sound.0 sound.1)
  can_end phase.KeyIdent v r sound = ident_ends v r sound.0 sound.1
  can_end phase.ElemRead v r sound = closes v r sound
  can_end phase.ConditionRead v r sound = by_pieces _ (fixed mark.End ∷ []) _ refl
  can_end phase.OrderBy v r sound = by_pieces _ (fixed mark.By ∷ a_name ∷ fixed mark.End ∷ []) _ refl
  can_end phase.Order v r sound = by_pieces _ (a_name ∷ fixed mark.End ∷ []) _ refl
  can_end phase.OrderRead v r sound = by_pieces _ (fixed mark.End ∷ []) _ refl
  can_end phase.DirectionRead v r sound = by_pieces _ (fixed mark.End ∷ []) _ refl
  can_end phase.Limit v r sound = by_pieces _ (integer (pos 0) ∷ fixed mark.End ∷ []) _ refl
  can_end phase.LimitRead v r sound = by_pieces _ (fixed mark.End ∷ []) _ refl
  can_end phase.PairedLimit v r sound = by_pieces _ (integer (pos 0) ∷ fixed mark.End ∷ []) _ refl
  can_end phase.Offset v r sound = by_pieces _ (integer (pos 0) ∷ fixed mark.End ∷ []) _ refl
  can_end phase.Whole v r sound = by_pieces _ (fixed mark.End ∷ []) _ refl
  can_end phase.Ended v r sound = absurd sound
