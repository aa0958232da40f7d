-- How the tokens of a sentence are read, part by part.
use Rattle.std.proofs.Common.{◌≡◌, ℕ, ◌+◌, ◌≤◌, Bool, true, false, cond, List, [], ◌∷◌, ◌++◌, length, Option, Some, None, refl, sym, ap}
use Rattle.std.proofs.Common.{◌∙◌, subst, arith, append_assoc, append-nil, length-append}
use Rattle.std.specs.Prelude.{option_map, option_and_then, nat_lt, nat_le, ◌&&◌}
use Rattle.std.specs.List.{list_all}
use Rattle.std.proofs.lemmas.Bool.{and_parts}
use borrow.Author.Tests.{leb-true, lt-ltb}
use Rattle.ds_base.specs.Limits.{most_elements}
use Rattle.ds_base.specs.Keys.{KeyParts, is_name, is_ident, is_elem, is_path}
use Rattle.ds_base.specs.declared.key.Ident.{Ident}
use Rattle.ds_base.specs.declared.key.Ident.TheVariants as ident
use Rattle.ds_base.specs.declared.key.Elem.{Elem}
use Rattle.ds_base.specs.declared.value.Value.{Value}
use Rattle.ds_base.specs.declared.column.Column.{Column}
use Rattle.ds_query.specs.declared.query.Op.{Op}
use Rattle.ds_query.specs.declared.query.Filter.{Filter}
use Rattle.ds_query.specs.declared.query.Select.{Select}
use Rattle.ds_gql.specs.declared.statement.Bindings.{Bindings}
use Rattle.ds_gql.specs.declared.statement.Statement.{Statement}
use Rattle.ds_gql.specs.declared.draft.Phase.{Phase}
use Rattle.ds_gql.specs.declared.draft.Phase.TheVariants as phase
use Rattle.ds_gql.specs.declared.draft.KeyFor.{KeyFor}
use Rattle.ds_gql.specs.declared.draft.Draft.{Draft}
use Rattle.ds_tokens.specs.declared.token.Mark.TheVariants as mark
use Rattle.ds_tokens.specs.Pieces.{Piece, fixed, is}
use Rattle.ds_gql.specs.Steps.{step, complete, key_read_for, elem_kind_by, ident_by, on_if}
use Rattle.ds_gql.specs.Sentences.{comma, others, elem_pieces, ident_piece}

-- ---- drafts by their phase, what they show in the end, and what is being read

pub record Shown : Type 0 where
  pub select : Select
  pub names : List (List ℕ)
  pub kind : Option (List ℕ)
  pub ancestor : Option KeyParts
  pub filters : List Filter
  pub orders : List Column
  pub offset : ℕ
  pub limit : Option ℕ

pub record Open : Type 0 where
  pub property : List ℕ
  pub op : Op
  pub values : List Value
  pub key_for : KeyFor
  pub path : List Elem
  pub elem_kind : List ℕ

abbrev pub draft : Phase → Shown → Open → Draft
draft p v r = record {
  phase = p;
  select = v.select;
  names = v.names;
  kind = v.kind;
  ancestor = v.ancestor;
  filters = v.filters;
  orders = v.orders;
  offset = v.offset;
  limit = v.limit;
  property = r.property;
  op = r.op;
  values = r.values;
  key_for = r.key_for;
  path = r.path;
  elem_kind = r.elem_kind;
}

-- ---- reading pieces, without their places

abbrev pub stepped_to : Option Draft → Piece → (Draft → Option Statement) → Option Statement
stepped_to None p others = None
stepped_to (Some next) p others = cond (is mark.End p) (Some (complete next)) (others next)

abbrev pub read_pieces : Bindings → Draft → List Piece → Option Statement
read_pieces given d [] = None
read_pieces given d (p ∷ ps) = stepped_to (step given d p) p (λ next. read_pieces given next ps)

-- the pieces lead from one draft to another, whatever follows
pub record Goes (given : Bindings) (d : Draft) (ps : List Piece) (next : Draft) : Type 0 where
  pub by : (rest : List Piece) → read_pieces given d (ps ++ rest) ≡ read_pieces given next rest

pub stay : {given : Bindings} {d : Draft} → Goes given d [] d
stay {given} {d} = record { by = λ rest. refl }

pub more : {given : Bindings} {d mid next : Draft} {p : Piece} {ps : List Piece} → step given d p ≡ Some mid → is mark.End p ≡ false → Goes given mid ps next → Goes given d (p ∷ ps) next
more {given} {d} {mid} {next} {p} {ps} e not_end goes = record {
  by = λ rest.
      ap (λ o. stepped_to o p (λ n. read_pieces given n (ps ++ rest))) e
      ∙ ap (λ q. cond q (Some (complete mid)) (read_pieces given mid (ps ++ rest))) not_end ∙ goes.by rest;
}

pub then : {given : Bindings} {d mid next : Draft} {a b : List Piece} → Goes given d a mid → Goes given mid b next → Goes given d (a ++ b) next
then {given} {d} {mid} {next} {a} {b} first second = record { by = λ rest. ap (read_pieces given d) (append_assoc a b rest) ∙ first.by (b ++ rest) ∙ second.by rest }

-- ---- options

pub chain_some : {A B : Type 0} (o : Option A) (f : A → Option B) (y : B) → option_and_then f o ≡ Some y → (x : A) × (o ≡ Some x) × (f x ≡ Some y)
chain_some None f y e = absurd (cc)
chain_some (Some x) f y e = (x, refl, e)

pub map_some : {A B : Type 0} (o : Option A) (f : A → B) (y : B) → option_map f o ≡ Some y → (x : A) × (o ≡ Some x) × (f x ≡ y)
map_some None f y e = absurd (cc)
map_some (Some x) f y e = (x, refl, cc)

pub only_if : {A : Type 0} (b : Bool) (o : Option A) (y : A) → cond b o None ≡ Some y → (b ≡ true) × (o ≡ Some y)
only_if true o y e = (refl, e)
only_if false o y e = absurd (cc)

-- ---- key literals

module _ {given : Bindings} (v : Shown) where
  -- one element, behind the parenthesis or a comma
  elem : (r : Open) (e : Elem) → is_elem e ≡ true → Goes given (draft phase.KeyKind v r) (elem_pieces e) (draft phase.ElemRead v (record r { path = r.path ++ e ∷ []; elem_kind = [] }))
  unfolding step
  elem r e lawful =
      let parts = and_parts (is_name e.kind) (is_ident e.ident) lawful in
      more (ap (λ b. elem_kind_by (draft phase.KeyKind v r) (cond b (Some e.kind) None)) parts.0) refl
      (more refl refl (by e.ident refl parts.1)) where
        by : (found : Ident) → e.ident ≡ found → is_ident e.ident ≡ true → Goes given (draft phase.KeyIdent v (record r { elem_kind = e.kind })) (ident_piece e.ident ∷ []) (draft phase.ElemRead v (record r { path = r.path ++ e ∷ []; elem_kind = [] }))
        by (ident.Id n) same ok =
            let d = draft phase.KeyIdent v (record r { elem_kind = e.kind }) in
            let lawful_id : is_ident (ident.Id n) ≡ true = sym (ap is_ident same) ∙ ok in
            let whole : e ≡ record { kind = e.kind; ident = ident.Id n } = ap (λ i. let f : Elem = record { kind = e.kind; ident = i } in f) same in
            subst (λ (i : Ident). Goes given d (ident_piece i ∷ []) (draft phase.ElemRead v (record r { path = r.path ++ record { kind = e.kind; ident = i } ∷ []; elem_kind = [] }))) (sym same)
            (more (ap (λ b. ident_by d (cond b (Some (ident.Id n)) None)) lawful_id) refl stay)
        by (ident.Name text) same ok =
            let d = draft phase.KeyIdent v (record r { elem_kind = e.kind }) in
            let lawful_name : is_name text ≡ true = sym (ap is_ident same) ∙ ok in
            subst (λ (i : Ident). Goes given d (ident_piece i ∷ []) (draft phase.ElemRead v (record r { path = r.path ++ record { kind = e.kind; ident = i } ∷ []; elem_kind = [] }))) (sym same)
            (more (ap (λ b. ident_by d (option_map ident.Name (cond b (Some text) None))) lawful_name) refl stay)

  -- further elements, each behind a comma
  further : (r : Open) (es : List Elem) → list_all is_elem es ≡ true → length (r.path ++ es) ≤ 100 → r.elem_kind ≡ [] → Goes given (draft phase.ElemRead v r) (others comma elem_pieces es) (draft phase.ElemRead v (record r { path = r.path ++ es; elem_kind = [] }))
  unfolding step
  further r [] lawful few none =
      subst (λ (r' : Open). Goes given (draft phase.ElemRead v r) [] (draft phase.ElemRead v r'))
      (ap (λ p. let s : Open = record r { path = p } in s) (sym (append-nil r.path)) ∙ ap (λ k. let s : Open = record r { path = r.path ++ []; elem_kind = k } in s) none) stay
  further r (e ∷ es) lawful few none =
      let parts = and_parts (is_elem e) (list_all is_elem es) lawful in
      let size : length (r.path ++ e ∷ es) ≡ length r.path + length (e ∷ es) = length-append r.path (e ∷ es) in
      let room : nat_lt (length r.path) most_elements ≡ true = lt-ltb (length r.path) 100 (omega (arith, few, size)) in
      let regroup : (r.path ++ e ∷ []) ++ es ≡ r.path ++ e ∷ es = append_assoc r.path (e ∷ []) es in
      more (ap (λ b. on_if b phase.KeyKind (draft phase.ElemRead v r)) room) refl
      (then (elem r e parts.0)
      (subst (λ (p : List Elem). Goes given (draft phase.ElemRead v (record r { path = r.path ++ e ∷ []; elem_kind = [] })) (others comma elem_pieces es) (draft phase.ElemRead v (record r { path = p; elem_kind = [] }))) regroup
      (further (record r { path = r.path ++ e ∷ []; elem_kind = [] }) es parts.1 (omega (arith, few, ap length regroup)) refl)))

  -- what follows KEY
  pub key_behind : (r : Open) (purpose : KeyFor) (e : Elem) (es : List Elem) → is_path (e ∷ es) ≡ true → Goes given (draft phase.KeyOpen v (record r { key_for = purpose; path = [] })) (fixed mark.Open ∷ (elem_pieces e ++ others comma elem_pieces es) ++ fixed mark.Close ∷ [])
      (key_read_for purpose (draft phase.ElemRead v (record r { key_for = purpose; path = []; elem_kind = [] })) (record { namespace = []; elems = e ∷ es }))
  unfolding step
  key_behind r purpose e es lawful =
      let parts = and_parts (nat_le 1 (length (e ∷ es)) && nat_le (length (e ∷ es)) most_elements) (list_all is_elem (e ∷ es)) lawful in
      let sizes = and_parts (nat_le 1 (length (e ∷ es))) (nat_le (length (e ∷ es)) most_elements) parts.0 in
      let elems = and_parts (is_elem e) (list_all is_elem es) parts.1 in
      let d = draft phase.ElemRead v (record r { key_for = purpose; path = e ∷ es; elem_kind = [] }) in
      more refl refl
      (then (then (elem (record r { key_for = purpose; path = [] }) e elems.0) (further (record r { key_for = purpose; path = e ∷ []; elem_kind = [] }) es elems.1 (leb-true _ _ sizes.1) refl))
      (more (ap (λ b. cond b (Some (key_read_for purpose (draft phase.ElemRead v (record r { key_for = purpose; path = []; elem_kind = [] })) (record { namespace = []; elems = e ∷ es }))) None) lawful) refl stay))
