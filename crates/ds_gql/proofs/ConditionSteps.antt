-- How the tokens of a condition are read.
use Rattle.std.proofs.Common.{◌≡◌, ℕ, Bool, true, false, cond, List, [], ◌∷◌, ◌++◌, Some, None, refl, sym, ap, ◌∙◌, subst, append_assoc}
use Rattle.std.proofs.Common.{append-nil}
use Rattle.std.specs.Prelude.{option_map, option_and_then}
use Rattle.ds_base.specs.Keys.{KeyParts, is_path}
use Rattle.ds_base.specs.declared.key.Elem.{Elem}
use Rattle.ds_base.specs.declared.value.Value.{Value}
use Rattle.ds_base.specs.declared.value.Value.TheVariants as value
use Rattle.ds_query.specs.declared.query.Op.{Op}
use Rattle.ds_query.specs.declared.query.Op.TheVariants as op
use Rattle.ds_query.specs.declared.query.Filter.{Filter}
use Rattle.ds_gql.specs.declared.statement.Bindings.{Bindings}
use Rattle.ds_gql.specs.declared.draft.Phase.TheVariants as phase
use Rattle.ds_gql.specs.declared.draft.KeyFor.TheVariants as for
use Rattle.ds_tokens.specs.declared.token.Mark.{Mark}
use Rattle.ds_tokens.specs.declared.token.Mark.TheVariants as mark
use Rattle.ds_tokens.specs.Pieces.{Piece, fixed, name, integer, string, numbered, named, strange, is}
use Rattle.ds_gql.specs.Steps.{step, value_of, constant_of, key_in, compare_of, key_begins, operand_by, listed_by, ancestor_by, on_if}
use Rattle.ds_gql.specs.Steps.{compare_by, no_ancestor}
use Rattle.ds_gql.specs.Sentences.{Operand, one, key, Condition, compare, among, under, Conditions, comma, others, operand_pieces}
use Rattle.ds_gql.specs.Sentences.{condition_pieces, operand_value, operand_values, with_condition, with_conditions}
use Rattle.ds_gql.proofs.SentenceSteps.{Shown, Open, draft, Goes, stay, more, then, chain_some, map_some, only_if, key_behind}

-- ---- tokens that are values or operators are no others

value_is_no : (given : Bindings) (p : Piece) (x : Value) → value_of given p ≡ Some x → (is mark.End p ≡ false) × (is mark.Key p ≡ false)
value_is_no given (fixed m) x e = by m e where
  by : (m : Mark) → constant_of m ≡ Some x → (is mark.End (fixed m) ≡ false) × (is mark.Key (fixed m) ≡ false)
  by mark.End e = absurd (cc)
  by mark.Key e = absurd (cc)
  by _ e = (refl, refl)
value_is_no given (name t) x e = (refl, refl)
value_is_no given (integer n) x e = (refl, refl)
value_is_no given (string t) x e = (refl, refl)
value_is_no given (numbered n) x e = (refl, refl)
value_is_no given (named t) x e = (refl, refl)
value_is_no given strange x e = (refl, refl)

operator_is_no : (m : Mark) (found : Op) → compare_of m ≡ Some found → (is mark.End (fixed m) ≡ false) × (is mark.In (fixed m) ≡ false)
operator_is_no mark.End found e = absurd (cc)
operator_is_no mark.In found e = absurd (cc)
operator_is_no _ found e = (refl, refl)

key_of : List Elem → KeyParts
key_of path = record { namespace = []; elems = path }

-- ---- operands

-- what values of a list add to the open ones
pub record Listed (r s : Open) (xs : List Value) : Type 0 where
  pub values : s.values ≡ r.values ++ xs
  pub property : s.property ≡ r.property
  pub op : s.op ≡ r.op

abbrev filter_with : List ℕ → Op → List Value → Filter
filter_with property found values = record { property = property; op = found; values = values }

filter_same : {p q : List ℕ} {o u : Op} {xs ys : List Value} → p ≡ q → o ≡ u → xs ≡ ys → filter_with p o xs ≡ filter_with q u ys
filter_same pq ou xy = λ i. filter_with (pq i) (ou i) (xy i)

module _ {given : Bindings} (v : Shown) where
  -- the one value of a condition
  pub operand_goes : (r : Open) (o : Operand) (x : Value) → operand_value given o ≡ Some x
      → (s : Open) × Goes given (draft phase.Operand v r) (operand_pieces o) (draft phase.ConditionRead (record v { filters = v.filters ++ record { property = r.property; op = r.op; values = x ∷ [] } ∷ [] }) s)
  unfolding step
  operand_goes r (one p) x e =
      let others = value_is_no given p x e in
      let d = draft phase.Operand v r in
      (record r { property = []; values = [] }, more (ap (λ b. cond b (key_begins for.Operand d) (operand_by d (value_of given p))) others.1 ∙ ap (operand_by d) e) others.0 stay)
  operand_goes r (key []) x e = absurd (cc)
  operand_goes r (key (f ∷ fs)) x e =
      let parts = only_if (is_path (f ∷ fs)) (Some (value.Key (record { namespace = []; elems = f ∷ fs }))) x e in
      let same : value.Key (record { namespace = []; elems = f ∷ fs }) ≡ x = cc in
      let s : Open = record r { property = []; values = []; key_for = for.Operand; path = []; elem_kind = [] } in (
        s,
        subst (λ (y : Value). Goes given (draft phase.Operand v r) (operand_pieces (key (f ∷ fs))) (draft phase.ConditionRead (record v { filters = v.filters ++ record { property = r.property; op = r.op; values = y ∷ [] } ∷ [] }) s)) same
            (more refl refl (key_behind v r for.Operand f fs parts.0)),
      )

  listed_goes : (r : Open) (o : Operand) (x : Value) → operand_value given o ≡ Some x → (s : Open) × Goes given (draft phase.Listed v r) (operand_pieces o) (draft phase.ListedRead v s) × Listed r s (x ∷ [])
  unfolding step
  listed_goes r (one p) x e =
      let others = value_is_no given p x e in
      let d = draft phase.Listed v r in
      (record r { values = r.values ++ x ∷ [] }, more (ap (λ b. cond b (key_begins for.Listed d) (listed_by d (value_of given p))) others.1 ∙ ap (listed_by d) e) others.0 stay, record { values = refl; property = refl; op = refl })
  listed_goes r (key []) x e = absurd (cc)
  listed_goes r (key (f ∷ fs)) x e =
      let parts = only_if (is_path (f ∷ fs)) (Some (value.Key (record { namespace = []; elems = f ∷ fs }))) x e in
      let same : value.Key (record { namespace = []; elems = f ∷ fs }) ≡ x = cc in
      let s : Open = record r { key_for = for.Listed; path = []; elem_kind = []; values = r.values ++ value.Key (record { namespace = []; elems = f ∷ fs }) ∷ [] } in
      (s, more refl refl (key_behind v r for.Listed f fs parts.0), record { values = ap (λ y. r.values ++ y ∷ []) same; property = refl; op = refl })

  further_listed : (r : Open) (os : List Operand) (xs : List Value) → operand_values given os ≡ Some xs → (s : Open) × Goes given (draft phase.ListedRead v r) (others comma operand_pieces os) (draft phase.ListedRead v s) × Listed r s xs
  unfolding step
  further_listed r [] xs e = let same : [] ≡ xs = cc in (r, stay, record { values = sym (append-nil r.values) ∙ ap (λ ys. r.values ++ ys) same; property = refl; op = refl })
  further_listed r (o ∷ os) xs e =
      let first = chain_some (operand_value given o) (λ y. option_map (λ vs. y ∷ vs) (operand_values given os)) xs e in
      let rest = map_some (operand_values given os) (λ vs. first.0 ∷ vs) xs first.2 in
      let here = listed_goes r o first.0 first.1 in
      let there = further_listed here.0 os rest.0 rest.1 in (
        there.0,
        more refl refl (then here.1 there.1),
        record {
          values = there.2.values ∙ ap (λ vs. vs ++ rest.0) here.2.values ∙ append_assoc r.values (first.0 ∷ []) rest.0 ∙ ap (λ vs. r.values ++ vs) rest.2;
          property = there.2.property ∙ here.2.property;
          op = there.2.op ∙ here.2.op;
        },
      )

  ancestor_goes : (r : Open) (o : Operand) (k : KeyParts) → option_and_then key_in (operand_value given o) ≡ Some k → (s : Open) × Goes given (draft phase.AncestorKey v r) (operand_pieces o) (draft phase.ConditionRead (record v { ancestor = Some k }) s)
  unfolding step
  ancestor_goes r (one p) k e =
      let found = chain_some (value_of given p) key_in k e in
      let others = value_is_no given p found.0 found.1 in
      let d = draft phase.AncestorKey v r in
      (r, more (ap (λ b. cond b (key_begins for.Ancestor d) (ancestor_by d (option_and_then key_in (value_of given p)))) others.1 ∙ ap (ancestor_by d) e) others.0 stay)
  ancestor_goes r (key []) k e = absurd (cc)
  ancestor_goes r (key (f ∷ fs)) k e = by (is_path (f ∷ fs)) refl e where
    s : Open
    s = record r { key_for = for.Ancestor; path = []; elem_kind = [] }

    by : (lawful : Bool) → is_path (f ∷ fs) ≡ lawful → option_and_then key_in (cond lawful (Some (value.Key (record { namespace = []; elems = f ∷ fs }))) None) ≡ Some k
        → (s : Open) × Goes given (draft phase.AncestorKey v r) (operand_pieces (key (f ∷ fs))) (draft phase.ConditionRead (record v { ancestor = Some k }) s)
    by false is e = absurd (cc)
    by true is e =
        let same : record { namespace = []; elems = f ∷ fs } ≡ k = cc in
        (s, subst (λ (l : KeyParts). Goes given (draft phase.AncestorKey v r) (operand_pieces (key (f ∷ fs))) (draft phase.ConditionRead (record v { ancestor = Some l }) s)) same (more refl refl (key_behind v r for.Ancestor f fs is)))

-- ---- conditions

abbrev pub with_found : Shown → Conditions → Shown
with_found v found = record v { filters = found.0; ancestor = found.1 }

module _ {given : Bindings} where
  condition_goes : (v : Shown) (r : Open) (c : Condition) (next : Conditions) → with_condition given (v.filters, v.ancestor) c ≡ Some next → (s : Open) × Goes given (draft phase.Condition v r) (condition_pieces c) (draft phase.ConditionRead (with_found v next) s)
  unfolding step
  condition_goes v r (compare property sign o) next e =
      let found = chain_some (compare_of sign) (λ f. option_map (λ x. (v.filters ++ record { property = property; op = f; values = x ∷ [] } ∷ [], v.ancestor)) (operand_value given o)) next e in
      let valued = map_some (operand_value given o) (λ x. (v.filters ++ record { property = property; op = found.0; values = x ∷ [] } ∷ [], v.ancestor)) next found.2 in
      let others = operator_is_no sign found.0 found.1 in
      let d = draft phase.Compare v (record r { property = property }) in
      let o_goes = operand_goes v (record r { property = property; op = found.0 }) o valued.0 valued.1 in (
        o_goes.0,
        subst (λ (n : Conditions). Goes given (draft phase.Condition v r) (condition_pieces (compare property sign o)) (draft phase.ConditionRead (with_found v n) o_goes.0)) valued.2
            (more refl refl
            (more (ap (λ b. cond b (Some (draft phase.ListOpen v (record r { property = property; op = op.OneOf; values = [] }))) (compare_by d (compare_of sign))) others.1 ∙ ap (compare_by d) found.1) others.0 o_goes.1)),
      )
  condition_goes v r (among property first rest) next e =
      let valued = map_some (operand_values given (first ∷ rest)) (λ xs. (v.filters ++ record { property = property; op = op.OneOf; values = xs } ∷ [], v.ancestor)) next e in
      let x = chain_some (operand_value given first) (λ y. option_map (λ vs. y ∷ vs) (operand_values given rest)) valued.0 valued.1 in
      let xs = map_some (operand_values given rest) (λ vs. x.0 ∷ vs) valued.0 x.2 in
      let here = listed_goes v (record r { property = property; op = op.OneOf; values = [] }) first x.0 x.1 in
      let there = further_listed v here.0 rest xs.0 xs.1 in
      let s = there.0 in
      let filter_is : filter_with s.property s.op s.values ≡ filter_with property op.OneOf valued.0 =
      filter_same (there.2.property ∙ here.2.property) (there.2.op ∙ here.2.op) (there.2.values ∙ ap (λ vs. vs ++ xs.0) here.2.values ∙ xs.2) in (
        record s { property = []; values = [] },
        subst (λ (n : Conditions). Goes given (draft phase.Condition v r) (condition_pieces (among property first rest)) (draft phase.ConditionRead (with_found v n) (record s { property = []; values = [] }))) (ap (λ (f : Filter). (v.filters ++ f ∷ [], v.ancestor)) filter_is ∙ valued.2)
            (more refl refl (more refl refl (more refl refl (then here.1 (then there.1 (more refl refl stay)))))),
      )
  condition_goes v r (under o) next e =
      let found = chain_some (option_and_then key_in (operand_value given o)) (λ k. cond (no_ancestor v.ancestor) (Some (v.filters, Some k)) None) next e in
      let parts = only_if (no_ancestor v.ancestor) (Some (v.filters, Some found.0)) next found.2 in
      let same : (v.filters, Some found.0) ≡ next = cc in
      let goes = ancestor_goes v r o found.0 found.1 in (
        goes.0,
        subst (λ (n : Conditions). Goes given (draft phase.Condition v r) (condition_pieces (under o)) (draft phase.ConditionRead (with_found v n) goes.0)) same
            (more (ap (λ b. on_if b phase.AncestorIs (draft phase.Condition v r)) parts.0) refl (more refl refl goes.1)),
      )

  pub further_conditions : (v : Shown) (r : Open) (cs : List Condition) (next : Conditions) → with_conditions given (v.filters, v.ancestor) cs ≡ Some next → (s : Open) × Goes given (draft phase.ConditionRead v r) (others (fixed mark.And) condition_pieces cs) (draft phase.ConditionRead (with_found v next) s)
  unfolding step
  further_conditions v r [] next e =
      let same : (v.filters, v.ancestor) ≡ next = cc in
      (r, subst (λ (n : Conditions). Goes given (draft phase.ConditionRead v r) [] (draft phase.ConditionRead (with_found v n) r)) same stay)
  further_conditions v r (c ∷ cs) next e =
      let mid = chain_some (with_condition given (v.filters, v.ancestor) c) (λ n. with_conditions given n cs) next e in
      let here = condition_goes v r c mid.0 mid.1 in
      let there = further_conditions (with_found v mid.0) here.0 cs next mid.2 in
      (there.0, more refl refl (then here.1 there.1))

  pub first_conditions : (v : Shown) (r : Open) (c : Condition) (cs : List Condition) (next : Conditions) → with_conditions given (v.filters, v.ancestor) (c ∷ cs) ≡ Some next → (s : Open) × Goes given (draft phase.Condition v r) (condition_pieces c ++ others (fixed mark.And) condition_pieces cs) (draft phase.ConditionRead (with_found v next) s)
  first_conditions v r c cs next e =
      let mid = chain_some (with_condition given (v.filters, v.ancestor) c) (λ n. with_conditions given n cs) next e in
      let here = condition_goes v r c mid.0 mid.1 in
      let there = further_conditions (with_found v mid.0) here.0 cs next mid.2 in
      (there.0, then here.1 there.1)
