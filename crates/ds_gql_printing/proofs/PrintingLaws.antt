-- What is printed of a statement is read as that statement.
use Rattle.std.proofs.Common.{◌≡◌, ℕ, ◌+◌, ◌-◌, Bool, true, false, cond, not, List, [], ◌∷◌, ◌++◌, length, map, Option, Some, None, Ok}
use Rattle.std.proofs.Common.{refl, sym, ap, ◌∙◌, subst, arith, append_assoc, append-nil, length-append, eqb-true}
use Rattle.std.specs.Prelude.{pos, nat_le, ◌&&◌, ◌==◌, option_map, option_and_then, codes, slice_get}
use Rattle.std.specs.List.{list_all}
use Rattle.std.proofs.lemmas.Bool.{and_parts}
use Rattle.std.proofs.lemmas.Bool.Decides.{nat_tests}
use Rattle.std.proofs.lemmas.Grind.{flat_map-append}
use Rattle.std.proofs.lemmas.List.Folds.{list_all-append}
use borrow.Author.Tests.{le-leb}
use Rattle.ds_base.specs.Limits.{most_results}
use Rattle.ds_base.specs.Keys.{KeyParts}
use Rattle.ds_base.specs.declared.value.Value.{Value}
use Rattle.ds_base.specs.declared.value.Value.TheVariants as value
use Rattle.ds_base.specs.declared.column.Column.{Column}
use Rattle.ds_query.specs.Filters.{enough_values, has_operands}
use Rattle.ds_query.specs.declared.query.Op.{Op}
use Rattle.ds_query.specs.declared.query.Op.TheVariants as op
use Rattle.ds_query.specs.declared.query.Filter.{Filter}
use Rattle.ds_query.specs.declared.query.Select.{Select}
use Rattle.ds_query.specs.declared.query.Select.TheVariants as select
use Rattle.ds_gql.specs.declared.statement.Bindings.{Bindings}
use Rattle.ds_gql.specs.declared.statement.Statement.{Statement}
use Rattle.ds_tokens.specs.declared.token.Mark.{Mark}
use Rattle.ds_tokens.specs.declared.token.Mark.TheVariants as mark
use Rattle.ds_tokens.specs.Pieces.{Piece, fixed, numbered}
use Rattle.ds_tokens.specs.Tokens.{tokens_of}
use Rattle.ds_gql.specs.Steps.{argument, compare_of, count_of, key_in}
use Rattle.ds_gql.specs.Statements.{statement_of}
use Rattle.ds_gql.specs.GqlLaws.{pieces_of}
use Rattle.ds_gql.specs.Sentences.{one, key, compare, none, limit, limit_offset, offset, Conditions}
use Rattle.ds_gql.specs.Sentences.{pieces, is_what, select_of, is_kind}
use Rattle.ds_gql.specs.Sentences.{operand_value, operand_values, with_condition, with_conditions, column_of, bounds_of, says}
use Rattle.ds_gql_printing.specs.Printing.{is_selection, is_short_kind, is_count, is_default, can_print, is_written_name, kind_names}
use Rattle.ds_gql_printing.specs.Printing.{selected_names}
use Rattle.ds_gql_printing.specs.Printing.{has_written_names, has_written_properties, has_written_orders, cited, all_cited, ancestor_values}
use Rattle.ds_gql_printing.specs.Printing.{filter_values, values_of, args_of, operand_of, operands_of, condition_by, conditions_of}
use Rattle.ds_gql_printing.specs.Printing.{all_conditions}
use Rattle.ds_gql_printing.specs.Printing.{what_of, order_of, limits_of, sentence_of, behind_space, spaced, text_of_pieces, text_of}
use Rattle.ds_gql_printing.specs.Printers.{AreTokens, is_lawful, statement_pieces}
use Rattle.ds_gql.proofs.SentenceLaws.{sentences_are_read}
use Rattle.ds_gql.proofs.Choices.{chosen, passed, both}
use Rattle.ds_gql.proofs.SaidStatements.{said_statement, said_by, pieces_end}
use Rattle.ds_gql_printing.proofs.TokenLaws.{mark_token, tokens_read}

-- ---- values

abbrev pub given_of : List Value → Bindings
given_of args = record { args = args; names = [] }

seam : (before : List Value) (v : Value) (after : List Value) → slice_get (before ++ v ∷ after) (length before) ≡ Some v
seam [] v after = refl
seam (x ∷ before) v after = seam before v after

argument_at : (before : List Value) (v : Value) (after : List Value) → argument (before ++ v ∷ after) (length before + 1) ≡ Some v
argument_at before v after =
    let some : (length before + 1 == 0) ≡ false = grind (arith, nat_tests) in
    let e : length before + 1 - 1 ≡ length before = omega arith in
    passed _ _ _ some ∙ ap (slice_get (before ++ v ∷ after)) e ∙ seam before v after

default_is : (namespace : List ℕ) → is_default namespace ≡ true → [] ≡ namespace
default_is [] e = refl
default_is (b ∷ bytes) e = absurd (cc)

value_said : (before : List Value) (v : Value) (after : List Value) → is_lawful v ≡ true → operand_value (given_of (before ++ (cited v ++ after))) (operand_of (length before) v) ≡ Some v
value_said before value.Null after lawful = refl
value_said before (value.Int i) after lawful = refl
value_said before (value.Date i) after lawful = argument_at before (value.Date i) after
value_said before (value.Rating n) after lawful = argument_at before (value.Rating n) after
value_said before (value.Bool true) after lawful = refl
value_said before (value.Bool false) after lawful = refl
value_said before (value.Bytes bytes) after lawful = argument_at before (value.Bytes bytes) after
value_said before (value.Str text) after lawful = refl
value_said before (value.Text text) after lawful = argument_at before (value.Text text) after
value_said before (value.Blob bytes) after lawful = argument_at before (value.Blob bytes) after
value_said before (value.Key k) after lawful = by (is_default k.namespace) refl where
  by : (plain : Bool) → is_default k.namespace ≡ plain
      → operand_value (given_of (before ++ (cond plain [] (value.Key k ∷ []) ++ after))) (cond plain (key k.elems) (one (numbered (length before + 1)))) ≡ Some (value.Key k)
  by true is =
      chosen _ _ _ lawful ∙ ap (λ (n : List ℕ). Some (value.Key (record { namespace = n; elems = k.elems }))) (default_is k.namespace is)
  by false is = argument_at before (value.Key k) after

module _ (args : List Value) where
  operand_said : (before after : List Value) (n : ℕ) (v : Value) → n ≡ length before → args ≡ before ++ (cited v ++ after) → is_lawful v ≡ true → operand_value (given_of args) (operand_of n v) ≡ Some v
  operand_said before after n v n_is args_is lawful =
      ap (λ (a : List Value). operand_value (given_of a) (operand_of n v)) args_is
      ∙ ap (λ m. operand_value (given_of (before ++ (cited v ++ after))) (operand_of m v)) n_is ∙ value_said before v after lawful

  operands_said : (before after : List Value) (n : ℕ) (vs : List Value) → n ≡ length before → args ≡ before ++ (all_cited vs ++ after) → list_all is_lawful vs ≡ true → operand_values (given_of args) (operands_of n vs) ≡ Some vs
  operands_said before after n [] n_is args_is lawful = refl
  operands_said before after n (v ∷ vs) n_is args_is lawful =
      let parts = and_parts (is_lawful v) (list_all is_lawful vs) lawful in
      let args_so : args ≡ before ++ (cited v ++ (all_cited vs ++ after)) = args_is ∙ ap (λ x. before ++ x) (append_assoc (cited v) (all_cited vs) after) in
      let here = operand_said before (all_cited vs ++ after) n v n_is args_so parts.0 in
      let there = operands_said (before ++ cited v) after (n + length (cited v)) vs (ap (λ m. m + length (cited v)) n_is ∙ sym (length-append before (cited v))) (args_so ∙ sym (append_assoc before (cited v) (all_cited vs ++ after))) parts.1 in
      ap (option_and_then (λ x. option_map (λ xs. x ∷ xs) (operand_values (given_of args) (operands_of (n + length (cited v)) vs)))) here
      ∙ ap (option_map (λ xs. v ∷ xs)) there

  -- ---- conditions

  abbrev filter_by : List ℕ → Op → List Value → Filter
  filter_by property found vs = record { property = property; op = found; values = vs }

  abbrev grown : Conditions → Filter → Conditions
  grown so_far f = (so_far.0 ++ f ∷ [], so_far.1)

  single : (vs : List Value) → (length vs == 1) ≡ true → (v : Value) × (vs ≡ v ∷ [])
  single [] e = absurd (cc)
  single (v ∷ []) e = (v, refl)
  single (v ∷ w ∷ vs) e = absurd (omega (arith, eqb-true (length (v ∷ w ∷ vs)) 1 e))

  module _ (before after : List Value) (n : ℕ) (n_is : n ≡ length before) (so_far : Conditions) (property : List ℕ) where
    compare_said : (found : Op) (sign : Mark) (v : Value) → compare_of sign ≡ Some found → args ≡ before ++ (all_cited (v ∷ []) ++ after) → list_all is_lawful (v ∷ []) ≡ true
        → with_condition (given_of args) so_far (compare property sign (operand_of n v)) ≡ Some (grown so_far (filter_by property found (v ∷ [])))
    compare_said found sign v is args_is lawful =
        let one_cited : all_cited (v ∷ []) ≡ cited v = append-nil (cited v) in
        let parts = and_parts (is_lawful v) true lawful in
        let here = operand_said before after n v n_is (args_is ∙ ap (λ x. before ++ (x ++ after)) one_cited) parts.0 in
        ap (option_and_then (λ f. option_map (λ x. grown so_far (filter_by property f (x ∷ []))) (operand_value (given_of args) (operand_of n v)))) is
        ∙ ap (option_map (λ x. grown so_far (filter_by property found (x ∷ [])))) here

    -- an operator with one value
    one_said : (found : Op) (vs : List Value) → ((v : Value) → args ≡ before ++ (all_cited (v ∷ []) ++ after) → list_all is_lawful (v ∷ []) ≡ true → with_condition (given_of args) so_far (condition_by property found (operands_of n (v ∷ []))) ≡ Some (grown so_far (filter_by property found (v ∷ []))))
        → (length vs == 1) ≡ true → args ≡ before ++ (all_cited vs ++ after) → list_all is_lawful vs ≡ true → with_condition (given_of args) so_far (condition_by property found (operands_of n vs)) ≡ Some (grown so_far (filter_by property found vs))
    one_said found vs said enough args_is lawful =
        let s = single vs enough in
        subst (λ (xs : List Value). with_condition (given_of args) so_far (condition_by property found (operands_of n xs)) ≡ Some (grown so_far (filter_by property found xs))) (sym s.1)
        (said s.0 (args_is ∙ ap (λ (xs : List Value). before ++ (all_cited xs ++ after)) s.1) (sym (ap (list_all is_lawful) s.1) ∙ lawful))

    filter_said : (found : Op) (vs : List Value) → enough_values found (length vs) ≡ true → args ≡ before ++ (all_cited vs ++ after) → list_all is_lawful vs ≡ true → with_condition (given_of args) so_far (condition_by property found (operands_of n vs)) ≡ Some (grown so_far (filter_by property found vs))
    filter_said op.OneOf [] enough args_is lawful = absurd (cc)
    filter_said op.OneOf (v ∷ vs) enough args_is lawful =
        ap (option_map (λ xs. grown so_far (filter_by property op.OneOf xs))) (operands_said before after n (v ∷ vs) n_is args_is lawful)
    filter_said op.Equal vs enough args_is lawful = one_said op.Equal vs (λ v. compare_said op.Equal mark.Equal v refl) enough args_is lawful
    filter_said op.Less vs enough args_is lawful = one_said op.Less vs (λ v. compare_said op.Less mark.Less v refl) enough args_is lawful
    filter_said op.LessEqual vs enough args_is lawful = one_said op.LessEqual vs (λ v. compare_said op.LessEqual mark.LessEqual v refl) enough args_is lawful
    filter_said op.Greater vs enough args_is lawful = one_said op.Greater vs (λ v. compare_said op.Greater mark.Greater v refl) enough args_is lawful
    filter_said op.GreaterEqual vs enough args_is lawful = one_said op.GreaterEqual vs (λ v. compare_said op.GreaterEqual mark.GreaterEqual v refl) enough args_is lawful
    filter_said op.NotEqual vs enough args_is lawful = one_said op.NotEqual vs (λ v. compare_said op.NotEqual mark.NotEqual v refl) enough args_is lawful

  filters_said : (before after : List Value) (n : ℕ) (so_far : Conditions) (filters : List Filter) → n ≡ length before → args ≡ before ++ (all_cited (filter_values filters) ++ after) → list_all has_operands filters ≡ true → list_all is_lawful (filter_values filters) ≡ true
      → with_conditions (given_of args) so_far (conditions_of n filters) ≡ Some (so_far.0 ++ filters, so_far.1)
  filters_said before after n so_far [] n_is args_is enough lawful = ap (λ (fs : List Filter). Some (fs, so_far.1)) (sym (append-nil so_far.0))
  filters_said before after n so_far (f ∷ fs) n_is args_is enough lawful =
      let parts = and_parts (has_operands f) (list_all has_operands fs) enough in
      let laws = and_parts (list_all is_lawful f.values) (list_all is_lawful (filter_values fs)) (sym (list_all-append is_lawful f.values (filter_values fs)) ∙ lawful) in
      let args_so : args ≡ before ++ (all_cited f.values ++ (all_cited (filter_values fs) ++ after)) =
      args_is ∙ ap (λ x. before ++ (x ++ after)) (flat_map-append cited f.values (filter_values fs)) ∙ ap (λ x. before ++ x) (append_assoc (all_cited f.values) (all_cited (filter_values fs)) after) in
      let here = filter_said before (all_cited (filter_values fs) ++ after) n n_is so_far f.property f.op f.values parts.0 args_so laws.0 in
      let there = filters_said (before ++ all_cited f.values) after (n + length (all_cited f.values)) (grown so_far f) fs (ap (λ m. m + length (all_cited f.values)) n_is ∙ sym (length-append before (all_cited f.values))) (args_so ∙ sym (append_assoc before (all_cited f.values) (all_cited (filter_values fs) ++ after))) parts.1 laws.1 in
      ap (option_and_then (λ next. with_conditions (given_of args) next (conditions_of (n + length (all_cited f.values)) fs))) here
      ∙ there ∙ ap (λ (gs : List Filter). Some (gs, so_far.1)) (append_assoc so_far.0 (f ∷ []) fs)

conditions_said : (ancestor : Option KeyParts) (filters : List Filter) → list_all has_operands filters ≡ true → list_all is_lawful (ancestor_values ancestor ++ filter_values filters) ≡ true
    → with_conditions (given_of (all_cited (ancestor_values ancestor ++ filter_values filters))) ([], None) (all_conditions 0 ancestor filters) ≡ Some (filters, ancestor)
conditions_said None filters enough lawful =
    filters_said (all_cited (filter_values filters)) [] [] 0 ([], None) filters refl (sym (append-nil (all_cited (filter_values filters)))) enough lawful
conditions_said (Some k) filters enough lawful =
    let args = all_cited (value.Key k ∷ filter_values filters) in
    let parts = and_parts (is_lawful (value.Key k)) (list_all is_lawful (filter_values filters)) lawful in
    let count : 0 + length (cited (value.Key k)) ≡ length (cited (value.Key k)) = omega arith in
    let here = operand_said args [] (all_cited (filter_values filters)) 0 (value.Key k) refl refl parts.0 in
    ap (λ o. option_and_then (λ next. with_conditions (given_of args) next (conditions_of (0 + length (cited (value.Key k))) filters)) (option_and_then (λ (j : KeyParts). Some ([], Some j)) (option_and_then key_in o))) here
    ∙ filters_said args (cited (value.Key k)) [] (0 + length (cited (value.Key k))) ([], Some k) filters count (ap (λ x. cited (value.Key k) ++ x) (sym (append-nil (all_cited (filter_values filters))))) enough parts.1

-- ---- the other parts

what_said : (selection : Select) → is_selection selection ≡ true → (is_what (what_of selection) ≡ true) × (select_of (what_of selection) ≡ selection)
what_said select.Entities lawful = (refl, refl)
what_said select.Keys lawful = (refl, refl)
what_said (select.Projection []) lawful = absurd (cc)
what_said (select.Projection (n ∷ ns)) lawful = (lawful, refl)

kind_said : (kind : Option (List ℕ)) → is_short_kind kind ≡ true → list_all is_written_name (kind_names kind) ≡ true → is_kind kind ≡ true
kind_said None short lawful = refl
kind_said (Some []) short lawful = absurd (cc)
kind_said (Some (b ∷ bytes)) short lawful = both _ _ (le-leb 1 (length (b ∷ bytes)) (omega arith)) short

orders_said : (orders : List Column) → map column_of (map order_of orders) ≡ orders
orders_said [] = refl
orders_said (c ∷ cs) = ap (λ ds. c ∷ ds) (orders_said cs)

count_said : (n : ℕ) → nat_le n most_results ≡ true → count_of (pos n) ≡ Some n
count_said n few = chosen _ _ _ few

limits_said : (most : Option ℕ) (m : ℕ) → is_count most ≡ true → nat_le m most_results ≡ true → bounds_of (limits_of most m) ≡ Some (m, most)
limits_said None m few some = by (m == 0) refl where
  by : (zero : Bool) → (m == 0) ≡ zero → bounds_of (cond zero none (offset m)) ≡ Some (m, None)
  by true is = ap (λ k. Some (k, None)) (sym (eqb-true m 0 is))
  by false is = ap (option_map (λ e. (e, None))) (count_said m some)
limits_said (Some n) m few some = by (m == 0) refl where
  by : (zero : Bool) → (m == 0) ≡ zero → bounds_of (cond zero (limit n) (limit_offset n m)) ≡ Some (m, Some n)
  by true is = ap (option_map (λ (c : ℕ). (0, Some c))) (count_said n few) ∙ ap (λ k. Some (k, Some n)) (sym (eqb-true m 0 is))
  by false is =
      ap (option_and_then (λ c. option_map (λ e. (e, Some c)) (count_of (pos m)))) (count_said n few)
      ∙ ap (option_map (λ e. (e, Some n))) (count_said m some)

-- ---- the whole

not_true : (b : Bool) → not b ≡ true → false ≡ b
not_true true e = absurd (cc)
not_true false e = refl

module _ (st : Statement) (able : can_print st ≡ true) (named : has_written_names st ≡ true) (lawful : list_all is_lawful (values_of st) ≡ true) where
  said : says (given_of (args_of st)) (sentence_of st) ≡ Some st
  said =
      let q = st.query in
      let a6 = and_parts (not q.cursors && is_default q.namespace && is_short_kind q.kind && list_all has_operands q.filters && is_selection q.select && nat_le st.offset most_results) (is_count st.limit) able in
      let a5 = and_parts (not q.cursors && is_default q.namespace && is_short_kind q.kind && list_all has_operands q.filters && is_selection q.select) (nat_le st.offset most_results) a6.0 in
      let a4 = and_parts (not q.cursors && is_default q.namespace && is_short_kind q.kind && list_all has_operands q.filters) (is_selection q.select) a5.0 in
      let a3 = and_parts (not q.cursors && is_default q.namespace && is_short_kind q.kind) (list_all has_operands q.filters) a4.0 in
      let a2 = and_parts (not q.cursors && is_default q.namespace) (is_short_kind q.kind) a3.0 in
      let a1 = and_parts (not q.cursors) (is_default q.namespace) a2.0 in
      let n3 = and_parts (list_all is_written_name (selected_names q.select) && list_all is_written_name (kind_names q.kind) && has_written_properties q.filters) (has_written_orders q.orders) named in
      let n2 = and_parts (list_all is_written_name (selected_names q.select) && list_all is_written_name (kind_names q.kind)) (has_written_properties q.filters) n3.0 in
      let n1 = and_parts (list_all is_written_name (selected_names q.select)) (list_all is_written_name (kind_names q.kind)) n2.0 in
      let w = what_said q.select a4.1 in
      let ns : [] ≡ q.namespace = default_is q.namespace a1.1 in
      let cs : false ≡ q.cursors = not_true q.cursors a1.0 in
      let os = orders_said q.orders in
      said_by _ _ _ (said_statement (sentence_of st)) (q.filters, q.ancestor) (st.offset, st.limit)
      (both _ _ w.0 (kind_said q.kind a2.1 n1.1)) (conditions_said q.ancestor q.filters a3.1 lawful) (limits_said st.limit st.offset a6.1 a5.1)
      ∙ (λ i. Some (let t : Statement = record {
        query = record {
          namespace = ns i;
          kind = q.kind;
          ancestor = q.ancestor;
          filters = q.filters;
          orders = os i;
          select = w.1 i;
          cursors = cs i;
        };
        offset = st.offset;
        limit = st.limit;
      } in t))

spaced_end : (ps : List Piece) → spaced (ps ++ fixed mark.End ∷ []) ≡ spaced ps
spaced_end ps = flat_map-append behind_space ps (fixed mark.End ∷ []) ∙ append-nil (spaced ps)

-- the text is SELECT and what was put behind it
pub text_is : (st : Statement) → text_of st ≡ codes "SELECT" ++ spaced (statement_pieces st)
unfolding text_of
text_is st = ap text_of_pieces (pieces_end (sentence_of st)) ∙ ap (λ t. codes "SELECT" ++ t) (spaced_end (statement_pieces st))

pub printed_is_read : (st : Statement) → can_print st ≡ true → has_written_names st ≡ true → list_all is_lawful (values_of st) ≡ true → AreTokens (statement_pieces st) → statement_of (text_of st) (given_of (args_of st)) ≡ Ok st
unfolding tokens_of
printed_is_read st able named lawful tokens =
    let spelled : pieces_of (tokens_of (text_of st)) ≡ pieces (sentence_of st) =
    ap (λ t. pieces_of (tokens_of t)) (text_is st)
    ∙ tokens_read (fixed mark.Select) (statement_pieces st) 0 (mark_token mark.Select refl) tokens ∙ sym (pieces_end (sentence_of st)) in
    sentences_are_read (given_of (args_of st)) (text_of st) st (record { sentence = sentence_of st; spelled = spelled; said = said st able named lawful })
