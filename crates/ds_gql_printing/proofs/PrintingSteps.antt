-- How what is printed grows, token by token.
use Rattle.std.proofs.Common.{◌≡◌, ℕ, ◌+◌, ◌-◌, ◌<◌, ◌≤◌, ◌^◌, zero, suc, Bool, true, false, cond, not, List, [], ◌∷◌, ◌++◌, Some, length}
use Rattle.std.proofs.Common.{take, drop, get_or, refl, sym, ap, ◌∙◌, subst, arith, append_assoc, append-nil, length-append}
use Rattle.std.specs.Prelude.{◌&&◌, decimal}
use Rattle.std.specs.String.{string_bytes}
use Rattle.std.specs.List.{list_all, before_first, after_first, position_or_len}
use Rattle.std.proofs.lemmas.Bool.{and_parts}
use Rattle.std.proofs.lemmas.Grind.{flat_map-append}
use Rattle.std.proofs.lemmas.List.{drop_all}
use Rattle.std.proofs.lemmas.List.Folds.{list_all-append}
use Rattle.ds_base.specs.declared.value.Value.{Value}
use Rattle.ds_base.specs.declared.value.Value.TheVariants as value
use Rattle.ds_base.specs.Keys.{KeyParts}
use Rattle.ds_query.specs.Filters.{enough_values, has_operands}
use Rattle.ds_query.specs.declared.query.Filter.{Filter}
use Rattle.ds_query.specs.declared.query.Op.{Op}
use Rattle.ds_query.specs.declared.query.Op.TheVariants as op
use Rattle.ds_gql_printing.specs.declared.printer.Printer.{Printer}
use Rattle.ds_tokens.specs.declared.token.Mark.TheVariants as mark
use Rattle.ds_tokens.specs.Pieces.{Piece, fixed, name, numbered, is}
use Rattle.ds_tokens.specs.Tokens.{is_quote}
use Rattle.ds_gql.specs.Sentences.{Operand, comma, others, led_by, operand_pieces, condition_pieces}
use Rattle.ds_gql_printing.specs.Printing.{written, behind_space, spaced, has_literal, cited, all_cited, filter_values, ancestor_values}
use Rattle.ds_gql_printing.specs.Printing.{sign_of}
use Rattle.ds_gql_printing.specs.Printing.{key_operand, operand_of, operands_of, condition_by, condition_of, conditions_of, all_conditions}
use Rattle.ds_gql_printing.specs.Printing.{doubled}
use Rattle.ds_gql_printing.specs.Printers.{IsToken, AreTokens, is_lawful, PutsText, Cites, Puts, operator_pieces}
use Rattle.ds_gql.proofs.Choices.{passed}
use Rattle.ds_gql.proofs.IndexLemmas.{drop_at}
use Rattle.ds_gql_printing.proofs.TokenLaws.{numbered_token}

-- ---- one behind another

tokens_joined : (ps qs : List Piece) → AreTokens ps → AreTokens qs → AreTokens (ps ++ qs)
tokens_joined [] qs one two = two
tokens_joined (p ∷ ps) qs one two = (one.0, tokens_joined ps qs one.1 two)

module _ (s t u : Printer) where
  -- one text behind another
  pub appends_joined : (a b : List ℕ) → PutsText a s t → PutsText b t u → PutsText (a ++ b) s u
  appends_joined a b one two ok =
      let second = two ok in
      let first = one second.0 in
      (first.0, second.1 ∙ ap (λ x. x ++ b) first.1 ∙ append_assoc (string_bytes s.text) a b, second.2 ∙ first.2)

  -- tokens behind others, whose bindings go on
  pub puts_joined : (ps : List Piece) (xs : List Value) (f : List Value → List Piece) (ys : List Value) → Puts ps xs s t → Puts (f t.args) ys t u → Puts (ps ++ f (s.args ++ all_cited xs)) (xs ++ ys) s u
  puts_joined ps xs f ys one two ok =
      let second = two ok in
      let first = one second.0 in
      let same : f t.args ≡ f (s.args ++ all_cited xs) = ap f first.2 in (
        first.0,
        second.1 ∙ ap (λ x. x ++ spaced (f t.args)) first.1 ∙ append_assoc (string_bytes s.text) (spaced ps) (spaced (f t.args))
            ∙ ap (λ x. string_bytes s.text ++ x) (sym (flat_map-append behind_space ps (f t.args)))
            ∙ ap (λ (x : List Piece). string_bytes s.text ++ spaced (ps ++ x)) same,
        second.2 ∙ ap (λ x. x ++ all_cited ys) first.2 ∙ append_assoc s.args (all_cited xs) (all_cited ys) ∙ ap (λ x. s.args ++ x) (sym (flat_map-append cited xs ys)),
        tokens_joined ps (f (s.args ++ all_cited xs)) first.3 (subst AreTokens same second.3),
        list_all-append is_lawful xs ys ∙ ap (λ b. b && list_all is_lawful ys) first.4 ∙ second.4,
      )

  -- tokens that cite nothing, and others behind them
  pub puts_behind : (ps : List Piece) (f : List Value → List Piece) (ys : List Value) → Puts ps [] s t → Puts (f t.args) ys t u → Puts (ps ++ f s.args) ys s u
  puts_behind ps f ys one two = subst (λ (x : List Value). Puts (ps ++ f x) ys s u) (append-nil s.args) (puts_joined ps [] f ys one two)

  -- tokens, and others that cite nothing
  pub puts_before : (ps qs : List Piece) (xs : List Value) → Puts ps xs s t → Puts qs [] t u → Puts (ps ++ qs) xs s u
  puts_before ps qs xs one two = subst (λ (x : List Value). Puts (ps ++ qs) x s u) (append-nil xs) (puts_joined ps xs (λ _. qs) [] one two)

  -- tokens behind others; neither cites anything
  pub puts_both : (ps qs : List Piece) → Puts ps [] s t → Puts qs [] t u → Puts (ps ++ qs) [] s u
  puts_both ps qs one two = puts_joined ps [] (λ _. qs) [] one two

pub puts_nothing : (s : Printer) → Puts [] [] s s
puts_nothing s ok = (ok, sym (append-nil (string_bytes s.text)), sym (append-nil s.args), tt, refl)

-- ---- single tokens

pub puts_token : (s u : Printer) (p : Piece) (text : List ℕ) → IsToken p → text ≡ 32 ∷ written p → PutsText text s u → Puts (p ∷ []) [] s u
puts_token s u p text token text_is appends ok =
    let done = appends ok in
    let whole : text ≡ spaced (p ∷ []) = text_is ∙ sym (passed _ _ _ token.not_end) ∙ sym (append-nil (behind_space p)) in
    (done.0, done.1 ∙ ap (λ t. string_bytes s.text ++ t) whole, done.2 ∙ sym (append-nil s.args), (token, tt), refl)

-- a space, and a token's text
pub puts_spaced : (s t u : Printer) (p : Piece) (text : List ℕ) → IsToken p → text ≡ written p → PutsText (32 ∷ []) s t → PutsText text t u → Puts (p ∷ []) [] s u
puts_spaced s t u p text token text_is one two = puts_token s u p (32 ∷ text) token (ap (λ x. 32 ∷ x) text_is) (appends_joined s t u (32 ∷ []) text one two)

-- the same of three texts
pub puts_three : (s t w u : Printer) (p : Piece) (a b c : List ℕ) → IsToken p → a ++ (b ++ c) ≡ 32 ∷ written p → PutsText a s t → PutsText b t w → PutsText c w u → Puts (p ∷ []) [] s u
puts_three s t w u p a b c token text_is one two three =
    puts_token s u p (a ++ (b ++ c)) token text_is (appends_joined s t u a (b ++ c) one (appends_joined t w u b c two three))

-- the binding of an argument that was just pushed
pub puts_argument : (s t u : Printer) (v : Value) → has_literal v ≡ false → is_lawful v ≡ true → Cites v s t → length t.args < 2 ^ 64 → PutsText (32 ∷ 58 ∷ decimal (length t.args)) t u → Puts (numbered (length s.args + 1) ∷ []) (v ∷ []) s u
puts_argument s t u v bound lawful cites small appends ok =
    let done = appends ok in
    let cited_so = cites done.0 in
    let n = length s.args + 1 in
    let count : length t.args ≡ n = ap (λ (x : List Value). length x) cited_so.2 ∙ length-append s.args (v ∷ []) in
    let one_cited : all_cited (v ∷ []) ≡ v ∷ [] = append-nil (cited v) ∙ ap (λ b. cond b [] (v ∷ [])) bound in (
      cited_so.0,
      done.1 ∙ ap (λ x. x ++ 32 ∷ 58 ∷ decimal (length t.args)) cited_so.1 ∙ ap (λ k. string_bytes s.text ++ 32 ∷ 58 ∷ decimal k) count
          ∙ ap (λ x. string_bytes s.text ++ x) (sym (append-nil (32 ∷ 58 ∷ decimal n))),
      done.2 ∙ cited_so.2 ∙ ap (λ x. s.args ++ x) (sym one_cited),
      (numbered_token n (omega arith) (omega (arith, count, small)), tt),
      ap (λ b. b && true) lawful,
    )

-- ---- quotes

doubled_turn : (bytes : List ℕ) → position_or_len is_quote bytes < length bytes → doubled bytes ≡ before_first is_quote bytes ++ 39 ∷ 39 ∷ doubled (after_first is_quote bytes)
doubled_turn [] within = absurd (omega arith)
doubled_turn (b ∷ bytes) within = by (is_quote b) refl (doubled_turn bytes) within where
  n : ℕ
  n = position_or_len is_quote bytes

  turned : ℕ → List ℕ
  turned at = take at (b ∷ bytes) ++ 39 ∷ 39 ∷ doubled (drop (at + 1) (b ∷ bytes))

  by : (quote : Bool) → is_quote b ≡ quote → (n < length bytes → doubled bytes ≡ before_first is_quote bytes ++ 39 ∷ 39 ∷ doubled (after_first is_quote bytes)) → cond (not quote) (1 + n) 0 < suc (length bytes)
      → cond quote (39 ∷ 39 ∷ []) (b ∷ []) ++ doubled bytes ≡ turned (cond (not quote) (1 + n) 0)
  by true is later within = refl
  by false is later within =
      let e : suc n ≡ 1 + n = omega arith in
      let f : n + 1 ≡ suc n = omega arith in
      let g : suc n + 1 ≡ suc (n + 1) = omega arith in
      ap (λ t. b ∷ t) (later (omega arith))
      ∙ ap (λ k. (b ∷ take n bytes) ++ 39 ∷ 39 ∷ doubled (drop k (b ∷ bytes))) (sym g)
      ∙ ap turned e

pub doubled_none : (bytes : List ℕ) → position_or_len is_quote bytes ≡ length bytes → doubled bytes ≡ bytes
doubled_none [] none = refl
doubled_none (b ∷ bytes) none = by (is_quote b) refl (doubled_none bytes) none where
  by : (quote : Bool) → is_quote b ≡ quote → (position_or_len is_quote bytes ≡ length bytes → doubled bytes ≡ bytes) → cond (not quote) (1 + position_or_len is_quote bytes) 0 ≡ suc (length bytes) → cond quote (39 ∷ 39 ∷ []) (b ∷ []) ++ doubled bytes ≡ b ∷ bytes
  by true is later all = absurd (omega arith)
  by false is later all = ap (λ t. b ∷ t) (later (omega arith))

-- one more run and its quote
pub doubled_step : (s t w u : Printer) (rest run behind : List ℕ) → position_or_len is_quote rest < length rest → run ≡ before_first is_quote rest → behind ≡ after_first is_quote rest
    → PutsText run s t → PutsText (39 ∷ 39 ∷ []) t w → PutsText (doubled behind) w u → PutsText (doubled rest) s u
doubled_step s t w u rest run behind within run_is behind_is one two three =
    let whole : run ++ 39 ∷ 39 ∷ doubled behind ≡ doubled rest =
    ap (λ r. r ++ (39 ∷ 39 ∷ doubled behind)) run_is ∙ ap (λ t. before_first is_quote rest ++ 39 ∷ 39 ∷ doubled t) behind_is ∙ sym (doubled_turn rest within) in
    subst (λ (x : List ℕ). PutsText x s u) whole
    (appends_joined s t u run (39 ∷ 39 ∷ doubled behind) one (appends_joined t w u (39 ∷ 39 ∷ []) (doubled behind) two three))

-- ---- lists

pub all_at : {A : Type 0} (p : A → Bool) (xs : List A) (i : ℕ) (x : A) → list_all p xs ≡ true → i < length xs → x ≡ get_or xs i x → p x ≡ true
all_at p [] i x all within is = absurd (omega arith)
all_at p (y ∷ ys) zero x all within is = ap p is ∙ (and_parts (p y) (list_all p ys) all).0
all_at p (y ∷ ys) (suc i) x all within is = all_at p ys i x (and_parts (p y) (list_all p ys) all).1 (omega (arith, within)) is

take_length : {A : Type 0} (xs : List A) → take (length xs) xs ≡ xs
take_length [] = refl
take_length (x ∷ xs) = ap (λ ys. x ∷ ys) (take_length xs)

-- what a slice pattern calls the rest
pub rest_of : {A : Type 0} (xs : List A) → take (length xs - 1) (drop 1 xs) ≡ drop 1 xs
rest_of [] = refl
rest_of (x ∷ xs) = let e : suc (length xs) - 1 ≡ length xs = omega arith in ap (λ n. take n xs) e ∙ take_length xs

-- one more of a list whose items cite nothing
pub others_turn : {A : Type 0} (g : List A → List Piece) (sep : Piece) (f : A → List Piece) → ((x : A) (xs : List A) → g (x ∷ xs) ≡ sep ∷ f x ++ g xs)
    → (s t w u : Printer) (xs : List A) (i : ℕ) (x : A) → i < length xs → x ≡ get_or xs i x → Puts (sep ∷ []) [] s t → Puts (f x) [] t w → Puts (g (drop (i + 1) xs)) [] w u → Puts (g (drop i xs)) [] s u
others_turn g sep f more s t w u xs i x within is one two three =
    let whole : sep ∷ f x ++ g (drop (i + 1) xs) ≡ g (drop i xs) = sym (ap g (drop_at xs i x within is) ∙ more x (drop (i + 1) xs)) in
    subst (λ (ps : List Piece). Puts ps [] s u) whole
    (puts_both s t u (sep ∷ []) (f x ++ g (drop (i + 1) xs)) one (puts_both t w u (f x) (g (drop (i + 1) xs)) two three))

-- nothing is left of a list
pub others_end : {A : Type 0} (g : List A → List Piece) (s : Printer) (xs : List A) (i : ℕ) → g [] ≡ [] → length xs ≤ i → Puts (g (drop i xs)) [] s s
others_end g s xs i none past = subst (λ (ps : List Piece). Puts ps [] s s) (sym (ap g (drop_all i xs past) ∙ none)) (puts_nothing s)

cited_count : (args : List Value) (v : Value) → length (args ++ all_cited (v ∷ [])) ≡ length args + length (cited v)
cited_count args v = length-append args (all_cited (v ∷ [])) ∙ ap (λ (x : List Value). length args + length x) (append-nil (cited v))

-- one more value of a list
abbrev pub values_left : ℕ → List Value → List Piece
values_left n vs = others comma operand_pieces (operands_of n vs)

values_more : (s t w u : Printer) (v : Value) (vs : List Value) → Puts (comma ∷ []) [] s t → Puts (operand_pieces (operand_of (length t.args) v)) (v ∷ []) t w → Puts (values_left (length w.args) vs) vs w u → Puts (values_left (length s.args) (v ∷ vs)) (v ∷ vs) s u
values_more s t w u v vs one two three =
    let both = puts_joined t w u (operand_pieces (operand_of (length t.args) v)) (v ∷ []) (λ (args : List Value). values_left (length args) vs) vs two three in
    puts_behind s t u (comma ∷ []) (λ (args : List Value). operand_pieces (operand_of (length args) v) ++ values_left (length args + length (cited v)) vs) (v ∷ vs) one
    (subst (λ n. Puts (operand_pieces (operand_of (length t.args) v) ++ values_left n vs) (v ∷ vs) t u) (cited_count t.args v) both)

-- a list in parentheses
pub list_put : (s t w x u : Printer) (v : Value) (vs : List Value) → Puts (fixed mark.Open ∷ []) [] s t → Puts (operand_pieces (operand_of (length t.args) v)) (v ∷ []) t w → Puts (values_left (length w.args) vs) vs w x → Puts (fixed mark.Close ∷ []) [] x u
    → Puts (operator_pieces op.OneOf (operands_of (length s.args) (v ∷ vs))) (v ∷ vs) s u
list_put s t w x u v vs one two three four =
    let closed : Puts (values_left (length w.args) vs ++ fixed mark.Close ∷ []) vs w u = puts_before w x u (values_left (length w.args) vs) (fixed mark.Close ∷ []) vs three four in
    let both = puts_joined t w u (operand_pieces (operand_of (length t.args) v)) (v ∷ []) (λ (args : List Value). values_left (length args) vs ++ fixed mark.Close ∷ []) vs two closed in
    puts_behind s t u (fixed mark.Open ∷ []) (λ (args : List Value). operand_pieces (operand_of (length args) v) ++ (values_left (length args + length (cited v)) vs ++ fixed mark.Close ∷ [])) (v ∷ vs) one
    (subst (λ n. Puts (operand_pieces (operand_of (length t.args) v) ++ (values_left n vs ++ fixed mark.Close ∷ [])) (v ∷ vs) t u) (cited_count t.args v) both)

pub values_turn : (s t w u : Printer) (vs : List Value) (i : ℕ) (v : Value) → i < length vs → v ≡ get_or vs i v → Puts (comma ∷ []) [] s t → Puts (operand_pieces (operand_of (length t.args) v)) (v ∷ []) t w → Puts (values_left (length w.args) (drop (i + 1) vs)) (drop (i + 1) vs) w u → Puts (values_left (length s.args) (drop i vs)) (drop i vs) s u
values_turn s t w u vs i v within is one two three =
    subst (λ (xs : List Value). Puts (values_left (length s.args) xs) xs s u) (sym (drop_at vs i v within is)) (values_more s t w u v (drop (i + 1) vs) one two three)

pub values_end : (s : Printer) (vs : List Value) (i : ℕ) → length vs ≤ i → Puts (values_left (length s.args) (drop i vs)) (drop i vs) s s
values_end s vs i past = subst (λ (xs : List Value). Puts (values_left (length s.args) xs) xs s s) (sym (drop_all i vs past)) (puts_nothing s)

-- one more filter
abbrev pub filters_left : ℕ → List Filter → List Piece
filters_left n fs = others (fixed mark.And) condition_pieces (conditions_of n fs)

pub filters_behind : (s w u : Printer) (f : Filter) (fs : List Filter) → Puts (condition_pieces (condition_of (length s.args) f)) f.values s w → Puts (filters_left (length w.args) fs) (filter_values fs) w u
    → Puts (condition_pieces (condition_of (length s.args) f) ++ filters_left (length s.args + length (all_cited f.values)) fs) (filter_values (f ∷ fs)) s u
filters_behind s w u f fs two three =
    subst (λ n. Puts (condition_pieces (condition_of (length s.args) f) ++ filters_left n fs) (filter_values (f ∷ fs)) s u) (length-append s.args (all_cited f.values))
    (puts_joined s w u (condition_pieces (condition_of (length s.args) f)) f.values (λ (args : List Value). filters_left (length args) fs) (filter_values fs) two three)

pub filters_more : (s t w u : Printer) (f : Filter) (fs : List Filter) (lead : Piece) → Puts (lead ∷ []) [] s t → Puts (condition_pieces (condition_of (length t.args) f)) f.values t w → Puts (filters_left (length w.args) fs) (filter_values fs) w u
    → Puts (lead ∷ condition_pieces (condition_of (length s.args) f) ++ filters_left (length s.args + length (all_cited f.values)) fs) (filter_values (f ∷ fs)) s u
filters_more s t w u f fs lead one two three =
    puts_behind s t u (lead ∷ []) (λ (args : List Value). condition_pieces (condition_of (length args) f) ++ filters_left (length args + length (all_cited f.values)) fs) (filter_values (f ∷ fs)) one (filters_behind t w u f fs two three)

pub filters_turn : (s t w u : Printer) (fs : List Filter) (i : ℕ) (f : Filter) → i < length fs → f ≡ get_or fs i f → Puts (fixed mark.And ∷ []) [] s t → Puts (condition_pieces (condition_of (length t.args) f)) f.values t w → Puts (filters_left (length w.args) (drop (i + 1) fs)) (filter_values (drop (i + 1) fs)) w u
    → Puts (filters_left (length s.args) (drop i fs)) (filter_values (drop i fs)) s u
filters_turn s t w u fs i f within is one two three =
    subst (λ (xs : List Filter). Puts (filters_left (length s.args) xs) (filter_values xs) s u) (sym (drop_at fs i f within is)) (filters_more s t w u f (drop (i + 1) fs) (fixed mark.And) one two three)

pub filters_end : (s : Printer) (fs : List Filter) (i : ℕ) → length fs ≤ i → Puts (filters_left (length s.args) (drop i fs)) (filter_values (drop i fs)) s s
filters_end s fs i past = subst (λ (xs : List Filter). Puts (filters_left (length s.args) xs) (filter_values xs) s s) (sym (drop_all i fs past)) (puts_nothing s)

-- ---- a filter, the ancestor and the whole

pub sign_no_end : (o : Op) → is mark.End (fixed (sign_of o)) ≡ false
sign_no_end op.Equal = refl
sign_no_end op.Less = refl
sign_no_end op.LessEqual = refl
sign_no_end op.Greater = refl
sign_no_end op.GreaterEqual = refl
sign_no_end op.NotEqual = refl
sign_no_end op.OneOf = refl

condition_spelled : (property : List ℕ) (o : Op) (x : Operand) (xs : List Operand) → name property ∷ fixed (sign_of o) ∷ operator_pieces o (x ∷ xs) ≡ condition_pieces (condition_by property o (x ∷ xs))
condition_spelled property op.Equal x xs = refl
condition_spelled property op.Less x xs = refl
condition_spelled property op.LessEqual x xs = refl
condition_spelled property op.Greater x xs = refl
condition_spelled property op.GreaterEqual x xs = refl
condition_spelled property op.NotEqual x xs = refl
condition_spelled property op.OneOf x xs = refl

enough_some : (o : Op) → enough_values o 0 ≡ true → ⊥
enough_some op.Equal e = cc
enough_some op.Less e = cc
enough_some op.LessEqual e = cc
enough_some op.Greater e = cc
enough_some op.GreaterEqual e = cc
enough_some op.NotEqual e = cc
enough_some op.OneOf e = cc

filter_spelled : (n : ℕ) (property : List ℕ) (o : Op) (vs : List Value) → enough_values o (length vs) ≡ true → name property ∷ fixed (sign_of o) ∷ operator_pieces o (operands_of n vs) ≡ condition_pieces (condition_by property o (operands_of n vs))
filter_spelled n property o [] enough = absurd (enough_some o enough)
filter_spelled n property o (v ∷ vs) enough = condition_spelled property o (operand_of n v) (operands_of (n + length (cited v)) vs)

pub filter_put : (s t w u : Printer) (f : Filter) → has_operands f ≡ true → Puts (name f.property ∷ []) [] s t → Puts (fixed (sign_of f.op) ∷ []) [] t w → Puts (operator_pieces f.op (operands_of (length w.args) f.values)) f.values w u
    → Puts (condition_pieces (condition_of (length s.args) f)) f.values s u
filter_put s t w u f enough one two three =
    subst (λ (ps : List Piece). Puts ps f.values s u) (filter_spelled (length s.args) f.property f.op f.values enough)
    (puts_behind s w u (name f.property ∷ fixed (sign_of f.op) ∷ []) (λ (args : List Value). operator_pieces f.op (operands_of (length args) f.values)) f.values (puts_both s t w (name f.property ∷ []) (fixed (sign_of f.op) ∷ []) one two) three)

pub ancestor_put : (s t w x y u : Printer) (k : KeyParts) (fs : List Filter) → Puts (fixed mark.Where ∷ []) [] s t → Puts (fixed mark.Ancestor ∷ []) [] t w → Puts (fixed mark.Is ∷ []) [] w x
    → Puts (operand_pieces (key_operand (length x.args) k)) (value.Key k ∷ []) x y → Puts (filters_left (length y.args) fs) (filter_values fs) y u
    → Puts (led_by (fixed mark.Where ∷ []) (fixed mark.And) condition_pieces (all_conditions (length s.args) (Some k) fs)) (ancestor_values (Some k) ++ filter_values fs) s u
ancestor_put s t w x y u k fs one two three four five =
    let marks = puts_both s t x (fixed mark.Where ∷ []) (fixed mark.Ancestor ∷ fixed mark.Is ∷ []) one (puts_both t w x (fixed mark.Ancestor ∷ []) (fixed mark.Is ∷ []) two three) in
    let both = puts_joined x y u (operand_pieces (key_operand (length x.args) k)) (value.Key k ∷ []) (λ (args : List Value). filters_left (length args) fs) (filter_values fs) four five in
    puts_behind s x u (fixed mark.Where ∷ fixed mark.Ancestor ∷ fixed mark.Is ∷ []) (λ (args : List Value). operand_pieces (key_operand (length args) k) ++ filters_left (length args + length (cited (value.Key k))) fs) (value.Key k ∷ filter_values fs) marks
    (subst (λ n. Puts (operand_pieces (key_operand (length x.args) k) ++ filters_left n fs) (value.Key k ∷ filter_values fs) x u) (cited_count x.args (value.Key k)) both)

pub statement_put : (s a b c d u : Printer) (what kind orders limits : List Piece) (conditions : List Value → List Piece) (vs : List Value) → Puts what [] s a → Puts kind [] a b → Puts (conditions b.args) vs b c → Puts orders [] c d → Puts limits [] d u
    → Puts (what ++ (kind ++ (conditions s.args ++ (orders ++ limits)))) vs s u
statement_put s a b c d u what kind orders limits conditions vs one two three four five =
    let ends : Puts (orders ++ limits) [] c u = puts_both c d u orders limits four five in
    let middle : Puts (conditions b.args ++ (orders ++ limits)) vs b u = puts_before b c u (conditions b.args) (orders ++ limits) vs three ends in
    puts_behind s a u what (λ args. kind ++ (conditions args ++ (orders ++ limits))) vs one
    (puts_behind a b u kind (λ args. conditions args ++ (orders ++ limits)) vs two middle)
