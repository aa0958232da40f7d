-- Each name that a text says can be written: it has at least one byte and no double quote.
use Rattle.std.proofs.Common.{◌≡◌, ℕ, zero, suc, ◌+◌, ◌<◌, Bool, true, false, cond, not, List, [], ◌∷◌, ◌++◌, length, take, drop}
use Rattle.std.proofs.Common.{Option, Some, None, refl, sym, ap, ◌∙◌, subst, arith, eqb-true}
use Rattle.std.specs.Prelude.{ℤ, map, nat_lt, option_map, option_and_then, ◌&&◌, ◌||◌, ◌==◌, ◌^◌, slice_index}
use Rattle.std.specs.Char.{is_ascii_digit}
use Rattle.std.specs.List.{list_all, list_any, prefix_len, position_or_len}
use Rattle.std.specs.Str.Parse.{digits_value}
use Rattle.std.proofs.lemmas.Bool.{and_parts}
use Rattle.std.proofs.lemmas.List.Folds.{length-prefix_len, list_all-append}
use borrow.Author.Tests.{ltb-true}
use Rattle.ds_query.specs.declared.query.Op.TheVariants as op
use Rattle.ds_query.specs.declared.query.Filter.{Filter}
use Rattle.ds_gql.specs.declared.statement.Bindings.{Bindings}
use Rattle.ds_gql.specs.declared.statement.Statement.{Statement}
use Rattle.ds_tokens.specs.declared.token.Mark.{Mark}
use Rattle.ds_tokens.specs.declared.token.Mark.TheVariants as mark
use Rattle.ds_tokens.specs.Pieces.{Piece, fixed, name}
use Rattle.ds_tokens.specs.Tokens.{Front, tokens_from, tokens_of, front, is_blank, begins_word, is_word_byte, is_quote, is_double_quote}
use Rattle.ds_tokens.specs.Tokens.{lookup, keywords, word_by, word_of, word, quoted_name, closing, string_by, string_front, integer_of}
use Rattle.ds_tokens.specs.Tokens.{integer_by, integer_front, numbered_front, named_front, binding, sign}
use Rattle.ds_gql.specs.Steps.{compare_of, key_in, no_ancestor}
use Rattle.ds_gql.specs.Sentences.{What, everything, keys, names, Condition, compare, among, under, Conditions, Order, Sentence, comma}
use Rattle.ds_gql.specs.Sentences.{others}
use Rattle.ds_gql.specs.Sentences.{led_by, name_pieces, what_pieces, kind_pieces, condition_pieces, order_pieces, pieces, select_of}
use Rattle.ds_gql.specs.Sentences.{Derives, operand_value, operand_values, with_condition, with_conditions, column_of, says, is_what}
use Rattle.ds_gql.specs.Sentences.{is_kind, bounds_of}
use Rattle.ds_gql.specs.GqlLaws.{pieces_of}
use Rattle.ds_gql_printing.specs.Printing.{is_written_name, kind_names, selected_names, has_written_properties, has_written_orders}
use Rattle.ds_gql_printing.specs.Printing.{has_written_names}
use Rattle.ds_gql.proofs.SentenceSteps.{chain_some, map_some, only_if}
use Rattle.ds_gql.proofs.Choices.{both}

-- ---- the names among the tokens of a text

abbrev pub is_fine : Piece → Bool
is_fine (name text) = is_written_name text
is_fine _ = true

abbrev are_fine : Option Front → Bool
are_fine None = true
are_fine (Some f) = is_fine f.piece

either : (b : Bool) (x y : Option Front) → (b ≡ true → are_fine x ≡ true) → are_fine y ≡ true → are_fine (cond b x y) ≡ true
either true x y one two = one refl
either false x y one two = two

other_byte : (p : ℕ → Bool) → p 34 ≡ false → (b : ℕ) → p b ≡ true → is_double_quote b ≡ false
other_byte p never b is = by (b == 34) refl where
  by : (quote : Bool) → (b == 34) ≡ quote → quote ≡ false
  by false e = refl
  by true e = absurd (let same : true ≡ false = sym is ∙ ap p (eqb-true b 34 e) ∙ never in cc)

-- a run of bytes that are no double quotes
run_plain : (p : ℕ → Bool) → p 34 ≡ false → (xs : List ℕ) → list_any is_double_quote (take (prefix_len p xs) xs) ≡ false
run_plain p never [] = refl
run_plain p never (x ∷ xs) = by (p x) refl (run_plain p never xs) where
  by : (passes : Bool) → p x ≡ passes → list_any is_double_quote (take (prefix_len p xs) xs) ≡ false
      → list_any is_double_quote (take (cond passes (1 + prefix_len p xs) 0) (x ∷ xs)) ≡ false
  by true is rest =
      let e : 1 + prefix_len p xs ≡ suc (prefix_len p xs) = omega arith in
      ap (λ n. list_any is_double_quote (take n (x ∷ xs))) e
      ∙ ap (λ d. d || list_any is_double_quote (take (prefix_len p xs) xs)) (other_byte p never x is) ∙ rest
  by false is rest = refl

written_if : (w : List ℕ) → 0 < length w → list_any is_double_quote w ≡ false → is_written_name w ≡ true
written_if [] some plain = absurd (omega arith)
written_if (b ∷ bytes) some plain = ap not plain

word_by_fine : (o : Option Mark) (w : List ℕ) → is_written_name w ≡ true → is_fine (word_by o w) ≡ true
word_by_fine None w fine = fine
word_by_fine (Some k) w fine = refl

word_fine : (text : List ℕ) → begins_word (slice_index text 0) ≡ true → are_fine (word text) ≡ true
unfolding word word_of
word_fine [] begins = absurd (cc)
word_fine (b ∷ text) begins =
    let n = prefix_len is_word_byte text in
    let e : n + 1 ≡ suc n = omega arith in
    ap (λ m. is_fine (word_by (lookup keywords (take m (b ∷ text))) (take m (b ∷ text)))) e
    ∙ word_by_fine (lookup keywords (b ∷ take n text)) (b ∷ take n text)
    (ap not (ap (λ d. d || list_any is_double_quote (take n text)) (other_byte begins_word refl b begins) ∙ run_plain is_word_byte refl text))

quoted_fine : (text : List ℕ) → are_fine (quoted_name text) ≡ true
unfolding quoted_name
quoted_fine text =
    let n = position_or_len is_double_quote text in
    either (nat_lt 0 n && nat_lt n (length text)) _ _
    (λ h. let some : 0 < n = ltb-true _ _ (and_parts (nat_lt 0 n) (nat_lt n (length text)) h).0 in
    written_if (take n text) (omega (arith, length-prefix_len (λ b. not (is_double_quote b)) text))
    (run_plain (λ b. not (is_double_quote b)) refl text)) refl

string_fine : (o : Option ℕ) (text : List ℕ) → are_fine (string_by o text) ≡ true
string_fine None text = refl
string_fine (Some n) text = refl

integer_fine : (o : Option ℤ) (n : ℕ) → are_fine (integer_by o n) ≡ true
integer_fine None n = refl
integer_fine (Some i) n = refl

sign_fine : (b c : ℕ) → are_fine (sign b c) ≡ true
unfolding sign
sign_fine b c =
    either (b == 42) _ _ (λ _. refl) (either (b == 44) _ _ (λ _. refl) (either (b == 40) _ _ (λ _. refl)
    (either (b == 41) _ _ (λ _. refl) (either (b == 61) _ _ (λ _. refl)
    (either (b == 60) _ _ (λ _. either (c == 61) _ _ (λ _. refl) refl)
    (either (b == 62) _ _ (λ _. either (c == 61) _ _ (λ _. refl) refl)
    (either ((b == 33) && (c == 61)) _ _ (λ _. refl) refl)))))))

binding_fine : (text : List ℕ) → are_fine (binding text) ≡ true
unfolding binding named_front numbered_front
binding_fine text =
    either (begins_word (slice_index text 0)) _ _ (λ _. refl)
    (either (is_ascii_digit (slice_index text 0) && not (slice_index text 0 == 48)) _ _
    (λ _. either (nat_lt (digits_value 10 (take (prefix_len is_ascii_digit text) text)) (2 ^ 64)) _ _ (λ _. refl) refl) refl)

front_fine : (text : List ℕ) → are_fine (front text) ≡ true
unfolding front string_front integer_front
front_fine text =
    let b = slice_index text 0 in
    either (begins_word b) _ _ (word_fine text)
    (either (is_double_quote b) _ _ (λ _. quoted_fine (drop 1 text))
    (either (is_quote b) _ _ (λ _. string_fine (closing (drop 1 text)) (drop 1 text))
    (either (b == 58) _ _ (λ _. binding_fine (drop 1 text))
    (either (is_ascii_digit b || (b == 45)) _ _
    (λ _. integer_fine (integer_of (take (prefix_len is_ascii_digit (drop 1 text) + 1) text)) (prefix_len is_ascii_digit (drop 1 text)))
    (sign_fine b (slice_index text 1))))))

tokens_fine : (left place : ℕ) (text : List ℕ) → list_all is_fine (pieces_of (tokens_from left place text)) ≡ true
tokens_fine left place [] = refl
tokens_fine (suc left) place (b ∷ text) = tokens_fine left (suc place) text
tokens_fine zero place (b ∷ text) = by (is_blank b) refl (λ left. tokens_fine left (suc place) text) where
  begins : (found : Option Front) → front (b ∷ text) ≡ found → is_blank b ≡ false
      → ((left : ℕ) → list_all is_fine (pieces_of (tokens_from left (suc place) text)) ≡ true)
      → list_all is_fine (pieces_of (tokens_from 0 place (b ∷ text))) ≡ true
  begins None none_here not_blank later = rw (not_blank, none_here) refl
  begins (Some f) found not_blank later =
      let fine : is_fine f.piece ≡ true = sym (ap are_fine found) ∙ front_fine (b ∷ text) in
      rw (not_blank, found) (both _ _ fine (later f.more))

  by : (blank : Bool) → is_blank b ≡ blank → ((left : ℕ) → list_all is_fine (pieces_of (tokens_from left (suc place) text)) ≡ true)
      → list_all is_fine (pieces_of (tokens_from 0 place (b ∷ text))) ≡ true
  by true blank later = rw blank (later 0)
  by false blank later = begins (front (b ∷ text)) refl blank later

-- ---- the names of a sentence

split : (xs ys : List Piece) → list_all is_fine (xs ++ ys) ≡ true → (list_all is_fine xs ≡ true) × (list_all is_fine ys ≡ true)
split xs ys h = and_parts (list_all is_fine xs) (list_all is_fine ys) (sym (list_all-append is_fine xs ys) ∙ h)

module _ {A : Type 0} (separator : Piece) (f : A → List Piece) (q : A → Bool)
    (each : (x : A) → list_all is_fine (f x) ≡ true → q x ≡ true) where
  others_fine : (xs : List A) → list_all is_fine (others separator f xs) ≡ true → list_all q xs ≡ true
  others_fine [] h = refl
  others_fine (x ∷ xs) h =
      let p = split (separator ∷ f x) (others separator f xs) h in
      both (q x) (list_all q xs) (each x (and_parts (is_fine separator) (list_all is_fine (f x)) p.0).1) (others_fine xs p.1)

  led_fine : (lead : List Piece) (xs : List A) → list_all is_fine (led_by lead separator f xs) ≡ true → list_all q xs ≡ true
  led_fine lead [] h = refl
  led_fine lead (x ∷ xs) h =
      let p = split lead (f x ++ others separator f xs) h in
      let r = split (f x) (others separator f xs) p.1 in
      both (q x) (list_all q xs) (each x r.0) (others_fine xs r.1)

name_fine : (n : List ℕ) → list_all is_fine (name_pieces n) ≡ true → is_written_name n ≡ true
name_fine n h = (and_parts (is_written_name n) true h).0

what_fine : (w : What) → list_all is_fine (what_pieces w) ≡ true → list_all is_written_name (selected_names (select_of w)) ≡ true
what_fine everything h = refl
what_fine keys h = refl
what_fine (names first more) h =
    let p = and_parts (is_written_name first) (list_all is_fine (others comma name_pieces more)) h in
    both (is_written_name first) (list_all is_written_name more) p.0 (others_fine comma name_pieces is_written_name name_fine more p.1)

kind_fine : (kind : Option (List ℕ)) → list_all is_fine (kind_pieces kind) ≡ true → list_all is_written_name (kind_names kind) ≡ true
kind_fine None h = refl
kind_fine (Some text) h = h

abbrev is_fine_condition : Condition → Bool
is_fine_condition (compare property sign o) = is_written_name property
is_fine_condition (among property first more) = is_written_name property
is_fine_condition (under o) = true

condition_fine : (c : Condition) → list_all is_fine (condition_pieces c) ≡ true → is_fine_condition c ≡ true
condition_fine (compare property sign o) h = (and_parts (is_written_name property) _ h).0
condition_fine (among property first more) h = (and_parts (is_written_name property) _ h).0
condition_fine (under o) h = refl

order_fine : (o : Order) → list_all is_fine (order_pieces o) ≡ true → is_written_name o.property ≡ true
order_fine o h = (and_parts (is_written_name o.property) _ h).0

orders_fine : (os : List Order) → list_all (λ (o : Order). is_written_name o.property) os ≡ true
    → has_written_orders (map column_of os) ≡ true
orders_fine [] h = refl
orders_fine (o ∷ os) h =
    let p = and_parts (is_written_name o.property) (list_all (λ (x : Order). is_written_name x.property) os) h in
    both _ _ p.0 (orders_fine os p.1)

-- ---- the names of what a sentence says

pushed : (fs : List Filter) (f : Filter) → has_written_properties fs ≡ true → is_written_name f.property ≡ true
    → has_written_properties (fs ++ f ∷ []) ≡ true
pushed fs f all fine = list_all-append (λ (x : Filter). is_written_name x.property) fs (f ∷ []) ∙ both _ _ all (both _ _ fine refl)

module _ (given : Bindings) where
  one_condition : (so_far next : Conditions) (c : Condition) → with_condition given so_far c ≡ Some next → is_fine_condition c ≡ true
      → has_written_properties so_far.0 ≡ true → has_written_properties next.0 ≡ true
  one_condition so_far next (compare property sign o) e fine all =
      let found = chain_some (compare_of sign)
      (λ f. option_map (λ v. (so_far.0 ++ record { property = property; op = f; values = v ∷ [] } ∷ [], so_far.1)) (operand_value given o))
      next e in
      let valued = map_some (operand_value given o)
      (λ v. (so_far.0 ++ record { property = property; op = found.0; values = v ∷ [] } ∷ [], so_far.1)) next found.2 in
      subst (λ (n : Conditions). has_written_properties n.0 ≡ true) valued.2
      (pushed so_far.0 (record { property = property; op = found.0; values = valued.0 ∷ [] }) all fine)
  one_condition so_far next (among property first more) e fine all =
      let valued = map_some (operand_values given (first ∷ more))
      (λ vs. (so_far.0 ++ record { property = property; op = op.OneOf; values = vs } ∷ [], so_far.1)) next e in
      subst (λ (n : Conditions). has_written_properties n.0 ≡ true) valued.2
      (pushed so_far.0 (record { property = property; op = op.OneOf; values = valued.0 }) all fine)
  one_condition so_far next (under o) e fine all =
      let found = chain_some (option_and_then key_in (operand_value given o))
      (λ k. cond (no_ancestor so_far.1) (Some (so_far.0, Some k)) None) next e in
      let parts = only_if (no_ancestor so_far.1) (Some (so_far.0, Some found.0)) next found.2 in
      let same : (so_far.0, Some found.0) ≡ next = let e : Some (so_far.0, Some found.0) ≡ Some next = parts.1 in cc in
      subst (λ (n : Conditions). has_written_properties n.0 ≡ true) same all

  all_conditions : (cs : List Condition) (so_far next : Conditions) → with_conditions given so_far cs ≡ Some next
      → list_all is_fine_condition cs ≡ true → has_written_properties so_far.0 ≡ true → has_written_properties next.0 ≡ true
  all_conditions [] so_far next e fine all =
      let same : so_far ≡ next = cc in
      subst (λ (n : Conditions). has_written_properties n.0 ≡ true) same all
  all_conditions (c ∷ cs) so_far next e fine all =
      let mid = chain_some (with_condition given so_far c) (λ n. with_conditions given n cs) next e in
      let p = and_parts (is_fine_condition c) (list_all is_fine_condition cs) fine in
      all_conditions cs mid.0 next mid.2 p.1 (one_condition so_far mid.0 c mid.1 p.0 all)

said_names : (given : Bindings) (s : Sentence) (st : Statement) → list_all is_fine (pieces s) ≡ true → says given s ≡ Some st
    → has_written_names st ≡ true
said_names given s st fine said =
    let lawful = only_if (is_what s.what && is_kind s.kind) _ st said in
    let found = chain_some (with_conditions given ([], None) s.conditions) _ st lawful.1 in
    let bounds = map_some (bounds_of s.limits) _ st found.2 in
    let a = split (what_pieces s.what) _ fine in
    let b = split (kind_pieces s.kind) _ a.1 in
    let c = split (led_by (fixed mark.Where ∷ []) (fixed mark.And) condition_pieces s.conditions) _ b.1 in
    let d = split (led_by (fixed mark.Order ∷ fixed mark.By ∷ []) comma order_pieces s.orders) _ c.1 in
    let conditions = led_fine (fixed mark.And) condition_pieces is_fine_condition condition_fine (fixed mark.Where ∷ []) s.conditions c.0 in
    let orders = led_fine comma order_pieces (λ (o : Order). is_written_name o.property) order_fine
    (fixed mark.Order ∷ fixed mark.By ∷ []) s.orders d.0 in
    subst (λ (t : Statement). has_written_names t ≡ true) bounds.2
    (both _ _ (both _ _ (both _ _ (what_fine s.what a.0) (kind_fine s.kind b.0))
    (all_conditions given s.conditions ([], None) found.0 found.1 conditions refl)) (orders_fine s.orders orders))

pub names_are_written : (given : Bindings) (text : List ℕ) (st : Statement) → Derives given (pieces_of (tokens_of text)) st
    → has_written_names st ≡ true
unfolding tokens_of
names_are_written given text st d =
    said_names given d.sentence st (sym (ap (list_all is_fine) d.spelled) ∙ tokens_fine 0 0 text) d.said
