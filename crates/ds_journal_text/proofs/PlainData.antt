-- Data whose compact text tells them: what is read from the text is the data again.
use Rattle.std.proofs.Common.{◌≡◌, ℕ, zero, suc, ◌^◌, ◌<◌, ◌≤◌, pos, negsuc, List, [], Some}
use Rattle.std.proofs.Common.{refl, sym, ap, ◌∙◌, arith}
use Rattle.std.proofs.Common.{append-nil}
use Rattle.std.specs.Prelude.{option_map, option_and_then, IsUtf8}
use Rattle.std.specs.Ordering.{nat_cmp, match_ordering, ordering_reverse}
use Rattle.std.proofs.lemmas.Cmp.{nat_list_cmp_total}
use Rattle.std.specs.declared.cmp.Ordering.TheVariants.{Less, Greater}
use Rattle.std.specs.Cmp.Lexicographic.{slice_cmp}
use Rattle.json.specs.Lex.{tokens}
use Rattle.json.specs.Print.{IsNumber}
use Rattle.json.specs.Json as json
use Rattle.json.specs.Tree as tree
use Rattle.json.proofs.Printed.Decimals.{IsNumber-decimal, IsNumber-signed_decimal}
use Rattle.json.proofs.Printed.Tokens.{tokens-print}
use Rattle.json.proofs.Printed.Trees.{value-json_tokens, ArePrintable-json_tokens}
use Rattle.serde_json.specs.Data.{Num, unsigned, negative, float, Data, null, boolean, number, string, array, object, Items, no_items, item}
use Rattle.serde_json.specs.Data.{Members, no_members, member, put}
use Rattle.serde_json.specs.Read.{read, of_json, of_items, of_members, number_of, max_depth}
use Rattle.serde_json.specs.Written.{compact_text, outline, items_outline, members_outline, number_text}
use Rattle.serde_json.proofs.Numbers.{number_of-decimal, number_of-negative}
use Rattle.serde_json.proofs.Texts.{print-outline}

-- ---- which data these are

-- an integer of 64 bits
abbrev pub IsPlainNumber : Num → Type 0
IsPlainNumber (unsigned n) = n < 2 ^ 64
IsPlainNumber (negative (pos n)) = ⊥
IsPlainNumber (negative (negsuc n)) = n < 2 ^ 63
IsPlainNumber (float x) = ⊥

-- every name stands behind this one
abbrev pub AllBehind : List ℕ → Members → Type 0
AllBehind k no_members = Unit {0}
AllBehind k (member l d ms) = (slice_cmp nat_cmp k l ≡ Less) × AllBehind k ms

-- the names ascend
abbrev pub Ascend : Members → Type 0
Ascend no_members = Unit {0}
Ascend (member k d ms) = AllBehind k ms × Ascend ms

-- at most so deep, with integers of 64 bits, texts, and members that ascend by name
abbrev mutual
  pub IsPlain : Data → ℕ → Type 0
  IsPlain null k = Unit {0}
  IsPlain (boolean b) k = Unit {0}
  IsPlain (number n) k = IsPlainNumber n
  IsPlain (string s) k = IsUtf8 s
  IsPlain (array ds) zero = ⊥
  IsPlain (array ds) (suc k) = ArePlain ds k
  IsPlain (object ms) zero = ⊥
  IsPlain (object ms) (suc k) = MembersArePlain ms k × Ascend ms

  pub ArePlain : Items → ℕ → Type 0
  ArePlain no_items k = Unit {0}
  ArePlain (item d ds) k = IsPlain d k × ArePlain ds k

  pub MembersArePlain : Members → ℕ → Type 0
  MembersArePlain no_members k = Unit {0}
  MembersArePlain (member name d ms) k = IsUtf8 name × IsPlain d k × MembersArePlain ms k

-- ---- their outline can be printed, and isn't too deep

number_printed : (n : Num) → IsPlainNumber n → IsNumber (number_text n)
number_printed (unsigned n) h = IsNumber-decimal n h
number_printed (negative (pos n)) h = absurd h
number_printed (negative (negsuc n)) h = IsNumber-signed_decimal (negsuc n) (omega arith)
number_printed (float x) h = absurd h

mutual
  numbers : (d : Data) (k : ℕ) → IsPlain d k → tree.HasNumbers (outline d)
  numbers null k h = tt
  numbers (boolean b) k h = tt
  numbers (number n) k h = number_printed n h
  numbers (string s) k h = tt
  numbers (array ds) zero h = absurd h
  numbers (array ds) (suc k) h = items_numbers ds k h
  numbers (object ms) zero h = absurd h
  numbers (object ms) (suc k) h = members_numbers ms k h.0

  items_numbers : (ds : Items) (k : ℕ) → ArePlain ds k → tree.ItemsHaveNumbers (items_outline ds)
  items_numbers no_items k h = tt
  items_numbers (item d ds) k h = (numbers d k h.0, items_numbers ds k h.1)

  members_numbers : (ms : Members) (k : ℕ) → MembersArePlain ms k → tree.MembersHaveNumbers (members_outline ms)
  members_numbers no_members k h = tt
  members_numbers (member name d ms) k h = (numbers d k h.1, members_numbers ms k h.2)

mutual
  shallow : (d : Data) (k : ℕ) → IsPlain d k → tree.depth (outline d) ≤ k
  shallow null k h = omega arith
  shallow (boolean b) k h = omega arith
  shallow (number n) k h = omega arith
  shallow (string s) k h = omega arith
  shallow (array ds) zero h = absurd h
  shallow (array ds) (suc k) h = omega (arith, items_shallow ds k h)
  shallow (object ms) zero h = absurd h
  shallow (object ms) (suc k) h = omega (arith, members_shallow ms k h.0)

  items_shallow : (ds : Items) (k : ℕ) → ArePlain ds k → tree.items_depth (items_outline ds) ≤ k
  items_shallow no_items k h = omega arith
  items_shallow (item d ds) k h = omega (arith, shallow d k h.0, items_shallow ds k h.1)

  members_shallow : (ms : Members) (k : ℕ) → MembersArePlain ms k → tree.members_depth (members_outline ms) ≤ k
  members_shallow no_members k h = omega arith
  members_shallow (member name d ms) k h = omega (arith, shallow d k h.1, members_shallow ms k h.2)

-- ---- what is read from the outline

number_back : (n : Num) → IsPlainNumber n → number_of (number_text n) ≡ Some n
number_back (unsigned n) h = number_of-decimal n h
number_back (negative (pos n)) h = absurd h
number_back (negative (negsuc n)) h = number_of-negative n h
number_back (float x) h = absurd h

-- members behind others
abbrev joined : Members → Members → Members
joined no_members ms = ms
joined (member k d found) ms = member k d (joined found ms)

-- all names of the first stand before those of the second
abbrev AreBefore : Members → Members → Type 0
AreBefore no_members ms = Unit {0}
AreBefore (member k d found) ms = AllBehind k ms × AreBefore found ms

slice_less-greater : (k l : List ℕ) → slice_cmp nat_cmp k l ≡ Less → slice_cmp nat_cmp l k ≡ Greater
slice_less-greater k l h = nat_list_cmp_total.antisymm l k ∙ ap ordering_reverse h

put_last : (k : List ℕ) (d : Data) (found ms : Members) → AreBefore found (member k d ms) → put k d found ≡ joined found (member k d no_members)
put_last k d no_members ms h = refl
put_last k d (member l e found) ms h =
    ap (λ o. match_ordering o (member k d (member l e found)) (member l d found) (member l e (put k d found))) (slice_less-greater l k h.0.0)
    ∙ ap (member l e) (put_last k d found ms h.1)

behind_more : (k : List ℕ) (d : Data) (found ms : Members) → AreBefore found (member k d ms) → AllBehind k ms → AreBefore (joined found (member k d no_members)) ms
behind_more k d no_members ms h after = (after, tt)
behind_more k d (member l e found) ms h after = (h.0.1, behind_more k d found ms h.1 after)

joined_more : (k : List ℕ) (d : Data) (found ms : Members) → joined (joined found (member k d no_members)) ms ≡ joined found (member k d ms)
joined_more k d no_members ms = refl
joined_more k d (member l e found) ms = ap (member l e) (joined_more k d found ms)

mutual
  back : (d : Data) (k : ℕ) → IsPlain d k → of_json (outline d) ≡ Some d
  back null k h = refl
  back (boolean b) k h = refl
  back (number n) k h = ap (option_map number) (number_back n h)
  back (string s) k h = refl
  back (array ds) zero h = absurd h
  back (array ds) (suc k) h = ap (option_map array) (items_back ds k h)
  back (object ms) zero h = absurd h
  back (object ms) (suc k) h = ap (option_map object) (members_back ms no_members k h.0 h.1 tt)

  items_back : (ds : Items) (k : ℕ) → ArePlain ds k → of_items (items_outline ds) ≡ Some ds
  items_back no_items k h = refl
  items_back (item d ds) k h =
      ap (λ o. option_and_then (λ e. option_map (item e) (of_items (items_outline ds))) o) (back d k h.0)
      ∙ ap (option_map (item d)) (items_back ds k h.1)

  members_back : (ms found : Members) (k : ℕ) → MembersArePlain ms k → Ascend ms → AreBefore found ms → of_members (members_outline ms) found ≡ Some (joined found ms)
  members_back no_members found k h up before = ap Some (joined_nil found) where
    joined_nil : (found : Members) → found ≡ joined found no_members
    joined_nil no_members = refl
    joined_nil (member l e found) = ap (member l e) (joined_nil found)
  members_back (member name d ms) found k h up before =
      ap (λ o. option_and_then (λ e. of_members (members_outline ms) (put name e found)) o) (back d k h.1)
      ∙ ap (λ ns. of_members (members_outline ms) ns) (put_last name d found ms before)
      ∙ members_back ms (joined found (member name d no_members)) k h.2 up.1 (behind_more name d found ms before up.0)
      ∙ ap Some (joined_more name d found ms)

-- ---- the law

tokens-compact : (d : Data) (k : ℕ) → IsPlain d k → tokens (compact_text d) ≡ tree.json_tokens (outline d)
tokens-compact d k h = ap tokens (sym (print-outline d)) ∙ tokens-print (tree.json_tokens (outline d)) (ArePrintable-json_tokens (outline d) (numbers d k h))

pub read-compact : (d : Data) → IsPlain d max_depth → read (compact_text d) ≡ Some d
read-compact d h =
    ap (λ o. option_and_then of_json (option_and_then (λ p. json.if_last p.0 p.1) o))
    (ap (json.value max_depth) (tokens-compact d max_depth h ∙ sym (append-nil (tree.json_tokens (outline d))))
    ∙ value-json_tokens (outline d) max_depth [] (shallow d max_depth h))
    ∙ back d max_depth h
