-- The end of a text is its last token and no other.
use Rattle.std.proofs.Common.{◌≡◌, ℕ, zero, suc, ◌+◌, ◌^◌, Bool, true, false, cond, not, List, [], ◌∷◌, ◌++◌, length, take, drop, Option}
use Rattle.std.proofs.Common.{Some, None, Ok, refl, sym, ap, ◌∙◌, append_assoc, append-nil}
use Rattle.std.specs.Prelude.{ℤ, nat_lt, ◌&&◌, ◌||◌, ◌==◌, slice_index}
use Rattle.std.specs.Char.{is_ascii_digit}
use Rattle.std.specs.List.{list_all, prefix_len, position_or_len}
use Rattle.std.specs.Str.{str_eq_ignore_ascii_case}
use Rattle.std.specs.Str.Parse.{digits_value}
use Rattle.std.proofs.lemmas.Bool.{and_parts}
use Rattle.ds_gql.specs.declared.statement.Bindings.{Bindings}
use Rattle.ds_gql.specs.declared.statement.Statement.{Statement}
use Rattle.ds_gql.specs.declared.draft.Draft.{Draft}
use Rattle.ds_tokens.specs.declared.token.Mark.{Mark}
use Rattle.ds_tokens.specs.declared.token.Mark.TheVariants as mark
use Rattle.ds_tokens.specs.Pieces.{Piece, fixed, is}
use Rattle.ds_tokens.specs.Tokens.{Front, Token, tokens_from, tokens_of, front, is_blank, begins_word, is_word_byte, is_quote}
use Rattle.ds_tokens.specs.Tokens.{is_double_quote}
use Rattle.ds_tokens.specs.Tokens.{lookup, keywords, word_by, word_of, word, quoted_name, closing, string_by, string_front, integer_of}
use Rattle.ds_tokens.specs.Tokens.{integer_by, integer_front, numbered_front, named_front, binding, sign}
use Rattle.ds_gql.specs.Steps.{step, empty, complete}
use Rattle.ds_gql.specs.Statements.{read_on, stepped, statement_of}
use Rattle.ds_gql.specs.Sentences.{Sentence, pieces, sentence_pieces, Derives}
use Rattle.ds_gql.specs.GqlLaws.{pieces_of, OnlySentencesAreRead}
use Rattle.ds_gql.proofs.SentenceSteps.{stepped_to, read_pieces}
use Rattle.ds_gql.proofs.SaidStatements.{pieces_end}
use Rattle.ds_gql.proofs.BackLaws.{sentence_begins}

-- ---- no token of a text but the last is its end

abbrev no_end : Piece → Bool
no_end p = not (is mark.End p)

abbrev none_ends : Option Front → Bool
none_ends None = true
none_ends (Some f) = no_end f.piece

either : (b : Bool) (x y : Option Front) → none_ends x ≡ true → none_ends y ≡ true → none_ends (cond b x y) ≡ true
either true x y one two = one
either false x y one two = two

marks : List (List ℕ × Mark) → Bool
marks [] = true
marks (k ∷ ks) = no_end (fixed k.1) && marks ks

lookup_ends : (table : List (List ℕ × Mark)) (text : List ℕ) → marks table ≡ true → no_end (word_by (lookup table text) text) ≡ true
unfolding marks
lookup_ends [] text all = refl
lookup_ends (k ∷ ks) text all = by (str_eq_ignore_ascii_case k.0 text) (lookup_ends ks text parts.1) where
  parts : (no_end (fixed k.1) ≡ true) × (marks ks ≡ true)
  parts = and_parts (no_end (fixed k.1)) (marks ks) all

  by : (same : Bool) → no_end (word_by (lookup ks text) text) ≡ true → no_end (word_by (cond same (Some k.1) (lookup ks text)) text) ≡ true
  by true later = parts.0
  by false later = later

word_ends : (text : List ℕ) → no_end (word_of text) ≡ true
unfolding word_of marks
word_ends text = lookup_ends keywords text refl

string_ends : (o : Option ℕ) (text : List ℕ) → none_ends (string_by o text) ≡ true
string_ends None text = refl
string_ends (Some n) text = refl

integer_ends : (o : Option ℤ) (n : ℕ) → none_ends (integer_by o n) ≡ true
integer_ends None n = refl
integer_ends (Some i) n = refl

sign_ends : (b c : ℕ) → none_ends (sign b c) ≡ true
unfolding sign
sign_ends b c =
    either (b == 42) _ _ refl (either (b == 44) _ _ refl (either (b == 40) _ _ refl (either (b == 41) _ _ refl (either (b == 61) _ _ refl
    (either (b == 60) _ _ (either (c == 61) _ _ refl refl)
    (either (b == 62) _ _ (either (c == 61) _ _ refl refl) (either ((b == 33) && (c == 61)) _ _ refl refl)))))))

binding_ends : (text : List ℕ) → none_ends (binding text) ≡ true
unfolding binding named_front numbered_front
binding_ends text =
    either (begins_word (slice_index text 0)) _ _ refl
    (either (is_ascii_digit (slice_index text 0) && not (slice_index text 0 == 48)) _ _
    (either (nat_lt (digits_value 10 (take (prefix_len is_ascii_digit text) text)) (2 ^ 64)) _ _ refl refl) refl)

front_ends : (text : List ℕ) → none_ends (front text) ≡ true
unfolding front word quoted_name string_front integer_front
front_ends text =
    let b = slice_index text 0 in
    either (begins_word b) _ _ (word_ends (take (prefix_len is_word_byte (drop 1 text) + 1) text))
    (either (is_double_quote b) _ _ (either (nat_lt 0 (position_or_len is_double_quote (drop 1 text)) && nat_lt (position_or_len is_double_quote (drop 1 text)) (length (drop 1 text))) _ _ refl refl)
    (either (is_quote b) _ _ (string_ends (closing (drop 1 text)) (drop 1 text))
    (either (b == 58) _ _ (binding_ends (drop 1 text))
    (either (is_ascii_digit b || (b == 45)) _ _ (integer_ends (integer_of (take (prefix_len is_ascii_digit (drop 1 text) + 1) text)) (prefix_len is_ascii_digit (drop 1 text)))
    (sign_ends b (slice_index text 1))))))

-- only the last token may be the end
abbrev pub OnlyLast : List Token → Type 0
OnlyLast [] = ⊥
OnlyLast (t ∷ []) = Unit {0}
OnlyLast (t ∷ u ∷ ts) = (no_end t.piece ≡ true) × OnlyLast (u ∷ ts)

last_more : (t : Token) (ts : List Token) → no_end t.piece ≡ true → OnlyLast ts → OnlyLast (t ∷ ts)
last_more t [] not_end only = absurd only
last_more t (u ∷ ts) not_end only = (not_end, only)

pub tokens_last : (left place : ℕ) (text : List ℕ) → OnlyLast (tokens_from left place text)
tokens_last left place [] = tt
tokens_last (suc left) place (b ∷ text) = tokens_last left (suc place) text
tokens_last zero place (b ∷ text) = by (is_blank b) refl (λ left. tokens_last left (suc place) text) where
  begins : (found : Option Front) → front (b ∷ text) ≡ found → is_blank b ≡ false → ((left : ℕ) → OnlyLast (tokens_from left (suc place) text)) → OnlyLast (tokens_from 0 place (b ∷ text))
  begins None none_here not_blank later = rw (not_blank, none_here) tt
  begins (Some f) found not_blank later =
      let not_end : no_end f.piece ≡ true = sym (ap none_ends found) ∙ front_ends (b ∷ text) in
      rw (not_blank, found) (last_more (let t : Token = record { piece = f.piece; place = place } in t) (tokens_from f.more (suc place) text) not_end (later f.more))

  by : (blank : Bool) → is_blank b ≡ blank → ((left : ℕ) → OnlyLast (tokens_from left (suc place) text)) → OnlyLast (tokens_from 0 place (b ∷ text))
  by true blank later = rw blank (later 0)
  by false blank later = begins (front (b ∷ text)) refl blank later

-- ---- reading without places

read_without : (given : Bindings) (ts : List Token) (d : Draft) (st : Statement) → read_on given d ts ≡ Ok st → read_pieces given d (pieces_of ts) ≡ Some st
unfolding read_on
read_without given [] d st e = absurd (cc)
read_without given (t ∷ ts) d st e = by (step given d t.piece) e (λ n. read_without given ts n st) where
  by : (next : Option Draft) → stepped next t (λ n. read_on given n ts) ≡ Ok st → ((n : Draft) → read_on given n ts ≡ Ok st → read_pieces given n (pieces_of ts) ≡ Some st) → stepped_to next t.piece (λ n. read_pieces given n (pieces_of ts)) ≡ Some st
  by None e later = absurd (cc)
  by (Some n) e later = ended (is mark.End t.piece) e where
    ended : (end : Bool) → cond end (Ok (complete n)) (read_on given n ts) ≡ Ok st → cond end (Some (complete n)) (read_pieces given n (pieces_of ts)) ≡ Some st
    ended true e = let same : complete n ≡ st = cc in ap Some same
    ended false e = later n e

-- ---- nothing follows the end

ends_there : (ts : List Token) (body behind : List Piece) → OnlyLast ts → pieces_of ts ≡ body ++ fixed mark.End ∷ behind → behind ≡ []
ends_there [] body behind only e = absurd only
ends_there (t ∷ []) [] behind only e = let same : [] ≡ behind = cc in sym same
ends_there (t ∷ []) (p ∷ []) behind only e = absurd (cc)
ends_there (t ∷ []) (p ∷ q ∷ body) behind only e = absurd (cc)
ends_there (t ∷ u ∷ ts) [] behind only e = absurd (let same : t.piece ≡ fixed mark.End = cc in let end : no_end t.piece ≡ false = ap no_end same in let never : true ≡ false = sym only.0 ∙ end in cc)
ends_there (t ∷ u ∷ ts) (p ∷ body) behind only e = ends_there (u ∷ ts) body behind only.1 (let same : pieces_of (u ∷ ts) ≡ body ++ fixed mark.End ∷ behind = cc in same)

spelled_end : (s : Sentence) (behind : List Piece) → pieces s ++ behind ≡ (fixed mark.Select ∷ sentence_pieces s) ++ fixed mark.End ∷ behind
spelled_end s behind = ap (λ ps. ps ++ behind) (pieces_end s) ∙ append_assoc (fixed mark.Select ∷ sentence_pieces s) (fixed mark.End ∷ []) behind

pub only_sentences_are_read : OnlySentencesAreRead
unfolding statement_of tokens_of
only_sentences_are_read given text st e =
    let ts = tokens_from 0 0 text in
    let b = sentence_begins given st (pieces_of ts) (read_without given ts empty st e) in
    let none : b.behind ≡ [] = ends_there ts (fixed mark.Select ∷ sentence_pieces b.sentence) b.behind (tokens_last 0 0 text) (b.spelled ∙ spelled_end b.sentence b.behind) in
    record {
      sentence = b.sentence;
      spelled = b.spelled ∙ ap (λ r. pieces b.sentence ++ r) none ∙ append-nil (pieces b.sentence);
      said = b.said;
    }

-- ---- tokens that go on to a sentence

-- tokens without an end are the front of those up to the end
pub cut : (before others body behind : List Piece) → list_all no_end before ≡ true → before ++ others ≡ body ++ fixed mark.End ∷ behind → (more : List Piece) × (before ++ more ≡ body ++ fixed mark.End ∷ [])
cut [] others body behind all e = (body ++ fixed mark.End ∷ [], refl)
cut (p ∷ before) others [] behind all e = absurd (let same : p ≡ fixed mark.End = cc in let end : no_end p ≡ false = ap no_end same in let never : true ≡ false = sym (and_parts (no_end p) (list_all no_end before) all).0 ∙ end in cc)
cut (p ∷ before) others (q ∷ body) behind all e =
    let same : p ≡ q = cc in
    let rest : before ++ others ≡ body ++ fixed mark.End ∷ behind = cc in
    let found = cut before others body behind (and_parts (no_end p) (list_all no_end before) all).1 rest in
    (found.0, λ i. same i ∷ found.1 i)

before_last : (before : List Token) (t : Token) (behind : List Token) → OnlyLast (before ++ t ∷ behind) → list_all no_end (pieces_of before) ≡ true
before_last [] t behind only = refl
before_last (u ∷ []) t behind only = ap (λ b. b && true) only.0
before_last (u ∷ w ∷ before) t behind only = ap (λ b. b && list_all no_end (pieces_of (w ∷ before))) only.0 ∙ before_last (w ∷ before) t behind only.1

-- what the tokens before one can be read with makes a sentence with them
pub goes_on : (given : Bindings) (before : List Token) (t : Token) (behind : List Token) (others : List Piece) (st : Statement) → OnlyLast (before ++ t ∷ behind) → read_pieces given empty (pieces_of before ++ others) ≡ Some st → (more : List Piece) × Derives given (pieces_of before ++ more) st
goes_on given before t behind others st only e =
    let b = sentence_begins given st (pieces_of before ++ others) e in
    let found = cut (pieces_of before) others (fixed mark.Select ∷ sentence_pieces b.sentence) b.behind (before_last before t behind only) (b.spelled ∙ spelled_end b.sentence b.behind) in
    (found.0, record { sentence = b.sentence; spelled = found.1 ∙ sym (pieces_end b.sentence); said = b.said })
