-- The tokens of a text one by one, as they are read.
use Rattle.std.proofs.Common.{◌≡◌, ℕ, zero, suc, ◌+◌, ◌-◌, ◌<◌, ◌≤◌, Bool, true, false, cond, List, [], ◌∷◌, length, drop, Option, Some}
use Rattle.std.proofs.Common.{None, Ok, Err, refl, sym, ap, ◌∙◌, subst, arith, length-drop}
use Rattle.std.specs.List.{prefix_len}
use Rattle.ds_gql.specs.declared.statement.Bindings.{Bindings}
use Rattle.ds_gql.specs.declared.draft.Draft.{Draft}
use Rattle.ds_gql.specs.declared.draft.Phase.{Phase}
use Rattle.ds_gql.specs.declared.draft.Phase.TheVariants as phase
use Rattle.ds_tokens.specs.declared.token.Mark.TheVariants as mark
use Rattle.ds_tokens.specs.Pieces.{Piece, fixed, strange, is}
use Rattle.ds_tokens.specs.Fronts.{Shows}
use Rattle.ds_tokens.specs.Tokens.{Front, Token, front, first, is_blank, behind_blanks, tokens_from, tokens_of}
use Rattle.ds_gql.specs.Steps.{step, empty, complete}
use Rattle.ds_gql.specs.Taking.{Takes}
use Rattle.ds_gql.specs.Statements.{read_on, stepped, statement_of}

-- ---- places

-- the bytes of a token that has begun are passed over
tokens_from-left : (left place : ℕ) (text : List ℕ) → tokens_from left place text ≡ tokens_from 0 (place + length text - length (drop left text)) (drop left text)
tokens_from-left zero place text = let e : place ≡ place + length text - length text = omega arith in ap (λ n. tokens_from 0 n text) e
tokens_from-left (suc left) place [] = let e : place ≡ place + 0 - 0 = omega arith in ap (λ n. tokens_from 0 n []) e
tokens_from-left (suc left) place (b ∷ text) =
    let e : suc place + length text - length (drop left text) ≡ place + suc (length text) - length (drop left text) = omega arith in
    tokens_from-left left (suc place) text ∙ ap (λ n. tokens_from 0 n (drop left text)) e

behind_blanks-cons : (b : ℕ) (text : List ℕ) → behind_blanks (b ∷ text) ≡ cond (is_blank b) (behind_blanks text) (b ∷ text)
behind_blanks-cons b text = by (is_blank b) where
  by : (blank : Bool) → drop (cond blank (1 + prefix_len is_blank text) 0) (b ∷ text) ≡ cond blank (behind_blanks text) (b ∷ text)
  by true = let e : 1 + prefix_len is_blank text ≡ suc (prefix_len is_blank text) = omega arith in ap (λ n. drop n (b ∷ text)) e
  by false = refl

-- and so are blanks
tokens_from-blanks : (place : ℕ) (text : List ℕ) → tokens_from 0 place text ≡ tokens_from 0 (place + length text - length (behind_blanks text)) (behind_blanks text)
tokens_from-blanks place [] = let e : place ≡ place + 0 - 0 = omega arith in ap (λ n. tokens_from 0 n []) e
tokens_from-blanks place (b ∷ text) = by (is_blank b) refl (tokens_from-blanks (suc place) text) where
  Goal : Type 0
  Goal = tokens_from 0 place (b ∷ text) ≡ tokens_from 0 (place + suc (length text) - length (behind_blanks (b ∷ text))) (behind_blanks (b ∷ text))

  to : (rest : List ℕ) → behind_blanks (b ∷ text) ≡ rest → tokens_from 0 place (b ∷ text) ≡ tokens_from 0 (place + suc (length text) - length rest) rest → tokens_from 0 place (b ∷ text) ≡ tokens_from 0 (place + suc (length text) - length (behind_blanks (b ∷ text))) (behind_blanks (b ∷ text))
  to rest is e = e ∙ ap (λ (t : List ℕ). tokens_from 0 (place + suc (length text) - length t) t) (sym is)

  by : (blank : Bool) → is_blank b ≡ blank → tokens_from 0 (suc place) text ≡ tokens_from 0 (suc place + length text - length (behind_blanks text)) (behind_blanks text) → tokens_from 0 place (b ∷ text) ≡ tokens_from 0 (place + suc (length text) - length (behind_blanks (b ∷ text))) (behind_blanks (b ∷ text))
  by true is others =
      let e : suc place + length text - length (behind_blanks text) ≡ place + suc (length text) - length (behind_blanks text) = omega arith in
      to (behind_blanks text) (behind_blanks-cons b text ∙ ap (λ q. cond q (behind_blanks text) (b ∷ text)) is)
      (rw is (others ∙ ap (λ n. tokens_from 0 n (behind_blanks text)) e))
  by false is others =
      let e : place ≡ place + suc (length text) - suc (length text) = omega arith in
      to (b ∷ text) (behind_blanks-cons b text ∙ ap (λ q. cond q (behind_blanks text) (b ∷ text)) is) (ap (λ n. tokens_from 0 n (b ∷ text)) e)

-- what is behind blanks doesn't begin with one
pub record Starts (here : List ℕ) : Type 0 where
  pub no_blank : (b : ℕ) (text : List ℕ) → here ≡ b ∷ text → is_blank b ≡ false

pub behind_blanks-starts : (text : List ℕ) → Starts (behind_blanks text)
behind_blanks-starts [] = record { no_blank = λ b text is. cc }
behind_blanks-starts (c ∷ text) = by (is_blank c) refl (behind_blanks-starts text) where
  by : (blank : Bool) → is_blank c ≡ blank → Starts (behind_blanks text) → Starts (behind_blanks (c ∷ text))
  by true is others = subst Starts (sym (behind_blanks-cons c text ∙ ap (λ q. cond q (behind_blanks text) (c ∷ text)) is)) others
  by false is others =
      subst Starts (sym (behind_blanks-cons c text ∙ ap (λ q. cond q (behind_blanks text) (c ∷ text)) is))
      (record { no_blank = λ b rest same. let e : c ≡ b = cc in ap is_blank (sym e) ∙ is })

-- ---- steps

-- no statement goes on where no token stands
pub step-strange : (given : Bindings) (d : Draft) → step given d strange ≡ None
unfolding step
step-strange given d = by d.phase refl where
  by : (found : Phase) → d.phase ≡ found → step given d strange ≡ None
  by phase.Start is = rw is refl
  by phase.What is = rw is refl
  by phase.Selected is = rw is refl
  by phase.NameRead is = rw is refl
  by phase.NextName is = rw is refl
  by phase.From is = rw is refl
  by phase.KindRead is = rw is refl
  by phase.Condition is = rw is refl
  by phase.Compare is = rw is refl
  by phase.Operand is = rw is refl
  by phase.ListOpen is = rw is refl
  by phase.Listed is = rw is refl
  by phase.ListedRead is = rw is refl
  by phase.AncestorIs is = rw is refl
  by phase.AncestorKey is = rw is refl
  by phase.KeyOpen is = rw is refl
  by phase.KeyKind is = rw is refl
  by phase.KeyComma is = rw is refl
  by phase.KeyIdent is = rw is refl
  by phase.ElemRead is = rw is refl
  by phase.ConditionRead is = rw is refl
  by phase.OrderBy is = rw is refl
  by phase.Order is = rw is refl
  by phase.OrderRead is = rw is refl
  by phase.DirectionRead is = rw is refl
  by phase.Limit is = rw is refl
  by phase.LimitRead is = rw is refl
  by phase.PairedLimit is = rw is refl
  by phase.Offset is = rw is refl
  by phase.Whole is = rw is refl
  by phase.Ended is = rw is refl

pub read_on-cons : (given : Bindings) (d : Draft) (t : Token) (tokens : List Token) → read_on given d (t ∷ tokens) ≡ stepped (step given d t.piece) t (λ next. read_on given next tokens)
unfolding read_on
read_on-cons given d t tokens = refl

module _ (given : Bindings) (d : Draft) (place : ℕ) where
  token : Piece → Token
  token piece = record { piece = piece; place = place }

  -- one token, by what its step gives
  stops : (piece : Piece) (tokens : List Token) → step given d piece ≡ None → read_on given d (record { piece = piece; place = place } ∷ tokens) ≡ Err place
  stops piece tokens none =
      read_on-cons given d (record { piece = piece; place = place }) tokens
      ∙ ap (λ o. stepped o (record { piece = piece; place = place }) (λ next. read_on given next tokens)) none

  goes : (piece : Piece) (tokens : List Token) (next : Draft) → step given d piece ≡ Some next → is mark.End piece ≡ false → read_on given d (record { piece = piece; place = place } ∷ tokens) ≡ read_on given next tokens
  goes piece tokens next some not_end =
      read_on-cons given d (record { piece = piece; place = place }) tokens
      ∙ ap (λ o. stepped o (record { piece = piece; place = place }) (λ n. read_on given n tokens)) some
      ∙ ap (λ q. cond q (Ok (complete next)) (read_on given next tokens)) not_end

  ends : (piece : Piece) (tokens : List Token) (next : Draft) → step given d piece ≡ Some next → is mark.End piece ≡ true → read_on given d (record { piece = piece; place = place } ∷ tokens) ≡ Ok (complete next)
  ends piece tokens next some is_end =
      read_on-cons given d (record { piece = piece; place = place }) tokens
      ∙ ap (λ o. stepped o (record { piece = piece; place = place }) (λ n. read_on given n tokens)) some
      ∙ ap (λ q. cond q (Ok (complete next)) (read_on given next tokens)) is_end

-- the token that was found is the first one
pub data FirstIs (here : List ℕ) (place : ℕ) (piece : Piece) (rest : List ℕ) : Type 0 where
  only : (piece ≡ strange) → tokens_from 0 place here ≡ record { piece = strange; place = place } ∷ [] → FirstIs here place piece rest
  ended : (piece ≡ fixed mark.End) → tokens_from 0 place here ≡ record { piece = fixed mark.End; place = place } ∷ [] → FirstIs here place piece rest
  followed : tokens_from 0 place here ≡ record { piece = piece; place = place } ∷ tokens_from 0 (place + length here - length rest) rest → length rest < length here → FirstIs here place piece rest

first_is : (here : List ℕ) (place : ℕ) (piece : Piece) (rest : List ℕ) → Starts here → Shows (first here) here piece rest → FirstIs here place piece rest
first_is [] place piece rest starts shows = ended shows.0 refl
first_is (b ∷ text) place piece rest starts shows = by (front (b ∷ text)) refl shows where
  nonblank : is_blank b ≡ false
  nonblank = starts.no_blank b text refl

  by : (found : Option Front) → front (b ∷ text) ≡ found → Shows found (b ∷ text) piece rest → FirstIs (b ∷ text) place piece rest
  by None is shows = only shows (rw (nonblank, is) refl)
  by (Some f) is shows =
      let shorter : length rest ≤ length text = omega (arith, ap length shows.1, length-drop f.more text) in
      let e : suc place + length text - length (drop f.more text) ≡ place + suc (length text) - length rest = omega (arith, ap length shows.1) in
      followed
      (rw (nonblank, is)
      (ap (λ t. t ∷ tokens_from f.more (suc place) text) (ap (λ p. let t : Token = record { piece = p; place = place } in t) (sym shows.0))
      ∙ ap (λ ts. record { piece = piece; place = place } ∷ ts)
      (tokens_from-left f.more (suc place) text ∙ ap (λ n. tokens_from 0 n (drop f.more text)) e ∙ ap (λ t. tokens_from 0 (place + suc (length text) - length rest) t) (sym shows.1))))
      (omega arith)

-- ---- what the loop keeps

-- what is left to read from a draft on is what the whole text is
pub record LeftToRead (given : Bindings) (text : List ℕ) (d : Draft) (rest : List ℕ) : Type 0 where
  pub within : length rest ≤ length text
  pub same : read_on given d (tokens_from 0 (length text - length rest) rest) ≡ statement_of text given

pub left-start : (given : Bindings) (text : List ℕ) → LeftToRead given text empty text
unfolding statement_of tokens_of
left-start given text = let e : length text - length text ≡ 0 = omega arith in record { within = omega arith; same = ap (λ n. read_on given empty (tokens_from 0 n text)) e }

module _ {given : Bindings} {text : List ℕ} {d : Draft} {rest : List ℕ} (left : LeftToRead given text d rest) (here : List ℕ) (here_is : here ≡ behind_blanks rest) (piece : Piece) (behind : List ℕ) (shows : Shows (first here) here piece behind) where
  shorter : length here ≤ length rest
  shorter = omega (arith, ap length here_is, length-drop (prefix_len is_blank rest) rest)

  at_here : statement_of text given ≡ read_on given d (tokens_from 0 (length text - length here) here)
  at_here =
      let e : length text - length rest + length rest - length (behind_blanks rest) ≡ length text - length (behind_blanks rest) = omega (arith, left.within) in
      sym left.same
      ∙ ap (read_on given d) (tokens_from-blanks (length text - length rest) rest ∙ ap (λ n. tokens_from 0 n (behind_blanks rest)) e)
      ∙ ap (λ (t : List ℕ). read_on given d (tokens_from 0 (length text - length t) t)) (sym here_is)

  found : FirstIs here (length text - length here) piece behind
  found = first_is here (length text - length here) piece behind (subst Starts (sym here_is) (behind_blanks-starts rest)) shows

  pub left-refused : step given d piece ≡ None → statement_of text given ≡ Err (length text - length here)
  left-refused none = at_here ∙ elim found [
    | only is tokens ↦ ap (read_on given d) tokens ∙ stops given d (length text - length here) strange [] (step-strange given d)
    | ended is tokens ↦ ap (read_on given d) tokens ∙ stops given d (length text - length here) (fixed mark.End) [] (ap (step given d) (sym is) ∙ none)
    | followed tokens less ↦ ap (read_on given d) tokens ∙ stops given d (length text - length here) piece _ none
  ]

  pub left-ended : (next : Draft) → step given d piece ≡ Some next → is mark.End piece ≡ true → statement_of text given ≡ Ok (complete next)
  left-ended next some is_end = at_here ∙ elim found [
    | only is tokens ↦ absurd (let none : step given d piece ≡ None = ap (step given d) is ∙ step-strange given d in cc)
    | ended is tokens ↦ ap (read_on given d) tokens ∙ ends given d (length text - length here) (fixed mark.End) [] next (ap (step given d) (sym is) ∙ some) refl
    | followed tokens less ↦ ap (read_on given d) tokens ∙ ends given d (length text - length here) piece _ next some is_end
  ]

  pub left-further : (next : Draft) → step given d piece ≡ Some next → is mark.End piece ≡ false → LeftToRead given text next behind × (length behind < length rest)
  left-further next some not_end = elim found [
    | only is tokens ↦ absurd (let none : step given d piece ≡ None = ap (step given d) is ∙ step-strange given d in cc)
    | ended same tokens ↦ absurd (let end : is mark.End piece ≡ true = ap (is mark.End) same in cc)
    | followed tokens less ↦
        let e : length text - length here + length here - length behind ≡ length text - length behind = omega (arith, left.within, shorter) in (
          record {
            within = omega (arith, left.within, shorter);
            same =
                sym (ap (λ n. read_on given next (tokens_from 0 n behind)) e)
                ∙ sym (goes given d (length text - length here) piece _ next some not_end)
                ∙ sym (ap (read_on given d) tokens) ∙ sym at_here;
          },
          omega (arith, shorter),
        )
  ]

-- ---- what a step says

pub taken_not : (next : Option Draft) (taken : Bool) (new : Draft) → Takes next taken new → taken ≡ false → next ≡ None
taken_not next true new takes is_false = absurd (cc)
taken_not next false new takes is_false = takes

pub taken_to : (next : Option Draft) (taken : Bool) (new : Draft) → Takes next taken new → taken ≡ true → next ≡ Some new
taken_to next true new takes is_true = takes
taken_to next false new takes is_true = absurd (cc)
