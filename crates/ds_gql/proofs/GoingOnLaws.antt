-- The tokens before the place where a text stops go on to a statement.
use Rattle.std.proofs.Common.{◌≡◌, ℕ, Bool, true, false, cond, List, [], ◌∷◌, ◌++◌, Option, Some, None, Ok, Err, inl, inr, refl, sym, ap}
use Rattle.std.proofs.Common.{◌∙◌, subst}
use Rattle.ds_gql.specs.declared.statement.Bindings.{Bindings}
use Rattle.ds_gql.specs.declared.statement.Statement.{Statement}
use Rattle.ds_gql.specs.declared.draft.Draft.{Draft}
use Rattle.ds_tokens.specs.declared.token.Mark.TheVariants as mark
use Rattle.ds_tokens.specs.Pieces.{Piece, is}
use Rattle.ds_tokens.specs.Tokens.{Token, tokens_from, tokens_of}
use Rattle.ds_gql.specs.Steps.{step, empty, complete}
use Rattle.ds_gql.specs.Statements.{read_on, stepped, statement_of}
use Rattle.ds_gql.specs.GqlLaws.{pieces_of, TokensBeforeGoOn}
use Rattle.ds_gql.proofs.SentenceSteps.{stepped_to, read_pieces}
use Rattle.ds_gql.proofs.SentenceLaws.{Closed, tokens_from-closed}
use Rattle.ds_gql.proofs.ReadingLemmas.{step-strange, read_on-cons}
use Rattle.ds_gql.proofs.EndLaws.{OnlyLast, tokens_last, goes_on}
use Rattle.ds_gql.proofs.GoingOn.{IsSound, shown_of, open_of, step_sound, can_end}

-- the tokens up to the one that takes no step, and others that lead to a statement in its place
record Reaches (given : Bindings) (d : Draft) (tokens : List Token) (place : ℕ) : Type 0 where
  before : List Token
  token : Token
  behind : List Token
  all : tokens ≡ before ++ token ∷ behind
  there : token.place ≡ place
  others : List Piece
  statement : Statement
  reads : read_pieces given d (pieces_of before ++ others) ≡ Some statement

here : (given : Bindings) (d : Draft) (t : Token) (tokens : List Token) (place : ℕ) → IsSound d → t.place ≡ place → Reaches given d (t ∷ tokens) place
here given d t tokens place sound there =
    let can = can_end given d.phase (shown_of d) (open_of d) sound in
    record { before = []; token = t; behind = tokens; all = refl; there = there; others = can.pieces; statement = can.statement; reads = can.reads }

reaches : (given : Bindings) (d : Draft) (tokens : List Token) (place : ℕ) → Closed tokens → IsSound d → read_on given d tokens ≡ Err place → Reaches given d tokens place
reaches given d [] place end sound e = absurd end
reaches given d (t ∷ []) place end sound e = by (step given d t.piece) refl (sym (read_on-cons given d t []) ∙ e) where
  by : (next : Option Draft) → step given d t.piece ≡ next → stepped next t (λ n. read_on given n []) ≡ Err place → Reaches given d (t ∷ []) place
  by None halts e = here given d t [] place sound (cc)
  by (Some n) some e = absurd (elim end [
    | inl strange_there ↦ let never : step given d t.piece ≡ None = ap (step given d) strange_there ∙ step-strange given d in cc
    | inr end_there ↦
        let is_end : is mark.End t.piece ≡ true = ap (is mark.End) end_there in
        let read : Ok (complete n) ≡ Err place = sym (ap (λ q. cond q (Ok (complete n)) (read_on given n [])) is_end) ∙ e in cc
  ])
reaches given d (t ∷ u ∷ us) place closed sound e = by (step given d t.piece) refl (sym (read_on-cons given d t (u ∷ us)) ∙ e) (λ n. reaches given n (u ∷ us) place closed) where
  by : (next : Option Draft) → step given d t.piece ≡ next → stepped next t (λ n. read_on given n (u ∷ us)) ≡ Err place
      → ((n : Draft) → IsSound n → read_on given n (u ∷ us) ≡ Err place → Reaches given n (u ∷ us) place) → Reaches given d (t ∷ u ∷ us) place
  by None halts e later = here given d t (u ∷ us) place sound (cc)
  by (Some n) some e later = ended (is mark.End t.piece) refl e where
    ended : (end : Bool) → is mark.End t.piece ≡ end → cond end (Ok (complete n)) (read_on given n (u ∷ us)) ≡ Err place → Reaches given d (t ∷ u ∷ us) place
    ended true end e = absurd (cc)
    ended false end e =
        let found = later n (step_sound n t.piece end given d.phase (shown_of d) (open_of d) sound some) e in
        record {
          before = t ∷ found.before;
          token = found.token;
          behind = found.behind;
          all = ap (λ ts. t ∷ ts) found.all;
          there = found.there;
          others = found.others;
          statement = found.statement;
          reads =
              ap (λ o. stepped_to o t.piece (λ m. read_pieces given m (pieces_of found.before ++ found.others))) some
              ∙ ap (λ q. cond q (Some (complete n)) (read_pieces given n (pieces_of found.before ++ found.others))) end ∙ found.reads;
        }

pub tokens_before_go_on : TokensBeforeGoOn
unfolding statement_of tokens_of
tokens_before_go_on given text place e =
    let found = reaches given empty (tokens_from 0 0 text) place (tokens_from-closed 0 0 text) tt e in
    let only = subst OnlyLast found.all (tokens_last 0 0 text) in
    let on = goes_on given found.before found.token found.behind found.others found.statement only found.reads in
    record {
      before = found.before;
      token = found.token;
      behind = found.behind;
      all = found.all;
      there = found.there;
      more = on.0;
      statement = found.statement;
      derived = on.1;
    }
