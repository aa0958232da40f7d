-- What is read of a text is a sentence, and so is what the tokens before the place where one stops go on to.
use Rattle.std.proofs.Common.{◌≡◌, ℕ, suc, Bool, true, false, cond, not, List, [], ◌∷◌, ◌++◌, length, map, Option, Some, None, inl, inr}
use Rattle.std.proofs.Common.{refl, sym, ap, ◌∙◌, subst, arith, append_assoc}
use Rattle.std.specs.Prelude.{pos, option_map, option_and_then, ◌||◌, ◌==◌, bytes_eq}
use Rattle.std.specs.List.{list_any}
use Rattle.std.proofs.lemmas.Bool.Decides.{nat_tests}
use Rattle.ds_query.specs.declared.query.Select.{Select}
use Rattle.ds_query.specs.declared.query.Select.TheVariants as select
use Rattle.ds_gql.specs.declared.statement.Bindings.{Bindings}
use Rattle.ds_gql.specs.declared.statement.Statement.{Statement}
use Rattle.ds_gql.specs.declared.draft.Phase.{Phase}
use Rattle.ds_gql.specs.declared.draft.Phase.TheVariants as phase
use Rattle.ds_gql.specs.declared.draft.Draft.{Draft}
use Rattle.ds_tokens.specs.declared.token.Mark.TheVariants as mark
use Rattle.ds_tokens.specs.Pieces.{Piece, fixed, name, is}
use Rattle.ds_gql.specs.Steps.{step, empty, complete, selected, count_of}
use Rattle.ds_base.specs.KeyColumn.{key_name}
use Rattle.ds_gql.specs.Sentences.{What, everything, keys, names, Limits, none, limit, limit_offset, pair, offset, Sentence, comma, led_by}
use Rattle.ds_gql.specs.Sentences.{what_pieces, kind_pieces, condition_pieces, order_pieces, limits_pieces, pieces, is_what, select_of}
use Rattle.ds_gql.specs.Sentences.{column_of, bounds_of, says}
use Rattle.ds_gql.proofs.SentenceSteps.{Shown, Open, draft, stepped_to, read_pieces}
use Rattle.ds_gql.proofs.GoingOn.{shown_of, open_of}
use Rattle.ds_gql.proofs.Rests.{shows, after_limits, AreCounts, or_else, Led, SelectedRest, WhatRest, Rest}
use Rattle.ds_gql.proofs.BackSteps.{back}
use Rattle.ds_gql.proofs.PieceLemmas.{is_mark}
use Rattle.ds_gql.proofs.Choices.{both}
use Rattle.ds_gql.proofs.SaidStatements.{said_statement, said_by}

-- ---- the end of a text ends the reading

ended_phase : (given : Bindings) (x : Phase) (v : Shown) (r : Open) (next : Draft) → step given (draft x v r) (fixed mark.End) ≡ Some next → next.phase ≡ phase.Ended
unfolding step
ended_phase given phase.Start v r next e = absurd (cc)
ended_phase given phase.What v r next e = absurd (cc)
ended_phase given phase.Selected v r next e = let same : draft phase.Ended v r ≡ next = cc in ap (λ (d : Draft). d.phase) (sym same)
ended_phase given phase.NameRead v r next e = let same : draft phase.Ended v r ≡ next = cc in ap (λ (d : Draft). d.phase) (sym same)
ended_phase given phase.NextName v r next e = absurd (cc)
ended_phase given phase.From v r next e = absurd (cc)
ended_phase given phase.KindRead v r next e = let same : draft phase.Ended v r ≡ next = cc in ap (λ (d : Draft). d.phase) (sym same)
ended_phase given phase.Condition v r next e = absurd (cc)
ended_phase given phase.Compare v r next e = absurd (cc)
ended_phase given phase.Operand v r next e = absurd (cc)
ended_phase given phase.ListOpen v r next e = absurd (cc)
ended_phase given phase.Listed v r next e = absurd (cc)
ended_phase given phase.ListedRead v r next e = absurd (cc)
ended_phase given phase.AncestorIs v r next e = absurd (cc)
ended_phase given phase.AncestorKey v r next e = absurd (cc)
ended_phase given phase.KeyOpen v r next e = absurd (cc)
ended_phase given phase.KeyKind v r next e = absurd (cc)
ended_phase given phase.KeyComma v r next e = absurd (cc)
ended_phase given phase.KeyIdent v r next e = absurd (cc)
ended_phase given phase.ElemRead v r next e = absurd (cc)
ended_phase given phase.ConditionRead v r next e = let same : draft phase.Ended v r ≡ next = cc in ap (λ (d : Draft). d.phase) (sym same)
ended_phase given phase.OrderBy v r next e = absurd (cc)
ended_phase given phase.Order v r next e = absurd (cc)
ended_phase given phase.OrderRead v r next e =
    let same : draft phase.Ended (record v { orders = v.orders ++ record { name = r.property; descending = false } ∷ [] }) (record r { property = [] }) ≡ next = cc in
    ap (λ (d : Draft). d.phase) (sym same)
ended_phase given phase.DirectionRead v r next e = let same : draft phase.Ended v r ≡ next = cc in ap (λ (d : Draft). d.phase) (sym same)
ended_phase given phase.Limit v r next e = absurd (cc)
ended_phase given phase.LimitRead v r next e = let same : draft phase.Ended v r ≡ next = cc in ap (λ (d : Draft). d.phase) (sym same)
ended_phase given phase.PairedLimit v r next e = absurd (cc)
ended_phase given phase.Offset v r next e = absurd (cc)
ended_phase given phase.Whole v r next e = let same : draft phase.Ended v r ≡ next = cc in ap (λ (d : Draft). d.phase) (sym same)
ended_phase given phase.Ended v r next e = absurd (cc)

-- ---- what is read is what is left of a sentence

module _ (given : Bindings) (st : Statement) where
  abbrev Left : Draft → List Piece → Type 0
  Left d ps = Rest given st d.phase (shown_of d) (open_of d) ps

  behind_step : (d n : Draft) (p : Piece) (ps : List Piece) → step given d p ≡ Some n → cond (is mark.End p) (Some (complete n)) (read_pieces given n ps) ≡ Some st → (read_pieces given n ps ≡ Some st → Left n ps) → Left n ps
  behind_step d n p ps some e later = by (is mark.End p) refl e where
    by : (end : Bool) → is mark.End p ≡ end → cond end (Some (complete n)) (read_pieces given n ps) ≡ Some st → Left n ps
    by true end e =
        let at_end : step given d (fixed mark.End) ≡ Some n = sym (ap (step given d) (is_mark mark.End p end)) ∙ some in
        let same : complete n ≡ st = cc in
        subst (λ (x : Phase). Rest given st x (shown_of n) (open_of n) ps) (sym (ended_phase given d.phase (shown_of d) (open_of d) n at_end)) same
    by false end e = later e

  read_back : (ps : List Piece) (d : Draft) → read_pieces given d ps ≡ Some st → Left d ps
  read_back [] d e = absurd (cc)
  read_back (p ∷ ps) d e = by (step given d p) refl e (λ n. read_back ps n) where
    by : (found : Option Draft) → step given d p ≡ found → stepped_to found p (λ n. read_pieces given n ps) ≡ Some st → ((n : Draft) → read_pieces given n ps ≡ Some st → Left n ps) → Left d (p ∷ ps)
    by None some e later = absurd (cc)
    by (Some n) some e later = back given st n ps (behind_step d n p ps some e (later n)) p d.phase (shown_of d) (open_of d) some

-- ---- the parts of a sentence together

bounds_said : (l : Limits) → AreCounts l → (v : Shown) → v.offset ≡ 0 → v.limit ≡ None → bounds_of l ≡ Some ((after_limits v l).offset, (after_limits v l).limit)
bounds_said none counts v no_offset no_limit = λ i. Some ((sym no_offset) i, (sym no_limit) i)
bounds_said (limit n) counts v no_offset no_limit = ap (option_map (λ (c : ℕ). (0, Some c))) counts ∙ ap (λ (m : ℕ). Some (m, Some n)) (sym no_offset)
bounds_said (limit_offset n m) counts v no_offset no_limit =
    ap (option_and_then (λ (c : ℕ). option_map (λ (e : ℕ). (e, Some c)) (count_of (pos m)))) counts.0 ∙ ap (option_map (λ (e : ℕ). (e, Some n))) counts.1
bounds_said (pair m n) counts v no_offset no_limit =
    ap (option_and_then (λ (e : ℕ). option_map (λ (c : ℕ). (e, Some c)) (count_of (pos n)))) counts.0 ∙ ap (option_map (λ (c : ℕ). (m, Some c))) counts.1
bounds_said (offset m) counts v no_offset no_limit = ap (option_map (λ (e : ℕ). (e, None))) counts ∙ ap (λ (l : Option ℕ). Some (m, l)) (sym no_limit)

limits_only : (v : Shown) (l : Limits) → record v { offset = (after_limits v l).offset; limit = (after_limits v l).limit } ≡ after_limits v l
limits_only v none = refl
limits_only v (limit n) = refl
limits_only v (limit_offset n m) = refl
limits_only v (pair m n) = refl
limits_only v (offset m) = refl

only_kind : (kind : Option (List ℕ)) → kind ≡ or_else None kind
only_kind None = refl
only_kind (Some text) = refl

some_length : (n : ℕ) → (suc n == 0) ≡ false
some_length n = grind (arith, nat_tests)

-- further pieces in front
in_front : (a rest more behind : List Piece) → rest ≡ more ++ behind → a ++ rest ≡ (a ++ more) ++ behind
in_front a rest more behind e = ap (λ r. a ++ r) e ∙ sym (append_assoc a more behind)

-- the tokens of a sentence, and what follows its end
pub record Begins (given : Bindings) (ps : List Piece) (st : Statement) : Type 0 where
  pub sentence : Sentence
  pub behind : List Piece
  pub spelled : ps ≡ pieces sentence ++ behind
  pub said : says given sentence ≡ Some st

module _ (given : Bindings) (st : Statement) where
  abbrev selects : Select → List (List ℕ) → Shown
  selects found ns = record { select = found; names = ns; kind = None; ancestor = None; filters = []; orders = []; offset = 0; limit = None }

  whole : (w : What) (found : Select) (ns : List (List ℕ)) (ps tail : List Piece) → is_what w ≡ true → selected found ns ≡ select_of w → ps ≡ what_pieces w ++ tail → SelectedRest given st (selects found ns) tail → Begins given (fixed mark.Select ∷ ps) st
  whole w found ns ps tail lawful same spelled s =
      let c = s.rest in
      let o = c.rest in
      let l = o.rest in
      let v : Shown = record (selects found ns) { kind = or_else None s.kind; filters = c.next.0; ancestor = c.next.1; orders = map column_of o.orders } in
      let sentence : Sentence = record { what = w; kind = s.kind; conditions = c.conditions; orders = o.orders; limits = l.limits } in
      let ends : limits_pieces l.limits ++ fixed mark.End ∷ l.behind ≡ (limits_pieces l.limits ++ fixed mark.End ∷ []) ++ l.behind = in_front (limits_pieces l.limits) (fixed mark.End ∷ l.behind) (fixed mark.End ∷ []) l.behind refl in
      let chosen : said_statement sentence c.next ((after_limits v l.limits).offset, (after_limits v l.limits).limit) ≡ st =
      (λ i. let t : Statement = record {
        query = record {
          namespace = [];
          kind = only_kind s.kind i;
          ancestor = c.next.1;
          filters = c.next.0;
          orders = map column_of o.orders;
          select = sym same i;
          cursors = false;
        };
        offset = (after_limits v l.limits).offset;
        limit = (after_limits v l.limits).limit;
      } in t)
      ∙ ap shows (limits_only v l.limits) ∙ l.same in
      record {
        sentence = sentence;
        behind = l.behind;
        spelled =
            ap (λ q. fixed mark.Select ∷ q)
            (spelled ∙ in_front (what_pieces w) tail _ l.behind
            (s.spelled ∙ in_front (kind_pieces s.kind) s.tail _ l.behind
            (c.spelled ∙ in_front (led_by (fixed mark.Where ∷ []) (fixed mark.And) condition_pieces c.conditions) c.tail _ l.behind
            (o.spelled ∙ in_front (led_by (fixed mark.Order ∷ fixed mark.By ∷ []) comma order_pieces o.orders) o.tail _ l.behind
            (l.spelled ∙ ends)))));
        said =
            said_by _ _ _ (said_statement sentence) c.next ((after_limits v l.limits).offset, (after_limits v l.limits).limit)
            (both _ _ lawful s.lawful) c.said (bounds_said l.limits l.counts v refl refl)
            ∙ ap Some chosen;
      }

  from_what : (ps : List Piece) → WhatRest given st (selects select.Entities []) ps → Begins given (fixed mark.Select ∷ ps) st
  from_what ps (inl star) = whole everything select.Entities [] ps star.tail refl refl star.spelled star.rest
  from_what ps (inr (inl k)) = whole keys select.Keys [] ps k.tail refl refl k.spelled k.rest
  from_what ps (inr (inr n)) =
      whole (names n.text n.rest.names) select.Entities (n.text ∷ n.rest.names) ps n.rest.tail
      (ap (λ b. not (b || list_any (λ m. bytes_eq m key_name) n.rest.names)) n.other ∙ ap not n.rest.other)
      (ap (λ b. cond b select.Entities (select.Projection (n.text ∷ n.rest.names))) (some_length (length n.rest.names)))
      (n.spelled ∙ ap (λ q. name n.text ∷ q) n.rest.spelled) n.rest.rest

  pub sentence_begins : (ps : List Piece) → read_pieces given empty ps ≡ Some st → Begins given ps st
  sentence_begins ps e =
      let first : Led mark.Select (WhatRest given st (selects select.Entities [])) ps = read_back given st ps empty e in
      subst (λ (qs : List Piece). Begins given qs st) (sym first.spelled) (from_what first.tail first.rest)
