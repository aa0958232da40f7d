-- The last round of a load: a settle and the query, which are one client's.
use Rattle.std.proofs.Common.{◌≡◌, ℕ, ◌+◌, ◌≤◌, List, [], ◌∷◌, ◌++◌, refl, ap, ◌∙◌, arith, Bool, true, false}
use Rattle.std.proofs.Common.{cond, inl, inr, length, Option, Some, None, subst, ◌⊎◌, append-nil, ne_eqb}
use Rattle.std.specs.Prelude.{Ok, Result, ◌==◌, filter, flat_map, slice_get, codes}
use Rattle.json.specs.Print.{escape_byte}
use Rattle.ds_entity.specs.declared.results.Item.{Item}
use Rattle.ds_entity.specs.declared.results.Seen.TheVariants as seen
use Rattle.ds_planner.specs.Missing.{Missing, missing_of}
use Rattle.ds_query.specs.declared.field.Field.TheVariants as field
use Rattle.ds_query.specs.declared.query.Select.{Select}
use Rattle.ds_query.specs.declared.query.Select.TheVariants as select
use Rattle.ds_request.specs.declared.call.Request.{Request}
use Rattle.ds_request.specs.declared.call.Call.TheVariants as call
use Rattle.ds_reply.specs.declared.reply.Body.{Body}
use Rattle.ds_reply.specs.declared.reply.Body.TheVariants as body
use Rattle.ds_reply.specs.declared.reply.Reply.{Reply}
use Rattle.ds_reply_lines.specs.ReplyLines.{reply_line}
use Rattle.ds_rounds.specs.Rounds.{NumberedLine}
use Rattle.ds_model.specs.Answers.{Answers, BodyAnswers, CountsWithin, FoundOver, SearchAnswers}
use Rattle.ds_model.specs.Answers.{SearchRefusedOrAnswered, UnlessRefused}
use Rattle.ds_model.specs.Asked.{Reading, Search, client_asked, client_of}
use Rattle.ds_model.specs.Legal.{ClientSteps, RoundSteps, acknowledged, acknowledged_in}
use Rattle.ds_model.specs.Refusals.{BeforeFirst, Behind, IfUnrefused, Nothing, PlaceRead, Places, Refused, Told, ancestor_refusal}
use Rattle.ds_model.specs.Refusals.{cursor_refusal, first_refusal, form_refusal, missing_body, missing_refusal}
use Rattle.ds_model.specs.Results.{items_of, result}
use Rattle.ds_model.specs.Sessions.{Session, Transaction}
use Rattle.ds_model.specs.Views.{global_view}
use Rattle.ds_model.specs.Worlds.{World}
use Rattle.ds_model.proofs.OkReplies.{is_ok, OkAnswers, ReadingRefuses, ok_answers}
use Rattle.ds_load.proofs.Asked.{query_call, query_request, settle_request}
use Rattle.ds_load.proofs.Found.{branch, columns, normal, query, window}
use Rattle.ds_load.proofs.Puts.{nothing_told}

-- a refusal, which tells no counts: the first member of its reply is the client
abbrev pub IsRefusal : Body → Type 0
IsRefusal b = (client number : ℕ) → slice_get (reply_line (record { client = client; line = number; body = b })) 2 ≡ Some 99

module _ (reading : Reading) (refuses : ReadingRefuses reading) (w : World) (l m : NumberedLine)
    (settles : reading l.content ≡ Ok settle_request) (queries : reading m.content ≡ Ok query_request) where
  -- ---- whose lines they are

  abbrev of_client : ℕ → List NumberedLine
  of_client client = filter (λ line. client_of reading line.content == client) (l ∷ m ∷ [])

  abbrev shared : Result Request (ℕ × Body) → Result Request (ℕ × Body) → ℕ → List NumberedLine
  shared a b client = cond (client_asked a == client) (l ∷ cond (client_asked b == client) (m ∷ []) [])
      (cond (client_asked b == client) (m ∷ []) [])

  of_both : (client : ℕ) → of_client client ≡ shared (Ok settle_request) (Ok query_request) client
  of_both client = ap (λ a. shared a (reading m.content) client) settles ∙ ap (λ b. shared (Ok settle_request) b client) queries

  of_none : (client : ℕ) → 1 ≤ client → of_client client ≡ []
  of_none client other = of_both client
      ∙ ap (λ b. cond b (l ∷ cond b (m ∷ []) []) (cond b (m ∷ []) [])) (ne_eqb 0 client (λ e. omega arith))

  no_replies : (s : Session) (own : List Reply) (t : Session) → ClientSteps reading w s [] own t → own ≡ []
  no_replies s [] t steps = refl
  no_replies s (r ∷ own) t steps = absurd steps

  others_silent : (client : ℕ) (sessions : List Session) (replies : List Reply) (after : List Session) → 1 ≤ client
      → RoundSteps reading w (l ∷ m ∷ []) client sessions replies after → replies ≡ []
  others_silent client [] replies after other steps = steps.0
  others_silent client (s ∷ sessions) replies [] other steps = absurd steps
  others_silent client (s ∷ sessions) replies (t ∷ after) other (own, others, whole, first, rest) =
      whole
      ∙ ap (λ rs. rs ++ others) (no_replies s own t (subst (λ ls. ClientSteps reading w s ls own t) (of_none client other) first))
      ∙ others_silent (client + 1) sessions others after (omega (arith, other)) rest

  -- the two replies
  pub record TwoReplies (back : List Reply) : Type 0 where
    pub first : Reply
    pub second : Reply
    pub are : back ≡ first ∷ second ∷ []
    pub before : Session
    pub between : Session
    pub behind : Session
    pub settled : Answers reading w before l first between
    pub found : Answers reading w between m second behind

  two_steps : (s : Session) (own : List Reply) (t : Session) → ClientSteps reading w s (l ∷ m ∷ []) own t → TwoReplies own
  two_steps s [] t steps = absurd steps
  two_steps s (r ∷ []) t (next, first, rest) = absurd rest
  two_steps s (r ∷ q ∷ []) t (next, first, (last, second, rest)) =
      record { first = r; second = q; are = refl; before = s; between = next; behind = last; settled = first; found = second }
  two_steps s (r ∷ q ∷ p ∷ own) t (next, first, (last, second, rest)) = absurd rest

  pub two_replies : (sessions : List Session) (back : List Reply) (after : List Session) → length sessions ≡ 16
      → RoundSteps reading w (l ∷ m ∷ []) 0 sessions back after → TwoReplies back
  two_replies [] back after sixteen steps = absurd (omega (arith, sixteen))
  two_replies (s ∷ sessions) back [] sixteen steps = absurd steps
  two_replies (s ∷ sessions) back (t ∷ after) sixteen (own, others, whole, first, rest) =
      let two = two_steps s own t (subst (λ ls. ClientSteps reading w s ls own t) (of_both 0) first) in
      record {
        first = two.first;
        second = two.second;
        are = whole ∙ ap (λ rs. own ++ rs) (others_silent 1 sessions others after (omega arith) rest) ∙ append-nil own ∙ two.are;
        before = two.before;
        between = two.between;
        behind = two.behind;
        settled = two.settled;
        found = two.found;
      }

  -- ---- they acknowledge nothing

  settle_quiet : (s later : Session) (said : Body) → OkAnswers w s (Ok settle_request) said later → acknowledged_in said ≡ []
  settle_quiet s later (body.Settle place counts) a = refl
  settle_quiet s later said (inr (search, places, a)) = by said a where
    by : (said : Body) → SearchAnswers w s call.Settle search places said later → acknowledged_in said ≡ []
    by (body.Expired applied place snapshot) a = refl
    by _ a = absurd a
  settle_quiet s later _ (inl a) = absurd a

  query_quiet : (s later : Session) (said : Body) → OkAnswers w s (Ok query_request) said later → acknowledged_in said ≡ []
  query_quiet s later said (inl a) = absurd a
  query_quiet s later said (inr (search, places, a)) = by said a where
    by : (said : Body) → SearchAnswers w s query_call search places said later → acknowledged_in said ≡ []
    by (body.Query selected results saw cursor) a = refl
    by (body.Expired applied place snapshot) a = refl
    by _ a = absurd a

  quiet : (s later : Session) (line : NumberedLine) (reply : Reply) (r : Request) → ((said : Body) → OkAnswers w s (Ok r) said later
      → acknowledged_in said ≡ [])
      → reading line.content ≡ Ok r → Answers reading w s line reply later → acknowledged reply ≡ []
  quiet s later line reply r none is a = by (is_ok reply.body) refl where
    by : (ok : Bool) → is_ok reply.body ≡ ok → acknowledged reply ≡ []
    by true ok = none reply.body (subst (λ o. OkAnswers w s o reply.body later) is (ok_answers w s later reading refuses line reply ok a))
    by false refused = nothing_told reply.body refused

  pub both_quiet : (back : List Reply) → TwoReplies back → flat_map acknowledged back ≡ []
  both_quiet back two =
      ap (flat_map acknowledged) two.are
      ∙ ap (λ ns. ns ++ (acknowledged two.second ++ [])) (quiet two.before two.between l two.first settle_request
      (settle_quiet two.before two.between) settles two.settled)
      ∙ ap (λ ns. ns ++ []) (quiet two.between two.behind m two.second query_request (query_quiet two.between two.behind) queries two.found)

  -- ---- what the query found

  abbrev pub search : Search
  search = record { query = query; offset = 0; limit = None; start = None; end = None; cursor = false }

  -- a reply that tells counts is an answer, over the entities that they count
  pub record FoundAt (counts : List ℕ) (said : Body) : Type 0 where
    pub results : List Item
    pub is : said ≡ body.Query (select.Projection (codes "c" ∷ [])) results (seen.Counts counts) None
    pub within : (s : Session) × CountsWithin (λ shard. 0) 0 s.counts w.lists counts
    pub exact : results ≡ items_of columns (select.Projection (codes "c" ∷ [])) (global_view w.lists counts)
        (result normal window (global_view w.lists counts)).rows

  abbrev NoAnswer : Option Body → Type 0
  NoAnswer None = Unit {0}
  NoAnswer (Some b) = IsRefusal b

  form_none : (t : Option Transaction) → NoAnswer (first_refusal (None ∷ ancestor_refusal t None ∷ []))
  unfolding escape_byte
  form_none None = tt
  form_none (Some t) = λ client number. refl

  missing_none : (o : Option Missing) → NoAnswer (first_refusal (missing_body o ∷ None ∷ []))
  unfolding escape_byte
  missing_none None = tt
  missing_none (Some missing) = λ client number. refl

  memory_none : IsRefusal body.NoMemory
  unfolding escape_byte
  memory_none client number = refl

  abbrev ReadPlaces : Option Body → Told → Told → Type 0
  ReadPlaces form start end = IfUnrefused form (PlaceRead branch None start
      × IfUnrefused (cursor_refusal field.Start start) (PlaceRead branch None end))

  abbrev pub IsRefused : Body → Type 0
  IsRefused said = (b : Body) × (said ≡ b) × IsRefusal b

  -- without a refusal no place was told
  unrefused : (A : Told → Told → Type 0) (s later : Session) (said : Body) (form missing : Option Body) (start end : Told) → NoAnswer form
      → NoAnswer missing → ReadPlaces form start end
      → UnlessRefused (first_refusal (form ∷ cursor_refusal field.Start start ∷ cursor_refusal field.End end ∷ missing ∷ None ∷ [])) s said
      later (A start end) → IsRefused said ⊎ A Nothing Nothing
  unrefused A s later said (Some b) missing start end unformed found_all read a = inl (b, a.0, unformed)
  unrefused A s later said None missing (Refused why) end unformed found_all read a = absurd read.0
  unrefused A s later said None missing BeforeFirst end unformed found_all read a = absurd read.0
  unrefused A s later said None missing (Behind place) end unformed found_all read a = absurd read.0
  unrefused A s later said None missing Nothing (Refused why) unformed found_all read a = absurd read.1
  unrefused A s later said None missing Nothing BeforeFirst unformed found_all read a = absurd read.1
  unrefused A s later said None missing Nothing (Behind place) unformed found_all read a = absurd read.1
  unrefused A s later said None (Some b) Nothing Nothing unformed found_all read a = inl (b, a.0, found_all)
  unrefused A s later said None None Nothing Nothing unformed found_all read a = inr a

  abbrev nowhere : Told → Told → Places
  nowhere start end = record { start = start; end = end }

  answered : (s later : Session) (said : Body) → SearchRefusedOrAnswered w s query_call search said later
      → IsRefused said ⊎ SearchAnswers w s query_call search (nowhere Nothing Nothing) said later
  answered s later said a =
      unrefused (λ start end. SearchAnswers w s query_call search (nowhere start end) said later) s later said
      (form_refusal s query) (missing_refusal w.definitions (branch ∷ [])) a.places.start a.places.end (form_none s.transaction)
      (missing_none (missing_of branch w.definitions)) a.read a.answered

  found_over : (s later : Session) (selected : Select) (results : List Item) (counts : List ℕ) (cursor : Option (List ℕ))
      → FoundOver w s search (nowhere Nothing Nothing) None selected results (seen.Counts counts) cursor later
      → FoundAt counts (body.Query selected results (seen.Counts counts) cursor)
  found_over s later selected results counts cursor (within, finds, seen_then) = record {
    results = results;
    is = ap (λ sel. body.Query sel results (seen.Counts counts) cursor) finds.select
        ∙ ap (body.Query (select.Projection (codes "c" ∷ [])) results (seen.Counts counts)) finds.next;
    within = (s, within);
    exact = finds.exact ∙ ap (λ sel. items_of columns sel (global_view w.lists counts)
        (result normal window (global_view w.lists counts)).rows) finds.select;
  }

  by_search : (s later : Session) (said : Body) → SearchAnswers w s query_call search (nowhere Nothing Nothing) said later
      → (counts : List ℕ) × FoundAt counts said
  by_search s later (body.Query selected results (seen.Counts counts) cursor) a =
      (counts, found_over s later selected results counts cursor a)
  by_search s later (body.Query selected results (seen.Place place) cursor) a = absurd a
  by_search s later (body.Expired applied place snapshot) a = absurd a
  by_search s later _ a = absurd a

  by_answer : (s later : Session) (said : Body) → IsRefused said ⊎ SearchAnswers w s query_call search (nowhere Nothing Nothing) said later
      → IsRefused said ⊎ ((counts : List ℕ) × FoundAt counts said)
  by_answer s later said (inl refused) = inl refused
  by_answer s later said (inr a) = inr (by_search s later said a)

  by_body : (s later : Session) (said : Body) → BodyAnswers w s (Ok query_request) said later → IsRefused said
      ⊎ ((counts : List ℕ) × FoundAt counts said)
  by_body s later body.NoMemory a = inl (body.NoMemory, refl, memory_none)
  by_body s later said a = by_answer s later said (answered s later said a)

  -- the second reply is a refusal, or what the query found
  pub found_at : (back : List Reply) (two : TwoReplies back) → IsRefused two.second.body
      ⊎ ((counts : List ℕ) × FoundAt counts two.second.body)
  found_at back two =
      by_body two.between two.behind two.second.body (subst (λ r. BodyAnswers w two.between r two.second.body two.behind) queries
      two.found.said)
