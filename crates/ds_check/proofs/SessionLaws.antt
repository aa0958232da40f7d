-- The sessions of all clients, as they are kept.
use Rattle.std.proofs.Common.{◌≡◌, ℕ, ◌+◌, ◌<◌, ◌≤◌, List, ◌++◌, length, get_or, refl, ap, sym, ◌∙◌, subst, arith, Option, Some, None}
use Rattle.std.specs.Prelude.{map, max, slice_get, slice_set, Ok}
use Rattle.std.specs.Option.{option_map}
use Rattle.std.proofs.lemmas.List.{length-map, length-replicate, length-set}
use Rattle.std.proofs.lemmas.List.Elements.{All-get_or, All-map, All-replicate, All-set, All-weaker}
use Rattle.std.proofs.lemmas.Option.{slice_get-map, slice_get_read}
use Rattle.ds_base.specs.Limits.{greatest_client}
use Rattle.ds_asked.specs.declared.lines.Asked.{Asked}
use Rattle.ds_asked.specs.AskedLines.{was_read}
use Rattle.ds_model.specs.Answers.{BodyAnswers}
use Rattle.ds_model.specs.Sessions.{Session, first_session, first_sessions, met}
use Rattle.ds_model.specs.Worlds.{World}
use Rattle.ds_protocol.specs.Watermarks.{HaveCounts, greatest_of, raised_by}
use Rattle.ds_protocol.proofs.Meetings.{all_met, greater-length}
use Rattle.ds_reply.specs.declared.reply.Body.{Body}
use Rattle.ds_model.specs.Legal.{acknowledged_in}
use Rattle.ds_told.specs.Told.{ToldParts, above_in, draws_of, drawn_told, ids_of, printed_in}
use Rattle.ds_told.specs.declared.draws.Draws.{Draws}
use Rattle.ds_check.proofs.DrawnLaws.{noted_drawn}
use Rattle.ds_judging_lines.specs.Deciding.{Decides, IsSessionIn, IsTheAnswer, NoAnswer}
use Rattle.ds_check.specs.Walks.{AreSessions, IfAsk, IsNoted, IsRight, IsTaken, IsWrong}
use Rattle.ds_check.specs.declared.steps.Step.{Step}
use Rattle.ds_check.specs.declared.steps.Step.TheVariants.{Meet, Ask}

-- one of a list
pub got_some : {A B : Type 0} (f : A → B) (xs : List A) (i : ℕ) (x : A) → Some x ≡ slice_get xs i → slice_get (map f xs) i ≡ Some (f x)
got_some f xs i x is = slice_get-map f xs i ∙ ap (option_map f) (sym is)

-- ---- clients' sessions

-- each has a count for each shard
pub counted_each : (shards : ℕ) (ss : List Session) → AreSessions shards ss → HaveCounts shards ss
counted_each shards ss are = All-weaker (IsSessionIn shards) (λ s. length s.counts ≡ shards) (λ s own. own.counted) ss are.each

module _ (shards : ℕ) where
  -- an asking client's
  pub client_below : (items : List Session) (client : ℕ) → client ≤ greatest_client → AreSessions shards items → client < length items
  client_below items client low are = omega (arith, low, are.clients)

  pub session_in : (items : List Session) (client : ℕ) (s : Session) → client < length items → s ≡ get_or items client s
      → AreSessions shards items → IsSessionIn shards s
  session_in items client s below is are =
      subst (IsSessionIn shards) (sym is) (All-get_or (IsSessionIn shards) items client s below are.each)

  pub sessions_set : (items : List Session) (client : ℕ) (t : Session) → IsSessionIn shards t → AreSessions shards items
      → AreSessions shards (slice_set items client t)
  sessions_set items client t own are = record {
    clients = length-set items client t ∙ are.clients;
    each = All-set (IsSessionIn shards) items client t own are.each;
  }

  -- the first ones
  pub first_are : AreSessions shards (first_sessions shards)
  first_are = record {
    clients = length-replicate (greatest_client + 1) (first_session shards);
    each = All-replicate (IsSessionIn shards) (greatest_client + 1) (first_session shards)
        (record { counted = length-replicate shards 0; shown = omega arith });
  }

  -- those that have met
  pub met_are : (ss : List Session) → AreSessions shards ss → AreSessions shards (met ss)
  met_are ss are =
      let g : Session = greatest_of shards ss in
      subst (λ ts. AreSessions shards ts) (all_met shards ss (counted_each shards ss are)) (record {
        clients = length-map ss (raised_by g) ∙ are.clients;
        each = All-map (IsSessionIn shards) (raised_by g) ss
            (All-weaker (IsSessionIn shards) (λ s. IsSessionIn shards (raised_by g s))
            (λ s own. record { counted = greater-length s.counts g.counts ∙ own.counted; shown = omega (arith, own.shown) }) ss are.each);
      })

-- ---- what was found

module _ (w : World) (s : Session) (a : Asked) (line : List ℕ) (found : Option Body) (after : Session) where
  pub answer_of : (said : Body) → found ≡ Some said → Decides (λ b t. BodyAnswers w s (was_read a) b t) a.client a.number line found after
      → IsTheAnswer (λ b t. BodyAnswers w s (was_read a) b t) a.client a.number line said after
  answer_of said is decided = subst (λ o. Decides (λ b t. BodyAnswers w s (was_read a) b t) a.client a.number line o after) is decided

  pub none_of : found ≡ None → Decides (λ b t. BodyAnswers w s (was_read a) b t) a.client a.number line found after
      → NoAnswer (λ b t. BodyAnswers w s (was_read a) b t) a.client a.number line
  none_of is decided = subst (λ o. Decides (λ b t. BodyAnswers w s (was_read a) b t) a.client a.number line o after) is decided

-- what is noted of it
pub noted_as : (a : Asked) (said : Body) (told later : ToldParts) (d : Draws) → d ≡ draws_of a.request
    → later.commits ≡ told.commits ++ acknowledged_in said → ids_of later.drawn ≡ ids_of told.drawn ++ drawn_told d said
    → later.accepted ≡ max told.accepted (above_in said) → later.printed ≡ max told.printed (printed_in said) → IsNoted a said told later
noted_as a said told later d is commits drawn accepted printed = record {
  commits = commits;
  drawn = drawn
      ∙ ap (λ x. ids_of told.drawn ++ drawn_told x said) is
      ∙ ap (λ ids. ids_of told.drawn ++ ids) (sym (noted_drawn a.client a.request said));
  accepted = accepted;
  printed = printed;
}

module _ (w : World) (items : List Session) (told : ToldParts) (a : Asked) (line : List ℕ) (s : Session)
    (below : a.client < length items) (is : s ≡ get_or items a.client s) where
  pub is_right : (said : Body) (t : Session) (later : ToldParts)
      → IsTheAnswer (λ b after. BodyAnswers w s (was_read a) b after) a.client a.number line said t
      → IsNoted a said told later → IsRight w items told a line (slice_set items a.client t) later
  is_right said t later answer noted = record {
    said = said;
    session = s;
    after = t;
    own = slice_get_read items (length items) a.client s refl below is;
    put = refl;
    answer = answer;
    noted = noted;
  }

  pub is_wrong : NoAnswer (λ b after. BodyAnswers w s (was_read a) b after) a.client a.number line
      → IsWrong w items a line
  is_wrong none = record { session = s; own = slice_get_read items (length items) a.client s refl below is; none = none }

-- the sessions behind a step
pub sessions_next : (shards : ℕ) (w : World) (ss next : List Session) (told later : ToldParts) (lines : List (List ℕ)) (answered count : ℕ)
    (step : Step)
    → AreSessions shards ss → IsTaken w ss told lines answered step (Ok count) next later → IfAsk step (AreSessions shards next)
    → AreSessions shards next
sessions_next shards w ss next told later lines answered count Meet are taken kept =
    subst (λ ts. AreSessions shards ts) (sym taken.1) (met_are shards ss are)
sessions_next shards w ss next told later lines answered count (Ask a) are taken kept = kept
