-- What the replies to the lines of a load tell: each put that is acknowledged is a commit of its item, and nothing else is committed.
use Rattle.std.proofs.Common.{◌≡◌, ℕ, zero, suc, ◌+◌, ◌-◌, ◌<◌, pos, List, [], ◌∷◌, ◌++◌, refl, ap, sym, ◌∙◌, arith, Bool, true}
use Rattle.std.proofs.Common.{false, inl, inr, map, length, Option, Some, None, subst, ◌⊎◌, append-nil, append_assoc, mod-lt}
use Rattle.std.specs.Prelude.{Ok, Err, Result, ◌==◌, ◌%◌, filter, flat_map, slice_get}
use Rattle.std.specs.List.{AllByRecursion, range_with_len}
use Rattle.ds_entity.specs.declared.entity.Property.{Property}
use Rattle.ds_base.specs.declared.value.Value.{Value}
use Rattle.ds_base.specs.declared.value.Value.TheVariants.{Int}
use Rattle.ds_base.specs.Keys.{KeyParts}
use Rattle.ds_log.specs.declared.Commit.{Commit}
use Rattle.ds_log.specs.declared.Write.{Write}
use Rattle.ds_log.specs.declared.Write.TheVariants.{Put}
use Rattle.ds_request.specs.declared.call.Call.{Call}
use Rattle.ds_request.specs.declared.call.Call.TheVariants as call
use Rattle.ds_request.specs.declared.call.Request.{Request}
use Rattle.ds_reply.specs.declared.reply.WriteAt.{WriteAt}
use Rattle.ds_reply.specs.declared.reply.WriteAt.TheVariants as at
use Rattle.ds_reply.specs.declared.reply.Body.{Body}
use Rattle.ds_reply.specs.declared.reply.Body.TheVariants as body
use Rattle.ds_reply.specs.declared.reply.Reply.{Reply}
use Rattle.ds_rounds.specs.Rounds.{NumberedLine}
use Rattle.ds_model.specs.Answers.{Answers, WriteAnswers, CallAnswers, SearchAnswers}
use Rattle.ds_model.specs.Asked.{Reading, Search, client_asked, client_of}
use Rattle.ds_model.specs.Legal.{ClientSteps, RoundSteps, RoundsSteps, acknowledged, acknowledged_in, by_client, answered_lines}
use Rattle.ds_model.specs.Refusals.{Places}
use Rattle.ds_model.specs.Sessions.{Session, Transaction, met, raised_to}
use Rattle.ds_model.specs.Worlds.{World}
use Rattle.std.proofs.lemmas.List.{map-append}
use Rattle.ds_model.proofs.AllOf.{all-filter}
use Rattle.ds_model.proofs.OkReplies.{is_ok, OkAnswers, ReadingRefuses, ok_answers}
use Rattle.ds_load.specs.Items.{item_of, key_of_item}
use Rattle.ds_load.proofs.Asked.{put_request}
use Rattle.ds_load.proofs.Counts.{times, SameTimes, times-append}
use Rattle.ds_load.proofs.Shares.{AreTold, Tells, parted, served, told-append, own}

-- ---- the item that a commit puts

-- the number of an item stands in its third property
abbrev value_in : List Value → ℕ
value_in (Int (pos n) ∷ []) = n
value_in _ = 0

abbrev third_in : List Property → ℕ
third_in (p ∷ q ∷ r ∷ ps) = value_in r.values
third_in _ = 0

abbrev pub index_in : List Write → ℕ
index_in (Put e ∷ ws) = third_in e.properties
index_in _ = 0

abbrev pub index_of : Commit → ℕ
index_of c = index_in c.writes

abbrev pub index_if : Option Commit → ℕ
index_if None = 0
index_if (Some c) = index_of c

abbrev pub index_at : List Commit → ℕ → ℕ
index_at journal n = index_if (slice_get journal (n - 1))

-- the commit puts one item, and does nothing else
abbrev pub IsPut : Commit → Type 0
IsPut c = c.writes ≡ Put (item_of (index_of c)) ∷ []

abbrev pub IsPutAt : List Commit → ℕ → Type 0
IsPutAt journal n = (c : Commit) × (slice_get journal (n - 1) ≡ Some c) × IsPut c

-- ---- the item that a line puts

abbrev index_called : Call → ℕ
index_called (call.Put key incomplete properties) = third_in properties
index_called _ = 0

abbrev pub index_asked : Result Request (ℕ × Body) → ℕ
index_asked (Ok r) = index_called r.call
index_asked (Err e) = 0

abbrev pub index_told : Reading → NumberedLine → ℕ
index_told reading line = index_asked (reading line.content)

abbrev pub IsPutLine : Reading → NumberedLine → Type 0
IsPutLine reading line = (i : ℕ) × (reading line.content ≡ Ok (put_request i))

-- ---- one reply

pub nothing_told : (said : Body) → is_ok said ≡ false → acknowledged_in said ≡ []
nothing_told (body.Put key place) refused = cc
nothing_told (body.Delete key place) refused = cc
nothing_told (body.Commit n) refused = cc
nothing_told _ refused = refl

module _ (reading : Reading) (refuses : ReadingRefuses reading) (w : World) where
  abbrev pub TellsItem : NumberedLine → List ℕ → Type 0
  TellsItem = Tells (index_told reading) (index_at w.journal) acknowledged (IsPutAt w.journal)

  abbrev pub AreItems : List NumberedLine → List Reply → Type 0
  AreItems = AreTold (index_told reading) (index_at w.journal) acknowledged (IsPutAt w.journal)

  -- what holds of the commits of a reply to a put of this item
  abbrev OfItem : ℕ → List ℕ → Type 0
  OfItem i ns = (ns ≡ []) ⊎ ((n : ℕ) × (ns ≡ n ∷ []) × (index_at w.journal n ≡ i) × IsPutAt w.journal n)

  by_write : (client i : ℕ) (s later : Session) (t : Option Transaction) (key printed : KeyParts) (place : WriteAt)
      → printed ≡ key_of_item i
      → WriteAnswers w client s t (Put (record { key = printed; properties = (item_of i).properties })) key place later
      → OfItem i (acknowledged_in (body.Put printed place))
  by_write client i s later None key printed (at.Commit n) is a =
      let c : Commit = record {
        client = client;
        touched = [];
        writes = Put (record { key = printed; properties = (item_of i).properties })
            ∷ [];
      } in
      let put : IsPut c = ap (λ k. Put (record { key = k; properties = (item_of i).properties }) ∷ []) is in
      inr (n, refl, ap index_if a.0.committed, (c, a.0.committed, put))
  by_write client i s later (Some t) key printed (at.Place m) is a = inl refl
  by_write client i s later None key printed (at.Place m) is a = absurd a
  by_write client i s later (Some t) key printed (at.Commit n) is a = absurd a

  by_call : (i : ℕ) (s later : Session) (said : Body) → CallAnswers w (put_request i).client s (put_request i).call said later
      → OfItem i (acknowledged_in said)
  by_call i s later (body.Put printed place) a = by_write (put_request i).client i s later s.transaction printed printed place a.completed
      a.written
  by_call i s later (body.IdNotIssued id next) a = inl refl
  by_call i s later (body.IdsExhausted next) a = inl refl
  by_call i s later _ a = absurd a

  by_search : (i : ℕ) (s later : Session) (search : Search) (places : Places) (said : Body)
      → SearchAnswers w s (put_request i).call search places said later → OfItem i (acknowledged_in said)
  by_search i s later search places (body.Expired applied m snapshot) a = inl refl
  by_search i s later search places _ a = absurd a

  by_asked : (i : ℕ) (s later : Session) (said : Body) → OkAnswers w s (Ok (put_request i)) said later → OfItem i (acknowledged_in said)
  by_asked i s later said (inl a) = by_call i s later said a
  by_asked i s later said (inr (search, places, a)) = by_search i s later search places said a

  put_told : (s later : Session) (line : NumberedLine) (reply : Reply) → IsPutLine reading line → Answers reading w s line reply later
      → TellsItem line (acknowledged reply)
  put_told s later line reply (i, is) a = by (is_ok reply.body) refl where
    numbered : OfItem i (acknowledged reply) → TellsItem line (acknowledged reply)
    numbered (inl none) = inl none
    numbered (inr (n, one, item, put)) = inr (n, one, item ∙ sym (ap index_asked is), put)

    by : (ok : Bool) → is_ok reply.body ≡ ok → TellsItem line (acknowledged reply)
    by true ok = numbered (by_asked i s later reply.body (subst (λ r. OkAnswers w s r reply.body later) is
        (ok_answers w s later reading refuses line reply ok a)))
    by false refused = inl (nothing_told reply.body refused)

  -- ---- rounds of puts

  abbrev of_client : List NumberedLine → ℕ → List NumberedLine
  of_client round client = filter (λ line. client_of reading line.content == client) round

  abbrev pub ArePuts : List NumberedLine → Type 0
  ArePuts = AllByRecursion (IsPutLine reading)

  puts_of : (client : ℕ) (round : List NumberedLine) → ArePuts round → ArePuts (of_client round client)
  puts_of client round all = all-filter (IsPutLine reading) (λ line. client_of reading line.content == client) round all

  steps_told : (s : Session) (lines : List NumberedLine) (replies : List Reply) (after : Session) → ArePuts lines
      → ClientSteps reading w s lines replies after → AreItems lines replies
  steps_told s [] [] after all steps = tt
  steps_told s [] (r ∷ replies) after all steps = absurd steps
  steps_told s (l ∷ lines) [] after all steps = absurd steps
  steps_told s (l ∷ lines) (r ∷ replies) after all (next, first, rest) =
      (put_told s next l r all.0 first, steps_told next lines replies after all.1 rest)

  items-append : (xs xs' : List NumberedLine) (ys ys' : List Reply) → AreItems xs ys → AreItems xs' ys' → AreItems (xs ++ xs') (ys ++ ys')
  items-append = told-append (index_told reading) (index_at w.journal) acknowledged (IsPutAt w.journal)

  round_told : (round : List NumberedLine) (client : ℕ) (sessions : List Session) (replies : List Reply) (after : List Session)
      → ArePuts round → RoundSteps reading w round client sessions replies after
      → AreItems (flat_map (of_client round) (range_with_len client (length sessions))) replies × (length after ≡ length sessions)
  round_told round client [] replies after all steps = (subst (AreItems []) (sym steps.0) tt, ap (λ (ss : List Session). length ss) steps.1)
  round_told round client (s ∷ sessions) replies [] all steps = absurd steps
  round_told round client (s ∷ sessions) replies (t ∷ after) all (own, others, whole, first, rest) =
      let later = round_told round (client + 1) sessions others after all rest in (
        subst (AreItems (of_client round client ++ flat_map (of_client round) (range_with_len (client + 1) (length sessions)))) (sym whole)
            (items-append (of_client round client) (flat_map (of_client round) (range_with_len (client + 1) (length sessions))) own others
            (steps_told s (of_client round client) own t (puts_of client round all) first) later.0),
        omega (arith, later.1),
      )

  length-met : (f : Session → Session) (ss : List Session) → length (map f ss) ≡ length ss
  length-met f [] = refl
  length-met f (s ∷ ss) = omega (arith, length-met f ss)

  -- rounds of puts, and one round behind them
  pub record EndsWith (rounds : List (List NumberedLine)) (last : List NumberedLine) (replies : List Reply) : Type 0 where
    pub front : List Reply
    pub back : List Reply
    pub whole : replies ≡ front ++ back
    pub told : AreItems (answered_lines reading rounds) front
    pub sessions : List Session
    pub sixteen : length sessions ≡ 16
    pub after : List Session
    pub steps : RoundSteps reading w last 0 sessions back after

  pub ends_with : (rounds : List (List NumberedLine)) (last : List NumberedLine) (sessions : List Session) (replies : List Reply)
      (after : List Session) → AllByRecursion ArePuts rounds → length sessions ≡ 16
      → RoundsSteps reading w (rounds ++ last ∷ []) sessions replies after → EndsWith rounds last replies
  ends_with [] last sessions replies after all sixteen (own, others, between, whole, first, rest) = record {
    front = [];
    back = own;
    whole = whole ∙ ap (λ rs. own ++ rs) rest.0 ∙ append-nil own;
    told = tt;
    sessions = met sessions;
    sixteen = length-met (raised_to sessions) sessions ∙ sixteen;
    after = between;
    steps = first;
  }
  ends_with (round ∷ rounds) last sessions replies after all sixteen (own, others, between, whole, first, rest) =
      let many : length (met sessions) ≡ 16 = length-met (raised_to sessions) sessions ∙ sixteen in
      let now = round_told round 0 (met sessions) own between all.0 first in
      let later = ends_with rounds last between others after all.1 (now.1 ∙ many) rest in
      record {
        front = own ++ later.front;
        back = later.back;
        whole = whole ∙ ap (λ rs. own ++ rs) later.whole ∙ sym (append_assoc own later.front later.back);
        told = items-append (by_client reading round) (answered_lines reading rounds) own later.front
            (subst (λ n. AreItems (flat_map (of_client round) (range_with_len 0 n)) own) many now.0) later.told;
        sessions = later.sessions;
        sixteen = later.sixteen;
        after = later.after;
        steps = later.steps;
      }

  -- ---- each line is some client's

  once_served : (n : ℕ) → n < 4 → served n (range_with_len 0 16) ≡ 1
  once_served zero small = refl
  once_served (suc zero) small = refl
  once_served (suc (suc zero)) small = refl
  once_served (suc (suc (suc zero))) small = refl
  once_served (suc (suc (suc (suc n)))) small = absurd (omega (arith, small))

  served_by : (line : NumberedLine) → IsPutLine reading line → served (client_of reading line.content) (range_with_len 0 16) ≡ 1
  served_by line (i, is) =
      ap (λ r. served (client_asked r) (range_with_len 0 16)) is ∙ once_served (i % 4) (mod-lt i (omega arith))

  all_served : (round : List NumberedLine) → ArePuts round
      → AllByRecursion (λ (line : NumberedLine). served (client_of reading line.content) (range_with_len 0 16) ≡ 1) round
  all_served [] all = tt
  all_served (line ∷ lines) all = (served_by line all.0, all_served lines all.1)

  -- the lines that are answered are those of the rounds, in another order
  pub same_lines : (rounds : List (List NumberedLine)) → AllByRecursion ArePuts rounds
      → SameTimes (map (index_told reading) (answered_lines reading rounds)) (map (index_told reading) (flat_map (λ round. round) rounds))
  same_lines [] all k = refl
  same_lines (round ∷ rounds) all k =
      ap (times k) (map-append (index_told reading) (by_client reading round) (answered_lines reading rounds))
      ∙ times-append k (map (index_told reading) (by_client reading round)) (map (index_told reading) (answered_lines reading rounds))
      ∙ ap (λ n. n + times k (map (index_told reading) (answered_lines reading rounds)))
      (parted (index_told reading) (λ (line : NumberedLine). client_of reading line.content) k (range_with_len 0 16) round
      (all_served round all.0))
      ∙ ap (λ n. times k (map (index_told reading) round) + n) (same_lines rounds all.1 k)
      ∙ sym (times-append k (map (index_told reading) round) (map (index_told reading) (flat_map (λ round. round) rounds)))
      ∙ ap (times k) (sym (map-append (index_told reading) round (flat_map (λ round. round) rounds)))
