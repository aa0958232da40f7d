-- Rounds of clients' steps, and the same replies turn by turn.
use Rattle.std.proofs.Common.{◌≡◌, ℕ, suc, ◌+◌, ◌==◌, List, [], ◌∷◌, ◌++◌, length, map, flat_map, filter, refl, ap, sym, ◌∙◌, subst}
use Rattle.std.proofs.Common.{arith}
use Rattle.std.proofs.Common.{Bool, true, false, cond, Some, append_assoc, length-append, eqb-true}
use Rattle.std.specs.Prelude.{slice_get, slice_set}
use Rattle.std.specs.List.{range_with_len, AllByRecursion}
use Rattle.std.proofs.lemmas.List.{length-map, map-append}
use Rattle.ds_base.specs.Limits.{greatest_client}
use Rattle.ds_reply.specs.declared.reply.Reply.{Reply}
use Rattle.ds_rounds.specs.Rounds.{NumberedLine}
use Rattle.ds_model.specs.Answers.{Answers}
use Rattle.ds_model.specs.Asked.{Reading, client_of}
use Rattle.ds_model.specs.Legal.{ClientSteps, RoundSteps, RoundsSteps, by_client}
use Rattle.ds_model.specs.Sessions.{Session, met}
use Rattle.ds_model.specs.Worlds.{World}
use Rattle.ds_check.specs.Verdicts.{Turn, Meet, Answer, Course, turns_of}

-- ---- one session among others

get-behind : (front : List Session) (s : Session) (others : List Session) → slice_get (front ++ s ∷ others) (length front) ≡ Some s
get-behind [] s others = refl
get-behind (f ∷ front) s others = get-behind front s others

set-behind : (front : List Session) (s t : Session) (others : List Session)
    → slice_set (front ++ s ∷ others) (length front) t ≡ front ++ t ∷ others
set-behind [] s t others = refl
set-behind (f ∷ front) s t others = ap (λ ss. f ∷ ss) (set-behind front s t others)

some-same : (s t : Session) → Some s ≡ Some t → s ≡ t
some-same s t is = cc

module _ (reading : Reading) (w : World) where
  abbrev answer : NumberedLine → Turn
  answer line = Answer (client_of reading line.content) line

  -- ---- one behind another

  pub course-append : (ss : List Session) (turns more : List Turn) (replies others : List Reply) (mid after : List Session)
      → Course reading w ss turns replies mid → Course reading w mid more others after
      → Course reading w ss (turns ++ more) (replies ++ others) after
  course-append ss [] more [] others mid after first second = subst (λ us. Course reading w us more others after) first second
  course-append ss [] more (r ∷ replies) others mid after first second = absurd first
  course-append ss (Meet ∷ turns) more replies others mid after first second =
      course-append (met ss) turns more replies others mid after first second
  course-append ss (Answer client line ∷ turns) more [] others mid after first second = absurd first
  course-append ss (Answer client line ∷ turns) more (r ∷ replies) others mid after (s, next, got, answers, first) second =
      (s, next, got, answers, course-append (slice_set ss client next) turns more replies others mid after first second)

  abbrev Divided : List Session → List Turn → List Turn → List Reply → List Session → Type 0
  Divided ss turns more replies after =
      (mid : List Session) × (first : List Reply) × (second : List Reply) × (replies ≡ first ++ second)
      × Course reading w ss turns first mid × Course reading w mid more second after

  pub course-divided : (ss : List Session) (turns more : List Turn) (replies : List Reply) (after : List Session)
      → Course reading w ss (turns ++ more) replies after → Divided ss turns more replies after
  course-divided ss [] more replies after course = (ss, [], replies, refl, refl, course)
  course-divided ss (Meet ∷ turns) more replies after course = course-divided (met ss) turns more replies after course
  course-divided ss (Answer client line ∷ turns) more [] after course = absurd course
  course-divided ss (Answer client line ∷ turns) more (r ∷ replies) after (s, next, got, answers, course) =
      let rest = course-divided (slice_set ss client next) turns more replies after course in
      (rest.0, r ∷ rest.1, rest.2, ap (λ rs. r ∷ rs) rest.3, (s, next, got, answers, rest.4), rest.5)

  -- ---- one client

  abbrev AreOf : ℕ → List NumberedLine → Type 0
  AreOf client = AllByRecursion (λ line. client_of reading line.content ≡ client)

  client-course : (front : List Session) (s t : Session) (others : List Session) (lines : List NumberedLine) (replies : List Reply)
      → AreOf (length front) lines → ClientSteps reading w s lines replies t
      → Course reading w (front ++ s ∷ others) (map answer lines) replies (front ++ t ∷ others)
  client-course front s t others [] [] own steps = ap (λ u. front ++ u ∷ others) steps
  client-course front s t others [] (r ∷ replies) own steps = absurd steps
  client-course front s t others (l ∷ lines) [] own steps = absurd steps
  client-course front s t others (l ∷ lines) (r ∷ replies) own (next, answers, steps) = (
    s,
    next,
    ap (slice_get (front ++ s ∷ others)) own.0 ∙ get-behind front s others,
    answers,
    subst (λ ss. Course reading w ss (map answer lines) replies (front ++ t ∷ others))
        (sym (ap (λ n. slice_set (front ++ s ∷ others) n next) own.0 ∙ set-behind front s next others))
        (client-course front next t others lines replies own.1 steps),
  )

  abbrev ClientRan : List Session → Session → List Session → List NumberedLine → List Reply → List Session → Type 0
  ClientRan front s others lines replies after = (t : Session) × (after ≡ front ++ t ∷ others) × ClientSteps reading w s lines replies t

  client-steps : (front : List Session) (s : Session) (others : List Session) (lines : List NumberedLine) (replies : List Reply)
      (after : List Session) → AreOf (length front) lines
      → Course reading w (front ++ s ∷ others) (map answer lines) replies after → ClientRan front s others lines replies after
  client-steps front s others [] [] after own course = (s, course, refl)
  client-steps front s others [] (r ∷ replies) after own course = absurd course
  client-steps front s others (l ∷ lines) [] after own course = absurd course
  client-steps front s others (l ∷ lines) (r ∷ replies) after own (before, next, got, answers, course) =
      let same : s ≡ before = some-same s before (sym (get-behind front s others) ∙ ap (slice_get (front ++ s ∷ others)) (sym own.0)
      ∙ got) in
      let rest = client-steps front next others lines replies after own.1
      (subst (λ ss. Course reading w ss (map answer lines) replies after)
      (ap (λ n. slice_set (front ++ s ∷ others) n next) own.0 ∙ set-behind front s next others) course) in
      (rest.0, rest.1, (next, subst (λ b. Answers reading w b l r next) (sym same) answers, rest.2))

  -- ---- all clients of a round

  abbrev own_lines : ℕ → List NumberedLine → List NumberedLine
  own_lines client = filter (λ line. client_of reading line.content == client)

  own : (client : ℕ) (round : List NumberedLine) → AreOf client (own_lines client round)
  own client [] = tt
  own client (l ∷ round) = by (own client round) (client_of reading l.content == client) refl where
    by : AreOf client (own_lines client round) → (b : Bool) → (client_of reading l.content == client) ≡ b
        → AreOf client (cond b (l ∷ own_lines client round) (own_lines client round))
    by rest true is = (eqb-true (client_of reading l.content) client is, rest)
    by rest false is = rest

  abbrev lines_from : List NumberedLine → ℕ → ℕ → List NumberedLine
  lines_from round client count = flat_map (λ c. own_lines c round) (range_with_len client count)

  round-course : (round : List NumberedLine) (client : ℕ) (front sessions after : List Session) (replies : List Reply)
      → client ≡ length front → RoundSteps reading w round client sessions replies after
      → Course reading w (front ++ sessions) (map answer (lines_from round client (length sessions))) replies (front ++ after)
  round-course round client front [] after replies at_front (none, same) =
      subst (λ rs. Course reading w (front ++ []) [] rs (front ++ after)) (sym none) (ap (λ ss. front ++ ss) same)
  round-course round client front (s ∷ sessions) [] replies at_front steps = absurd steps
  round-course round client front (s ∷ sessions) (t ∷ after) replies at_front (first, second, split, one, steps) =
      let mine : AreOf (length front) (own_lines client round) = subst (λ c. AreOf c (own_lines client round)) at_front (own client round)
      in
      let later = round-course round (client + 1) (front ++ t ∷ []) sessions after second
      (omega (arith, at_front, length-append front (t ∷ []))) steps in
      subst (λ turns. Course reading w (front ++ s ∷ sessions) turns replies (front ++ t ∷ after))
      (sym (map-append answer (own_lines client round) (lines_from round (client + 1) (length sessions))))
      (subst (λ rs. Course reading w (front ++ s ∷ sessions) (map answer (own_lines client round) ++ map answer
      (lines_from round (client + 1) (length sessions))) rs (front ++ t ∷ after))
      (sym split)
      (course-append (front ++ s ∷ sessions) (map answer (own_lines client round))
      (map answer (lines_from round (client + 1) (length sessions))) first second
      (front ++ t ∷ sessions) (front ++ t ∷ after)
      (client-course front s t sessions (own_lines client round) first mine one)
      (subst (λ ss. Course reading w ss (map answer (lines_from round (client + 1) (length sessions))) second (front ++ t ∷ after))
      (append_assoc front (t ∷ []) sessions)
      (subst (λ ss. Course reading w ((front ++ t ∷ []) ++ sessions) (map answer (lines_from round (client + 1) (length sessions))) second
      ss)
      (append_assoc front (t ∷ []) after) later))))

  abbrev RoundRan : List NumberedLine → ℕ → List Session → List Session → List Reply → List Session → Type 0
  RoundRan round client front sessions replies after =
      (others : List Session) × (after ≡ front ++ others) × (length others ≡ length sessions)
      × RoundSteps reading w round client sessions replies others

  round-steps : (round : List NumberedLine) (client : ℕ) (front sessions after : List Session) (replies : List Reply)
      → client ≡ length front
      → Course reading w (front ++ sessions) (map answer (lines_from round client (length sessions))) replies after
      → RoundRan round client front sessions replies after
  round-steps round client front [] after [] at_front course = ([], course, refl, (refl, refl))
  round-steps round client front [] after (r ∷ replies) at_front course = absurd course
  round-steps round client front (s ∷ sessions) after replies at_front course =
      let mine : AreOf (length front) (own_lines client round) = subst (λ c. AreOf c (own_lines client round)) at_front (own client round)
      in
      let parts = course-divided (front ++ s ∷ sessions) (map answer (own_lines client round))
      (map answer (lines_from round (client + 1) (length sessions))) replies after
      (subst (λ turns. Course reading w (front ++ s ∷ sessions) turns replies after)
      (map-append answer (own_lines client round) (lines_from round (client + 1) (length sessions))) course) in
      let one = client-steps front s sessions (own_lines client round) parts.1 parts.0 mine parts.4 in
      let same : parts.0 ≡ (front ++ one.0 ∷ []) ++ sessions = one.1 ∙ sym (append_assoc front (one.0 ∷ []) sessions) in
      let rest = round-steps round (client + 1) (front ++ one.0 ∷ []) sessions after parts.2
      (omega (arith, at_front, length-append front (one.0 ∷ [])))
      (subst (λ ss. Course reading w ss (map answer (lines_from round (client + 1) (length sessions))) parts.2 after) same parts.5) in
      (one.0 ∷ rest.0, rest.1 ∙ append_assoc front (one.0 ∷ []) rest.0, ap suc rest.2, (parts.1, parts.2, parts.3, one.2, rest.3))

  -- ---- rounds

  length-met : (ss : List Session) → length (met ss) ≡ length ss
  length-met ss = length-map ss _

  steps-length : (round : List NumberedLine) (client : ℕ) (ss after : List Session) (replies : List Reply)
      → RoundSteps reading w round client ss replies after → length after ≡ length ss
  steps-length round client [] after replies (none, same) = ap (λ (us : List Session). length us) same
  steps-length round client (s ∷ ss) [] replies steps = absurd steps
  steps-length round client (s ∷ ss) (t ∷ after) replies (first, second, split, one, steps) =
      ap suc (steps-length round (client + 1) ss after second steps)

  abbrev IsAll : List Session → Type 0
  IsAll ss = length ss ≡ greatest_client + 1

  pub rounds-course : (rounds : List (List NumberedLine)) (ss after : List Session) (replies : List Reply) → IsAll ss
      → RoundsSteps reading w rounds ss replies after → Course reading w ss (turns_of reading rounds) replies after
  rounds-course [] ss after replies all (none, same) = subst (λ rs. Course reading w ss [] rs after) (sym none) same
  rounds-course (round ∷ rounds) ss after replies all (first, second, between, split, one, steps) =
      let many : length (met ss) ≡ greatest_client + 1 = length-met ss ∙ all in
      subst (λ rs. Course reading w (met ss) (map answer (by_client reading round) ++ turns_of reading rounds) rs after) (sym split)
      (course-append (met ss) (map answer (by_client reading round)) (turns_of reading rounds) first second between after
      (subst (λ n. Course reading w (met ss) (map answer (lines_from round 0 n)) first between) many
      (round-course round 0 [] (met ss) between first refl one))
      (rounds-course rounds between after second (steps-length round 0 (met ss) between first one ∙ many) steps))

  pub rounds-steps : (rounds : List (List NumberedLine)) (ss after : List Session) (replies : List Reply) → IsAll ss
      → Course reading w ss (turns_of reading rounds) replies after → RoundsSteps reading w rounds ss replies after
  rounds-steps [] ss after [] all course = (refl, course)
  rounds-steps [] ss after (r ∷ replies) all course = absurd course
  rounds-steps (round ∷ rounds) ss after replies all course =
      let many : length (met ss) ≡ greatest_client + 1 = length-met ss ∙ all in
      let parts = course-divided (met ss) (map answer (by_client reading round)) (turns_of reading rounds) replies after course in
      let one = round-steps round 0 [] (met ss) parts.0 parts.1 refl
      (subst (λ n. Course reading w (met ss) (map answer (lines_from round 0 n)) parts.1 parts.0) (sym many) parts.4) in
      let same : parts.0 ≡ one.0 = one.1 in (
        parts.1,
        parts.2,
        one.0,
        parts.3,
        one.3,
        rounds-steps rounds one.0 after parts.2 (one.2
            ∙ many) (subst (λ us. Course reading w us (turns_of reading rounds) parts.2 after) same parts.5),
      )
