-- The turns of a run, and the steps of what their lines ask: what answers the ones answers the others.
use Rattle.std.proofs.Common.{◌≡◌, ℕ, suc, ◌+◌, List, [], ◌∷◌, ◌++◌, length, map, take, refl, ap, sym, ◌∙◌, subst, arith}
use Rattle.std.proofs.Common.{append-nil, All}
use Rattle.std.specs.Prelude.{slice_get, slice_set, Result, ⊤}
use Rattle.std.proofs.Math.Seq.{take-append_seam}
use Rattle.std.proofs.lemmas.Option.{same_Some}
use Rattle.std.proofs.lemmas.List.Elements.{All-head, All-tail, All-cons, All-nil}
use Rattle.ds_asked.specs.declared.lines.Asked.{Asked}
use Rattle.ds_asked.specs.AskedLines.{was_read}
use Rattle.ds_model.specs.Answers.{BodyAnswers}
use Rattle.ds_model.specs.Asked.{Reading, client_of}
use Rattle.ds_model.specs.Sessions.{Session, first_sessions, met}
use Rattle.ds_model.specs.Worlds.{World}
use Rattle.ds_reply.specs.declared.reply.Body.{Body}
use Rattle.ds_reply.specs.declared.reply.Reply.{Reply}
use Rattle.ds_reply.specs.Replies.{reply_text}
use Rattle.ds_request.specs.declared.call.Request.{Request}
use Rattle.ds_rounds.specs.Rounds.{NumberedLine}
use Rattle.ds_judging_lines.specs.Deciding.{HasCounter}
use Rattle.ds_check.specs.declared.steps.Step.{Step}
use Rattle.ds_check.specs.declared.steps.Step.TheVariants as step
use Rattle.ds_check.specs.Walks.{AreReplies, IsFirstWrong, Stands, Walk}
use Rattle.ds_check.specs.Verdicts.{Course, Turn, Meet, Answer, Stand, IsFirstWrongReply}

-- ---- turns and steps

-- this line asks that
abbrev pub IsAsked : Reading → ℕ → NumberedLine → Asked → Type 0
IsAsked reading client line a =
    (client ≡ a.client) × (line.number ≡ a.number) × (reading line.content ≡ was_read a) × (client_of reading line.content ≡ a.client)

abbrev pub AreSteps : Reading → List Turn → List Step → Type 0
AreSteps reading [] [] = ⊤
AreSteps reading (Meet ∷ turns) (step.Meet ∷ steps) = AreSteps reading turns steps
AreSteps reading (Answer client line ∷ turns) (step.Ask a ∷ steps) = IsAsked reading client line a × AreSteps reading turns steps
AreSteps reading _ _ = ⊥

module _ (reading : Reading) (w : World) where
  pub course_walk : (ss : List Session) (turns : List Turn) (steps : List Step) (replies : List Reply) (after : List Session)
      → AreSteps reading turns steps → Course reading w ss turns replies after → Walk w ss steps replies after
  course_walk ss [] [] [] after are course = course
  course_walk ss [] [] (r ∷ replies) after are course = absurd course
  course_walk ss [] (x ∷ steps) replies after are course = absurd are
  course_walk ss (Meet ∷ turns) [] replies after are course = absurd are
  course_walk ss (Meet ∷ turns) (step.Meet ∷ steps) replies after are course = course_walk (met ss) turns steps replies after are course
  course_walk ss (Meet ∷ turns) (step.Ask a ∷ steps) replies after are course = absurd are
  course_walk ss (Answer client line ∷ turns) [] replies after are course = absurd are
  course_walk ss (Answer client line ∷ turns) (step.Meet ∷ steps) replies after are course = absurd are
  course_walk ss (Answer client line ∷ turns) (step.Ask a ∷ steps) [] after are course = absurd course
  course_walk ss (Answer client line ∷ turns) (step.Ask a ∷ steps) (r ∷ replies) after (asks_it, are) (s, next, got, answers, course) = (
    s,
    next,
    ap (slice_get ss) (sym asks_it.0) ∙ got,
    record {
      numbered = answers.numbered ∙ asks_it.1;
      addressed = answers.addressed ∙ asks_it.3;
      said = subst (λ (q : Result Request (ℕ × Body)). BodyAnswers w s q r.body next) asks_it.2 answers.said;
    },
    subst (λ n. Walk w (slice_set ss n next) steps replies after) asks_it.0
        (course_walk (slice_set ss client next) turns steps replies after are course),
  )

  pub walk_course : (ss : List Session) (turns : List Turn) (steps : List Step) (replies : List Reply) (after : List Session)
      → AreSteps reading turns steps → Walk w ss steps replies after → Course reading w ss turns replies after
  walk_course ss [] [] [] after are walk = walk
  walk_course ss [] [] (r ∷ replies) after are walk = absurd walk
  walk_course ss [] (x ∷ steps) replies after are walk = absurd are
  walk_course ss (Meet ∷ turns) [] replies after are walk = absurd are
  walk_course ss (Meet ∷ turns) (step.Meet ∷ steps) replies after are walk = walk_course (met ss) turns steps replies after are walk
  walk_course ss (Meet ∷ turns) (step.Ask a ∷ steps) replies after are walk = absurd are
  walk_course ss (Answer client line ∷ turns) [] replies after are walk = absurd are
  walk_course ss (Answer client line ∷ turns) (step.Meet ∷ steps) replies after are walk = absurd are
  walk_course ss (Answer client line ∷ turns) (step.Ask a ∷ steps) [] after are walk = absurd walk
  walk_course ss (Answer client line ∷ turns) (step.Ask a ∷ steps) (r ∷ replies) after (asks_it, are) (s, next, got, reply, walk) = (
    s,
    next,
    ap (slice_get ss) asks_it.0 ∙ got,
    record {
      numbered = reply.numbered ∙ sym asks_it.1;
      addressed = reply.addressed ∙ sym asks_it.3;
      said = subst (λ (q : Result Request (ℕ × Body)). BodyAnswers w s q r.body next) (sym asks_it.2) reply.said;
    },
    walk_course (slice_set ss client next) turns steps replies after are
        (subst (λ n. Walk w (slice_set ss n next) steps replies after) (sym asks_it.0) walk),
  )

-- ---- the lines

pub replies_stand : (replies : List Reply) (lines : List (List ℕ)) → AreReplies replies lines
    → All (λ r. HasCounter r.body) replies × (map reply_text replies ≡ map (λ line. line ++ 10 ∷ []) lines)
replies_stand [] [] are = (All-nil (λ (r : Reply). HasCounter r.body), refl)
replies_stand [] (line ∷ lines) are = absurd are
replies_stand (r ∷ replies) [] are = absurd are
replies_stand (r ∷ replies) (line ∷ lines) (counter, text, are) =
    let rest = replies_stand replies lines are in (
      All-cons (λ (q : Reply). HasCounter q.body) r replies counter rest.0,
      ap (λ t. t ∷ map reply_text replies) text ∙ ap (λ ts. (line ++ 10 ∷ []) ∷ ts) rest.1,
    )

pub stand_replies : (replies : List Reply) (lines : List (List ℕ)) → All (λ r. HasCounter r.body) replies
    → map reply_text replies ≡ map (λ line. line ++ 10 ∷ []) lines → AreReplies replies lines
stand_replies [] [] counters texts = tt
stand_replies [] (line ∷ lines) counters texts = cc
stand_replies (r ∷ replies) [] counters texts = cc
stand_replies (r ∷ replies) (line ∷ lines) counters texts =
    let here : reply_text r ≡ line ++ 10 ∷ [] = cc in
    let later : map reply_text replies ≡ map (λ line. line ++ 10 ∷ []) lines = cc in (
      All-head (λ (q : Reply). HasCounter q.body) r replies counters,
      here,
      stand_replies replies lines (All-tail (λ (q : Reply). HasCounter q.body) r replies counters) later,
    )

-- ---- the first wrong reply

abbrev Apart : Reading → List Turn → List Step → Asked → List Step → Type 0
Apart reading turns before a behind =
    (front : List Turn) × (client : ℕ) × (line : NumberedLine) × (others : List Turn) × (turns ≡ front ++ Answer client line ∷ others)
    × AreSteps reading front before × IsAsked reading client line a

apart : (reading : Reading) (turns : List Turn) (before : List Step) (a : Asked) (behind : List Step)
    → AreSteps reading turns (before ++ step.Ask a ∷ behind) → Apart reading turns before a behind
apart reading [] [] a behind are = absurd are
apart reading [] (x ∷ before) a behind are = absurd are
apart reading (Meet ∷ turns) [] a behind are = absurd are
apart reading (Answer client line ∷ turns) [] a behind (asks_it, are) = ([], client, line, turns, refl, tt, asks_it)
apart reading (Meet ∷ turns) (step.Meet ∷ before) a behind are =
    let rest = apart reading turns before a behind are in
    (Meet ∷ rest.0, rest.1, rest.2, rest.3, ap (λ ts. Meet ∷ ts) rest.4, rest.5, rest.6)
apart reading (Meet ∷ turns) (step.Ask b ∷ before) a behind are = absurd are
apart reading (Answer client line ∷ turns) (step.Meet ∷ before) a behind are = absurd are
apart reading (Answer client line ∷ turns) (step.Ask b ∷ before) a behind (asks_it, are) =
    let rest = apart reading turns before a behind are in
    (Answer client line ∷ rest.0, rest.1, rest.2, rest.3, ap (λ ts. Answer client line ∷ ts) rest.4, (asks_it, rest.5), rest.6)

pub are-append : (reading : Reading) (turns more : List Turn) (steps others : List Step) → AreSteps reading turns steps
    → AreSteps reading more others
    → AreSteps reading (turns ++ more) (steps ++ others)
are-append reading [] more [] others first second = second
are-append reading [] more (x ∷ steps) others first second = absurd first
are-append reading (Meet ∷ turns) more [] others first second = absurd first
are-append reading (Answer client line ∷ turns) more [] others first second = absurd first
are-append reading (Meet ∷ turns) more (step.Meet ∷ steps) others first second = are-append reading turns more steps others first second
are-append reading (Meet ∷ turns) more (step.Ask a ∷ steps) others first second = absurd first
are-append reading (Answer client line ∷ turns) more (step.Meet ∷ steps) others first second = absurd first
are-append reading (Answer client line ∷ turns) more (step.Ask a ∷ steps) others (asks_it, first) second =
    (asks_it, are-append reading turns more steps others first second)

take-one : (front : List (List ℕ)) (line : List ℕ) (others : List (List ℕ))
    → take (length front + 1) (front ++ line ∷ others) ≡ front ++ line ∷ []
take-one front line others =
    ap (λ k. take k (front ++ line ∷ others)) (let k : length front + 1 ≡ suc (length front) = omega arith in k) ∙ by front
  where
    by : (fs : List (List ℕ)) → take (suc (length fs)) (fs ++ line ∷ others) ≡ fs ++ line ∷ []
    by [] = refl
    by (f ∷ fs) = ap (λ ls. f ∷ ls) (by fs)

module _ (reading : Reading) (w : World) where
  -- what stands is a course
  pub stands_course : (turns : List Turn) (steps : List Step) (lines : List (List ℕ)) (now : List Session) (replies : List Reply)
      → AreSteps reading turns steps → Stands w (first_sessions w.shards) steps lines now replies
      → Course reading w (first_sessions w.shards) turns replies now × AreReplies replies lines
  stands_course turns steps lines now replies are stands = (
    walk_course reading w (first_sessions w.shards) turns steps replies now are
        (subst (λ rs. Walk w (first_sessions w.shards) steps rs now) (append-nil replies)
        (subst (λ xs. Walk w (first_sessions w.shards) xs (replies ++ []) now) (append-nil steps) (stands.further [] [] now refl))),
    subst (λ rs. AreReplies rs lines) (append-nil replies)
        (subst (λ ls. AreReplies (replies ++ []) ls) (append-nil lines) (stands.read [] [] tt)),
  )

  pub first_wrong : (turns : List Turn) (steps : List Step) (lines : List (List ℕ)) (number : ℕ) → AreSteps reading turns steps
      → IsFirstWrong w (first_sessions w.shards) steps lines number → IsFirstWrongReply reading w turns lines number
  first_wrong turns steps lines number are is =
      let cut = apart reading turns is.before is.asked is.behind (subst (λ xs. AreSteps reading turns xs) is.split are) in
      let course = stands_course cut.0 is.before is.front is.now is.replies cut.5 is.stands in
      let read = replies_stand is.replies is.front course.1 in
      record {
        before = cut.0;
        client = cut.1;
        line = cut.2;
        behind = cut.3;
        replied = length is.front;
        split = cut.4;
        stand = record {
          replies = is.replies;
          after = is.now;
          counters = read.0;
          texts = read.1 ∙ ap (λ ls. map (λ line. line ++ 10 ∷ []) ls) (sym (ap (λ ls. take (length is.front) ls) is.lines_split
              ∙ take-append_seam is.front (is.line ∷ is.others)));
          course = course.0;
        };
        fall = λ stand. falls cut stand;
        told = is.told ∙ sym cut.6.1;
      } where
        none : (rest : List Reply) (after : List Session) → AreReplies rest (is.line ∷ [])
            → Walk w is.now (step.Ask is.asked ∷ []) rest after → ⊥
        none [] after read walk = absurd read
        none (r ∷ rest) after (counter, text, read) (s, t, got, reply, walk) =
            let same : s ≡ is.wrong.session = same_Some s is.wrong.session (sym got ∙ is.wrong.own) in
            let r_is : r ≡ record { client = is.asked.client; line = is.asked.number; body = r.body } =
            λ i. record { client = reply.addressed i; line = reply.numbered i; body = r.body } in
            is.wrong.none r.body t counter (ap reply_text (sym r_is) ∙ text)
            (subst (λ x. BodyAnswers w x (was_read is.asked) r.body t) same reply.said)

        falls : (cut : Apart reading turns is.before is.asked is.behind)
            → Stand reading w (cut.0 ++ Answer cut.1 cut.2 ∷ []) (take (length is.front + 1) lines) → ⊥
        falls cut stand =
            let read : AreReplies stand.replies (is.front ++ is.line ∷ []) =
            stand_replies stand.replies (is.front ++ is.line ∷ []) stand.counters
            (stand.texts ∙ ap (λ ls. map (λ line. line ++ 10 ∷ []) ls)
            (ap (λ ls. take (length is.front + 1) ls) is.lines_split ∙ take-one is.front is.line is.others)) in
            let walk = course_walk reading w (first_sessions w.shards) (cut.0 ++ Answer cut.1 cut.2 ∷ [])
            (is.before ++ step.Ask is.asked ∷ [])
            stand.replies stand.after
            (are-append reading cut.0 (Answer cut.1 cut.2 ∷ []) is.before (step.Ask is.asked ∷ []) cut.5 (cut.6, tt)) stand.course in
            let left = is.stands.only (step.Ask is.asked ∷ []) (is.line ∷ []) stand.replies stand.after read walk in
            none left.0 stand.after left.2 left.3
