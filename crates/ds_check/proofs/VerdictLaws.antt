-- From the walk over a run to what a verdict says of it.
use Rattle.std.proofs.Common.{◌≡◌, ℕ, zero, suc, ◌+◌, ◌-◌, ◌<◌, ◌≤◌, List, [], ◌∷◌, ◌++◌, length, map, flat_map, refl, ap}
use Rattle.std.proofs.Common.{sym, ◌∙◌, subst, arith, Some, None, append-nil, All}
use Rattle.std.specs.Prelude.{slice_set, ◌↔◌, IsPermutation}
use Rattle.std.specs.List.{range_with_len}
use Rattle.std.proofs.lemmas.List.{length-map, length-replicate}
use Rattle.std.proofs.lemmas.List.Elements.{All-nil, All-cons, All-head, All-tail, All-append}
use Rattle.std.proofs.lemmas.List.FromFn.{get_or-range_with_len, length-range_with_len}
use Rattle.std.proofs.lemmas.List.Sorted.{All-permutation}
use Rattle.std.proofs.lemmas.Option.{same_Some}
use Rattle.ds_base.specs.Limits.{greatest_client, greatest_id}
use Rattle.ds_indexdef.specs.declared.IndexDef.{IndexDef}
use Rattle.ds_log.specs.declared.Commit.{Commit}
use Rattle.ds_reply.specs.declared.reply.Body.{Body}
use Rattle.ds_reply.specs.declared.reply.Body.TheVariants as body
use Rattle.ds_reply.specs.declared.reply.Reply.{Reply}
use Rattle.ds_reply.specs.Replies.{reply_text, replies_text}
use Rattle.ds_rounds.specs.Rounds.{NumberedLine}
use Rattle.ds_model.specs.Answers.{BodyAnswers}
use Rattle.ds_model.specs.Asked.{Reading, asked, client_of}
use Rattle.ds_model.specs.Legal.{IdsDrawn, Legal, accepted, answered_lines, by_client, drawn_by, drawn_in, printed_next}
use Rattle.ds_model.specs.Legal.{printed_next_in}
use Rattle.ds_model.specs.Sessions.{Session, first_id, first_session, first_sessions, met}
use Rattle.ds_model.specs.Worlds.{World, world_of}
use Rattle.ds_asked.specs.declared.lines.Asked.{Asked}
use Rattle.ds_asked.specs.AskedLines.{AreAskedRounds, was_read}
use Rattle.ds_history.specs.Histories.{HistoryParts}
use Rattle.ds_reply_lines.specs.ReplyLines.{IsWhole, reply_line, whole_lines}
use Rattle.ds_reply_lines.proofs.RepliesBack.{replies_lines}
use Rattle.ds_reply_lines.proofs.Splitting.{ended-whole, whole-ended}
use Rattle.ds_told.specs.Told.{ToldParts}
use Rattle.ds_told.proofs.Accepted.{All-first, All-second, accepted_above, accepted_below, printed_above, printed_within}
use Rattle.ds_judging_lines.specs.Deciding.{HasCounter}
use Rattle.ds_check.specs.Verdicts.{AcknowledgesAll, AllAnswer, Answer, Course, HasLines, IsLegalText, IsVerdict, Meet, Turn, ended_lines}
use Rattle.ds_check.specs.Verdicts.{turns_of}
use Rattle.ds_check.specs.Walks.{AllNoted, AreAllCommits, AreIssuedIn, AreReplies, IsFirstWrong, IsJudged, IsWalked, Walk, asks}
use Rattle.ds_check.specs.Walks.{drawn_steps, steps_of}
use Rattle.ds_check.specs.declared.checking.Verdict.{Verdict}
use Rattle.ds_check.specs.declared.checking.Verdict.TheVariants as verdict
use Rattle.ds_check.specs.declared.steps.Step.{Step}
use Rattle.ds_check.specs.declared.steps.Step.TheVariants as step
use Rattle.ds_check.proofs.AskedSteps.{are_steps}
use Rattle.ds_check.proofs.Courses.{rounds-course, rounds-steps}
use Rattle.ds_check.proofs.DrawnLaws.{answer_drawn}
use Rattle.ds_check.proofs.Turns.{AreSteps, course_walk, first_wrong, replies_stand, stands_course}

-- ---- the lines of turns

abbrev lines_in : List Turn → List NumberedLine
lines_in [] = []
lines_in (Meet ∷ turns) = lines_in turns
lines_in (Answer client line ∷ turns) = line ∷ lines_in turns

lines-map : (reading : Reading) (lines : List NumberedLine) (turns : List Turn)
    → lines_in (map (λ line. Answer (client_of reading line.content) line) lines ++ turns) ≡ lines ++ lines_in turns
lines-map reading [] turns = refl
lines-map reading (line ∷ lines) turns = ap (λ ls. line ∷ ls) (lines-map reading lines turns)

lines-turns : (reading : Reading) (rounds : List (List NumberedLine)) → lines_in (turns_of reading rounds) ≡ answered_lines reading rounds
lines-turns reading [] = refl
lines-turns reading (round ∷ rounds) =
    lines-map reading (by_client reading round) (turns_of reading rounds)
    ∙ ap (λ ls. by_client reading round ++ ls) (lines-turns reading rounds)

asks-lines : (reading : Reading) (turns : List Turn) (steps : List Step) → AreSteps reading turns steps
    → asks steps ≡ length (lines_in turns)
asks-lines reading [] [] are = refl
asks-lines reading [] (x ∷ steps) are = absurd are
asks-lines reading (Meet ∷ turns) [] are = absurd are
asks-lines reading (Meet ∷ turns) (step.Meet ∷ steps) are = asks-lines reading turns steps are
asks-lines reading (Meet ∷ turns) (step.Ask a ∷ steps) are = absurd are
asks-lines reading (Answer client line ∷ turns) [] are = absurd are
asks-lines reading (Answer client line ∷ turns) (step.Meet ∷ steps) are = absurd are
asks-lines reading (Answer client line ∷ turns) (step.Ask a ∷ steps) are = ap suc (asks-lines reading turns steps are.1)

drawn-lines : (reading : Reading) (turns : List Turn) (steps : List Step) (replies : List Reply) → AreSteps reading turns steps
    → drawn_in reading (lines_in turns) replies ≡ drawn_steps steps replies
drawn-lines reading [] [] replies are = refl
drawn-lines reading [] (x ∷ steps) replies are = absurd are
drawn-lines reading (Meet ∷ turns) [] replies are = absurd are
drawn-lines reading (Meet ∷ turns) (step.Meet ∷ steps) replies are = drawn-lines reading turns steps replies are
drawn-lines reading (Meet ∷ turns) (step.Ask a ∷ steps) replies are = absurd are
drawn-lines reading (Answer client line ∷ turns) [] replies are = absurd are
drawn-lines reading (Answer client line ∷ turns) (step.Meet ∷ steps) replies are = absurd are
drawn-lines reading (Answer client line ∷ turns) (step.Ask a ∷ steps) [] are = refl
drawn-lines reading (Answer client line ∷ turns) (step.Ask a ∷ steps) (r ∷ replies) (asks_it, are) =
    ap (λ q. drawn_by q r.body ++ drawn_in reading (lines_in turns) replies) asks_it.2
    ∙ ap (λ ids. drawn_by (was_read a) r.body ++ ids) (drawn-lines reading turns steps replies are)

course-counted : (reading : Reading) (w : World) (ss : List Session) (turns : List Turn) (replies : List Reply) (after : List Session)
    → Course reading w ss turns replies after → length replies ≡ length (lines_in turns)
course-counted reading w ss [] [] after course = refl
course-counted reading w ss [] (r ∷ replies) after course = absurd course
course-counted reading w ss (Meet ∷ turns) replies after course = course-counted reading w (met ss) turns replies after course
course-counted reading w ss (Answer client line ∷ turns) [] after course = absurd course
course-counted reading w ss (Answer client line ∷ turns) (r ∷ replies) after (s, next, got, answers, course) =
    ap suc (course-counted reading w (slice_set ss client next) turns replies after course)

-- there are as many lines as are asked
pub asks_answered : (reading : Reading) (rounds : List (List NumberedLine)) (steps : List Step)
    → AreSteps reading (turns_of reading rounds) steps
    → asks steps ≡ length (answered_lines reading rounds)
asks_answered reading rounds steps are =
    asks-lines reading (turns_of reading rounds) steps are ∙ ap (λ (ls : List NumberedLine). length ls) (lines-turns reading rounds)

-- ---- the lines of replies

replies-ended : (replies : List Reply) (lines : List (List ℕ)) → AreReplies replies lines → replies_text replies ≡ ended_lines lines
replies-ended [] [] are = refl
replies-ended [] (line ∷ lines) are = absurd are
replies-ended (r ∷ replies) [] are = absurd are
replies-ended (r ∷ replies) (line ∷ lines) (counter, text, are) =
    ap (λ t. t ++ replies_text replies) text ∙ ap (λ ts. (line ++ 10 ∷ []) ++ ts) (replies-ended replies lines are)

lines-read : (replies : List Reply) → All (λ r. HasCounter r.body) replies → AreReplies replies (map reply_line replies)
lines-read [] counters = tt
lines-read (r ∷ replies) counters = (
  All-head (λ (q : Reply). HasCounter q.body) r replies counters,
  refl,
  lines-read replies (All-tail (λ (q : Reply). HasCounter q.body) r replies counters),
)

-- ---- a legal run's counters

walk-drawn : (w : World) (ss : List Session) (steps : List Step) (replies : List Reply) (after : List Session)
    → Walk w ss steps replies after
    → All (λ n. n < greatest_id) (drawn_steps steps replies)
walk-drawn w ss [] replies after walk = All-nil (λ n. n < greatest_id)
walk-drawn w ss (step.Meet ∷ steps) replies after walk = walk-drawn w (met ss) steps replies after walk
walk-drawn w ss (step.Ask a ∷ steps) [] after walk = All-nil (λ n. n < greatest_id)
walk-drawn w ss (step.Ask a ∷ steps) (r ∷ replies) after (s, next, got, reply, walk) =
    All-append (λ n. n < greatest_id) (drawn_by (was_read a) r.body) (drawn_steps steps replies)
    (answer_drawn w s a.client a.request r.body next reply.said) (walk-drawn w (slice_set ss a.client next) steps replies after walk)

-- a range of numbers that are below the greatest id ends no higher
range-bounded : (bound : ℕ) → first_id ≤ bound → All (λ n. n < greatest_id) (range_with_len first_id (bound - first_id))
    → bound ≤ greatest_id
range-bounded bound low all = by (bound - first_id) refl all where
  by : (n : ℕ) → bound - first_id ≡ n → All (λ m. m < greatest_id) (range_with_len first_id n) → bound ≤ greatest_id
  by zero is below = omega (arith, low, is)
  by (suc n) is below =
      let last = below n 0 (omega (arith, length-range_with_len first_id (suc n))) in
      let at = get_or-range_with_len first_id (suc n) n 0 (omega arith) in
      omega (arith, low, is, last, at)

counters-within : (bound : ℕ) (replies : List Reply) → bound ≤ greatest_id → All (λ next. next ≤ bound) (flat_map printed_next replies)
    → All (λ r. HasCounter r.body) replies
counters-within bound [] low printed = All-nil (λ (q : Reply). HasCounter q.body)
counters-within bound (r ∷ replies) low printed =
    All-cons (λ (q : Reply). HasCounter q.body) r replies
    (by r.body (All-first (λ next. next ≤ bound) (printed_next r) (flat_map printed_next replies) printed))
    (counters-within bound replies low (All-second (λ next. next ≤ bound) (printed_next r) (flat_map printed_next replies) printed)) where
      by : (b : Body) → All (λ next. next ≤ bound) (printed_next_in b) → HasCounter b
      by (body.IdsExhausted next) within =
          let most : next ≤ bound = All-head (λ n. n ≤ bound) next [] within in omega (arith, low, most)
      by _ within = tt

-- ---- both ways

module _ (definitions : List IndexDef) (shards window : ℕ) (rounds : List (List NumberedLine)) (journal : List Commit) (text : List ℕ)
    (steps : List Step) (lines : List (List ℕ)) (are : AreSteps (asked shards) (turns_of (asked shards) rounds) steps)
    (whole : whole_lines text ≡ Some lines) where
  abbrev world : World
  world = world_of definitions shards (Some window) journal

  abbrev first : List Session
  first = first_sessions shards

  all-clients : length first ≡ greatest_client + 1
  all-clients = length-replicate (greatest_client + 1) (first_session shards)

  abbrev Noted : (ToldParts → Type 0) → Type 0
  Noted numbers = AllNoted world first steps lines numbers

  abbrev legal_text : Type 0
  legal_text = IsLegalText definitions shards window rounds journal text

  -- ---- from the walk

  course-of : (told : ToldParts) (walked : IsWalked world first steps lines told)
      → Course (asked shards) world first (turns_of (asked shards) rounds) walked.replies walked.after × AreReplies walked.replies lines
  course-of told walked =
      stands_course (asked shards) world (turns_of (asked shards) rounds) steps lines walked.after walked.replies are walked.stands

  written-by : (replies : List Reply) → AreReplies replies lines → text ≡ replies_text replies
  written-by replies read = (ended-whole text lines whole).text_is ∙ sym (replies-ended replies lines read)

  drawn-of : (replies : List Reply) → drawn_in (asked shards) (answered_lines (asked shards) rounds) replies ≡ drawn_steps steps replies
  drawn-of replies =
      ap (λ ls. drawn_in (asked shards) ls replies) (sym (lines-turns (asked shards) rounds))
      ∙ drawn-lines (asked shards) (turns_of (asked shards) rounds) steps replies are

  all-commits : (told : ToldParts) (walked : IsWalked world first steps lines told) → AreAllCommits (length journal) told
      → AcknowledgesAll journal walked.replies
  all-commits told walked all = subst (λ ns. IsPermutation ns (range_with_len 1 (length journal))) walked.told_is.commits all

  commits-back : (told : ToldParts) (walked : IsWalked world first steps lines told) → AcknowledgesAll journal walked.replies
      → AreAllCommits (length journal) told
  commits-back told walked all = subst (λ ns. IsPermutation ns (range_with_len 1 (length journal))) (sym walked.told_is.commits) all

  ids-drawn : (told : ToldParts) (walked : IsWalked world first steps lines told) → AreIssuedIn told
      → IdsDrawn (asked shards) rounds walked.replies
  ids-drawn told walked issued = record {
    bound = issued.bound;
    from_first = issued.from_first;
    each_once = subst (λ ids. IsPermutation ids (range_with_len first_id (issued.bound - first_id)))
        (walked.told_is.drawn ∙ sym (drawn-of walked.replies)) issued.each_once;
    accepted_below = (accepted_below issued.bound 0 walked.replies (subst (λ n. n ≤ issued.bound) walked.told_is.accepted
        issued.accepted_below)).1;
    printed_within = (printed_within issued.bound 0 walked.replies (subst (λ n. n ≤ issued.bound) walked.told_is.printed
        issued.printed_within)).1;
  }

  ids-back : (told : ToldParts) (walked : IsWalked world first steps lines told) → IdsDrawn (asked shards) rounds walked.replies
      → AreIssuedIn told
  ids-back told walked ids = record {
    bound = ids.bound;
    from_first = ids.from_first;
    each_once = subst (λ ns. IsPermutation ns (range_with_len first_id (ids.bound - first_id)))
        (drawn-of walked.replies ∙ sym walked.told_is.drawn) ids.each_once;
    accepted_below = subst (λ n. n ≤ ids.bound) (sym walked.told_is.accepted)
        (accepted_above ids.bound 0 walked.replies (omega arith) ids.accepted_below);
    printed_within = subst (λ n. n ≤ ids.bound) (sym walked.told_is.printed)
        (printed_above ids.bound 0 walked.replies (omega arith) ids.printed_within);
  }

  legal-by : Noted (λ told. AreAllCommits (length journal) told × AreIssuedIn told) → legal_text
  legal-by noted =
      let walked = noted.walked in
      let course = course-of noted.told walked in record {
        replies = walked.replies;
        written = written-by walked.replies course.1;
        legal = record {
          after = walked.after;
          steps = rounds-steps (asked shards) world rounds first walked.after walked.replies all-clients course.0;
          commits = all-commits noted.told walked noted.of_numbers.0;
          ids = ids-drawn noted.told walked noted.of_numbers.1;
        };
      }

  -- ---- from a legal run

  legal-walk : (l : legal_text) → Walk world first steps l.replies l.legal.after
  legal-walk l =
      course_walk (asked shards) world first (turns_of (asked shards) rounds) steps l.replies l.legal.after are
      (rounds-course (asked shards) world rounds first l.legal.after l.replies all-clients l.legal.steps)

  legal-bound : (l : legal_text) → l.legal.ids.bound ≤ greatest_id
  legal-bound l =
      range-bounded l.legal.ids.bound l.legal.ids.from_first
      (All-permutation (λ n. n < greatest_id) (drawn_in (asked shards) (answered_lines (asked shards) rounds) l.replies)
      (range_with_len first_id (l.legal.ids.bound - first_id)) l.legal.ids.each_once
      (subst (λ ids. All (λ n. n < greatest_id) ids) (sym (drawn-of l.replies))
      (walk-drawn world first steps l.replies l.legal.after (legal-walk l))))

  legal-lines : (l : legal_text) → map reply_line l.replies ≡ lines
  legal-lines l = same_Some (map reply_line l.replies) lines (sym (replies_lines l.replies) ∙ ap whole_lines (sym l.written) ∙ whole)

  legal-read : (l : legal_text) → AreReplies l.replies lines
  legal-read l =
      subst (λ ls. AreReplies l.replies ls) (legal-lines l)
      (lines-read l.replies (counters-within l.legal.ids.bound l.replies (legal-bound l) l.legal.ids.printed_within))

  -- it is the run that was walked over
  none-left : (rest : List Reply) → AreReplies rest [] → rest ≡ []
  none-left [] read = refl
  none-left (r ∷ rest) read = absurd read

  legal-same : (told : ToldParts) (walked : IsWalked world first steps lines told) (l : legal_text) → l.replies ≡ walked.replies
  legal-same told walked l =
      let left = walked.stands.only [] [] l.replies l.legal.after
      (subst (λ ls. AreReplies l.replies ls) (sym (append-nil lines)) (legal-read l))
      (subst (λ xs. Walk world first xs l.replies l.legal.after) (sym (append-nil steps)) (legal-walk l)) in
      left.1 ∙ ap (λ rs. walked.replies ++ rs) (none-left left.0 left.2) ∙ append-nil walked.replies

  legal-right : (number : ℕ) → IsFirstWrong world first steps lines number → legal_text → ⊥
  legal-right number is l =
      let left = is.stands.only (step.Ask is.asked ∷ is.behind) (is.line ∷ is.others) l.replies l.legal.after
      (subst (λ ls. AreReplies l.replies ls) is.lines_split (legal-read l))
      (subst (λ xs. Walk world first xs l.replies l.legal.after) is.split (legal-walk l)) in
      by left.0 left.2 left.3 where
        by : (rest : List Reply) → AreReplies rest (is.line ∷ is.others)
            → Walk world is.now (step.Ask is.asked ∷ is.behind) rest l.legal.after → ⊥
        by [] read walk = absurd read
        by (r ∷ rest) (counter, said, read) (s, t, got, reply, walk) =
            let same : s ≡ is.wrong.session = same_Some s is.wrong.session (sym got ∙ is.wrong.own) in
            let r_is : r ≡ record { client = is.asked.client; line = is.asked.number; body = r.body } =
            λ i. record { client = reply.addressed i; line = reply.numbered i; body = r.body } in
            is.wrong.none r.body t counter (ap reply_text (sym r_is) ∙ said)
            (subst (λ x. BodyAnswers world x (was_read is.asked) r.body t) same reply.said)

  -- ---- verdicts

  has-lines : asks steps ≡ length lines → HasLines (length (answered_lines (asked shards) rounds)) text
  has-lines counted = record {
    lines = lines;
    whole = (ended-whole text lines whole).unbroken;
    text_is = (ended-whole text lines whole).text_is;
    counted = sym counted ∙ asks_answered (asked shards) rounds steps are;
  }

  all-answer : (numbers : ToldParts → Type 0) (of_replies : List Reply → Type 0) (noted : Noted numbers) → of_replies noted.walked.replies
      → AllAnswer (asked shards) world rounds text of_replies
  all-answer numbers of_replies noted holds =
      let course = course-of noted.told noted.walked in record {
        replies = noted.walked.replies;
        after = noted.walked.after;
        counters = (replies_stand noted.walked.replies lines course.1).0;
        written = written-by noted.walked.replies course.1;
        course = course.0;
        of_numbers = holds;
      }

  pub verdict_is : (v : Verdict) → asks steps ≡ length lines → IsJudged world first steps lines (length journal) v
      → IsVerdict definitions shards window rounds journal text v
  unfolding has-lines
  verdict_is verdict.Legal counted judged = legal-by judged
  verdict_is (verdict.Reply number) counted judged =
      (has-lines counted, first_wrong (asked shards) world (turns_of (asked shards) rounds) steps lines number are judged)
  verdict_is verdict.Count counted judged = absurd judged
  verdict_is verdict.Numbers counted judged =
      all-answer (λ told. AreAllCommits (length journal) told → ⊥) (λ replies. AcknowledgesAll journal replies → ⊥) judged
      (λ all. judged.of_numbers (commits-back judged.told judged.walked all))
  verdict_is verdict.Ids counted judged =
      all-answer (λ told. AreAllCommits (length journal) told × (AreIssuedIn told → ⊥))
      (λ replies. AcknowledgesAll journal replies × (IdsDrawn (asked shards) rounds replies → ⊥)) judged
      (all-commits judged.told judged.walked judged.of_numbers.0, λ ids. judged.of_numbers.1 (ids-back judged.told judged.walked ids))

  pub legal_is : (v : Verdict) → IsJudged world first steps lines (length journal) v
      → (v ≡ verdict.Legal) ↔ IsLegalText definitions shards window rounds journal text
  legal_is verdict.Legal judged = (λ same. legal-by judged, λ l. refl)
  legal_is (verdict.Reply number) judged = (λ same. cc, λ l. absurd (legal-right number judged l))
  legal_is verdict.Count judged = absurd judged
  legal_is verdict.Numbers judged = (
    λ same. cc,
    λ l. absurd (judged.of_numbers (commits-back judged.told judged.walked
        (subst (λ rs. AcknowledgesAll journal rs) (legal-same judged.told judged.walked l) l.legal.commits))),
  )
  legal_is verdict.Ids judged = (
    λ same. cc,
    λ l. absurd (judged.of_numbers.1 (ids-back judged.told judged.walked
        (subst (λ rs. IdsDrawn (asked shards) rounds rs) (legal-same judged.told judged.walked l) l.legal.ids))),
  )

-- ---- other counts

module _ (definitions : List IndexDef) (shards window : ℕ) (rounds : List (List NumberedLine)) (journal : List Commit) (text : List ℕ) where
  -- a text that isn't of one line for each line
  pub count_is : (HasLines (length (answered_lines (asked shards) rounds)) text → ⊥)
      → IsVerdict definitions shards window rounds journal text verdict.Count
      × ((verdict.Count ≡ verdict.Legal) ↔ IsLegalText definitions shards window rounds journal text)
  count_is none = (none, (λ same. cc, λ l. absurd (none (of-legal l)))) where
    of-legal : IsLegalText definitions shards window rounds journal text → HasLines (length (answered_lines (asked shards) rounds)) text
    of-legal l =
        let is : IsWhole (replies_text l.replies) (map reply_line l.replies) =
        ended-whole (replies_text l.replies) (map reply_line l.replies) (replies_lines l.replies) in
        let course = rounds-course (asked shards) (world_of definitions shards (Some window) journal) rounds (first_sessions shards)
        l.legal.after l.replies
        (length-replicate (greatest_client + 1) (first_session shards)) l.legal.steps in record {
          lines = map reply_line l.replies;
          whole = is.unbroken;
          text_is = l.written ∙ is.text_is;
          counted = length-map l.replies reply_line
              ∙ course-counted (asked shards) (world_of definitions shards (Some window) journal) (first_sessions shards)
              (turns_of (asked shards) rounds)
              l.replies l.legal.after course
              ∙ ap (λ (ls : List NumberedLine). length ls) (lines-turns (asked shards) rounds);
        }

  pub no_lines : whole_lines text ≡ None → HasLines (length (answered_lines (asked shards) rounds)) text → ⊥
  no_lines none has =
      let some : whole_lines text ≡ Some has.lines = ap whole_lines has.text_is ∙ whole-ended has.lines has.whole in
      let both : None ≡ Some has.lines = sym none ∙ some in cc

  pub other_lines : (lines : List (List ℕ)) → whole_lines text ≡ Some lines
      → (length lines ≡ length (answered_lines (asked shards) rounds) → ⊥)
      → HasLines (length (answered_lines (asked shards) rounds)) text → ⊥
  other_lines lines whole other has =
      let some : whole_lines text ≡ Some has.lines = ap whole_lines has.text_is ∙ whole-ended has.lines has.whole in
      let same : lines ≡ has.lines = same_Some lines has.lines (sym whole ∙ some) in
      other (ap (λ (ls : List (List ℕ)). length ls) same ∙ has.counted)

-- ---- what `check` finds

module _ (definitions : List IndexDef) (shards window : ℕ) (rounds : List (List NumberedLine)) (journal : List Commit) (text : List ℕ)
    (lists : List (List (List Asked))) (steps : List Step) (same : steps ≡ steps_of lists) (are : AreAskedRounds shards rounds lists) where
  abbrev Answer_is : Verdict → Type 0
  Answer_is v =
      IsVerdict definitions shards window rounds journal text v
      × ((v ≡ verdict.Legal) ↔ IsLegalText definitions shards window rounds journal text)

  as-steps : AreSteps (asked shards) (turns_of (asked shards) rounds) steps
  as-steps = subst (λ xs. AreSteps (asked shards) (turns_of (asked shards) rounds) xs) (sym same) (are_steps shards rounds lists are)

  -- there aren't whole lines
  pub found_none : None ≡ whole_lines text → Answer_is verdict.Count
  found_none none =
      count_is definitions shards window rounds journal text (no_lines definitions shards window rounds journal text (sym none))

  -- there aren't as many as are asked
  pub found_other : (lines : List (List ℕ)) → Some lines ≡ whole_lines text → (length lines ≡ asks steps → ⊥) → Answer_is verdict.Count
  found_other lines whole other =
      count_is definitions shards window rounds journal text
      (other_lines definitions shards window rounds journal text lines (sym whole)
      (λ counted. other (counted ∙ sym (asks_answered (asked shards) rounds steps as-steps))))

  -- the walk tells the verdict
  pub found_judged : (lines : List (List ℕ)) (h : HistoryParts) (v : Verdict) → h ≡ record { journal = journal; shards = shards }
      → Some lines ≡ whole_lines text → length lines ≡ asks steps
      → IsJudged (world_of definitions h.shards (Some window) h.journal) (first_sessions h.shards) steps lines (length h.journal) v
      → Answer_is v
  found_judged lines h v is whole counted judged =
      let here = subst (λ (k : HistoryParts). IsJudged (world_of definitions k.shards (Some window) k.journal) (first_sessions k.shards)
      steps lines
      (length k.journal) v) is judged in (
        verdict_is definitions shards window rounds journal text steps lines as-steps (sym whole) v (sym counted) here,
        legal_is definitions shards window rounds journal text steps lines as-steps (sym whole) v here,
      )
