-- A client's lines, answered one after another.
use Rattle.std.proofs.Common.{◌≡◌, ℕ, ◌+◌, ◌≤◌, List, [], ◌∷◌, length, refl, sym, ◌∙◌, subst, arith, Option}
use Rattle.std.proofs.lemmas.List.Elements.{All-head, All-tail, All-weaker}
use Rattle.ds_indexdef.specs.declared.IndexDef.{IndexDef}
use Rattle.ds_rounds.specs.Rounds.{NumberedLine}
use Rattle.ds_asked.specs.declared.lines.Asked.{Asked}
use Rattle.ds_session.specs.Answering.{HasAnswered}
use Rattle.ds_asked.specs.AskedLines.{AreAsked, Asks, MayBeAnswered}
use Rattle.ds_client.specs.Clients.{HasAnsweredOwn, IsReady}
use Rattle.ds_session.specs.Room.{most_no_memory}
use Rattle.ds_session.specs.Sessions.{SessionParts}
use Rattle.ds_session.proofs.LineLaws.{answered_more, answered_none}

-- to answer what is left is to answer all
pub record AnsweredSoFar (definitions : List IndexDef) (shards : ℕ) (window : Option ℕ) (first : SessionParts) (own : List Asked)
    (now : SessionParts) (left : List Asked) : Type 0 where
  pub client : now.client ≡ first.client
  pub counts : length now.seen.counts ≡ length first.seen.counts
  pub ends : (after : SessionParts) → HasAnsweredOwn definitions shards window now left after
      → HasAnsweredOwn definitions shards window first own after

module _ (definitions : List IndexDef) (shards : ℕ) (window : Option ℕ) where
  pub none_answered : (s : SessionParts) (own : List Asked) → AnsweredSoFar definitions shards window s own s own
  none_answered s own = record { client = refl; counts = refl; ends = λ after h. h }

  -- the lines that a loop begins with
  pub begun_with : (s : SessionParts) (own left : List Asked) → left ≡ own → IsReady shards s own
      → IsReady shards s left × AnsweredSoFar definitions shards window s own s left
  begun_with s own left same ready = (
    subst (IsReady shards s) (sym same) ready,
    subst (AnsweredSoFar definitions shards window s own s) (sym same) (none_answered s own),
  )

  -- no lines are left
  nothing_left : (client : ℕ) (s : SessionParts) (lines : List NumberedLine) → AreAsked shards client lines []
      → HasAnswered definitions shards window s s lines
  nothing_left client s [] asked = answered_none definitions shards window s
  nothing_left client s (l ∷ lines) asked = absurd asked

  pub all_answered : (first now : SessionParts) (own left : List Asked) → left ≡ []
      → AnsweredSoFar definitions shards window first own now left → HasAnsweredOwn definitions shards window first own now
  all_answered first now own left none so_far = so_far.ends now
      (subst (λ asked. HasAnsweredOwn definitions shards window now asked now) (sym none) (record {
        answered = λ lines asked. nothing_left now.client now lines asked;
        client = refl;
        counts = refl;
      }))

  -- a client without lines has answered them
  pub idle_answered : (s : SessionParts) (own : List Asked) → own ≡ [] → HasAnsweredOwn definitions shards window s own s
  idle_answered s own none = all_answered s s own own none (none_answered s own)

  one_more : (s t u : SessionParts) (a : Asked) (left : List Asked) → t.client ≡ s.client → length t.seen.counts ≡ length s.seen.counts
      → ((line : NumberedLine) → Asks shards line a → HasAnswered definitions shards window s t (line ∷ []))
      → HasAnsweredOwn definitions shards window t left u → HasAnsweredOwn definitions shards window s (a ∷ left) u
  one_more s t u a left client counts one later = record {
    answered = by;
    client = later.client ∙ client;
    counts = later.counts ∙ counts;
  } where
    by : (lines : List NumberedLine) → AreAsked shards s.client lines (a ∷ left) → HasAnswered definitions shards window s u lines
    by [] asked = absurd asked
    by (l ∷ lines) (asks, of_client, rest) =
        answered_more definitions shards window s t u (l ∷ []) lines (one l asks)
        (later.answered lines (subst (λ c. AreAsked shards c lines left) (sym client) rest))

  -- one line more was answered
  pub one_answered : (first now next : SessionParts) (own : List Asked) (a : Asked) (rest more : List Asked) → rest ≡ a ∷ more
      → next.client ≡ now.client → length next.seen.counts ≡ length now.seen.counts
      → ((line : NumberedLine) → Asks shards line a → HasAnswered definitions shards window now next (line ∷ []))
      → AnsweredSoFar definitions shards window first own now rest → AnsweredSoFar definitions shards window first own next more
  one_answered first now next own a rest more first_is client counts one so_far = record {
    client = client ∙ so_far.client;
    counts = counts ∙ so_far.counts;
    ends = λ after h. so_far.ends after
        (subst (λ asked. HasAnsweredOwn definitions shards window now asked after) (sym first_is)
        (one_more now next after a more client counts one h));
  }

-- the first of the lines that are left, and those behind it
pub ready_first : (shards : ℕ) (s : SessionParts) (a : Asked) (rest more : List Asked) → rest ≡ a ∷ more → IsReady shards s rest
    → MayBeAnswered shards a × (a.client ≡ s.client) × (most_no_memory ≤ s.room)
ready_first shards s a rest more is ready =
    let whole : IsReady shards s (a ∷ more) = subst (IsReady shards s) is ready in (
      All-head (MayBeAnswered shards) a more whole.answerable,
      All-head (λ (b : Asked). b.client ≡ s.client) a more whole.own_lines,
      omega (arith, whole.room),
    )

pub ready_later : (shards : ℕ) (s t : SessionParts) (a : Asked) (rest more : List Asked) → rest ≡ a ∷ more → t.client ≡ s.client
    → s.room ≡ t.room + most_no_memory → IsReady shards s rest → IsReady shards t more
ready_later shards s t a rest more is client room ready =
    let whole : IsReady shards s (a ∷ more) = subst (IsReady shards s) is ready in record {
      answerable = All-tail (MayBeAnswered shards) a more whole.answerable;
      own_lines = All-weaker (λ (b : Asked). b.client ≡ s.client) (λ (b : Asked). b.client ≡ t.client) (λ b own. own ∙ sym client) more
          (All-tail (λ (b : Asked). b.client ≡ s.client) a more whole.own_lines);
      room = omega (arith, room, whole.room);
    }
