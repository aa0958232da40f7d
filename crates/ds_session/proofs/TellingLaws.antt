-- From one reply of a session to an answered line, and replies to lines that ask nothing.
use Rattle.std.proofs.Common.{◌≡◌, ℕ, ◌<◌, ◌≤◌, List, [], ◌∷◌, ◌++◌, length, map, replicate, suc, refl, ap, sym, ◌∙◌, subst}
use Rattle.std.proofs.Common.{arith, Bool, true}
use Rattle.std.proofs.Common.{false, Option}
use Rattle.std.specs.Prelude.{IsTrue, Result, Err}
use Rattle.std.proofs.lemmas.List.{append-nil}
use Rattle.std.proofs.lemmas.List.Elements.{All-same, All-nil}
use Rattle.ds_base.specs.Limits.{first_drawn_id, greatest_client}
use Rattle.ds_hub.specs.Growing.{AreLonger}
use Rattle.ds_indexdef.specs.declared.IndexDef.{IndexDef}
use Rattle.ds_log.specs.declared.Entry.{Entry}
use Rattle.ds_request.specs.declared.call.Request.{Request}
use Rattle.ds_reply.specs.declared.reply.Body.{Body}
use Rattle.ds_reply.specs.declared.reply.Body.TheVariants as body
use Rattle.ds_reply.specs.Replies.{reply_text}
use Rattle.ds_rounds.specs.Rounds.{NumberedLine}
use Rattle.ds_model.specs.Answers.{BodyAnswers}
use Rattle.ds_model.specs.Asked.{asked, client_of}
use Rattle.ds_model.specs.Sessions.{Session, first_session}
use Rattle.ds_model.specs.Worlds.{World}
use Rattle.ds_protocol.specs.Quiet.{IsQuiet}
use Rattle.ds_protocol.specs.Saying.{no_memory_reply}
use Rattle.ds_store.specs.Answered.{AreAtLeast}
use Rattle.ds_store.specs.Passes.{PassParts, HasRead}
use Rattle.ds_asked.specs.declared.lines.Asked.{Asked}
use Rattle.ds_session_state.specs.Answering.{HasAnswered, HasSaid}
use Rattle.ds_asked.specs.AskedLines.{Asks, was_read}
use Rattle.ds_session_state.specs.Replying.{HasReplied}
use Rattle.ds_session_state.specs.Sessions.{IsWithin, SessionParts, world_seen}
use Rattle.ds_session_state.proofs.GrowthLaws.{grown_itself, read_itself}
use Rattle.ds_session.proofs.LineLaws.{answered_line}
use Rattle.ds_session_state.proofs.ReplyLaws.{replied, replied_no_memory}

-- ---- one reply, one line; a session tells less of its room than its state has

module _ (definitions : List IndexDef) (shards : ℕ) (window : Option ℕ) (state after before : SessionParts) (old new : ℕ) where
  pub answered_from : (record state { room = old }) ≡ before → (line : NumberedLine) (number kept : ℕ) → number ≡ line.number
      → client_of (asked shards) line.content ≡ before.client
      → HasReplied definitions shards window state after number (asked shards line.content) kept
      → HasAnswered definitions shards window before (record after { room = new }) (line ∷ [])
  answered_from is line number kept numbered own r =
      subst (λ s. HasAnswered definitions shards window s (record after { room = new }) (line ∷ [])) is
      (answered_line definitions shards window (record state { room = old }) (record after { room = new }) line
      (record { client = state.client; line = number; body = r.said }) r.client numbered
      (ap (λ (s : SessionParts). s.client) is ∙ sym own) r.holds r.text)

  pub answered_as : (record state { room = old }) ≡ before → (line : NumberedLine) (a : Asked) (read : Result Request (ℕ × Body)) (kept : ℕ)
      → a.client ≡ before.client → was_read a ≡ read → Asks shards line a
      → HasReplied definitions shards window state after a.number read kept
      → HasAnswered definitions shards window before (record after { room = new }) (line ∷ [])
  answered_as is line a read kept own same asks r =
      answered_from is line a.number kept asks.numbered (asks.own ∙ own)
      (subst (λ q. HasReplied definitions shards window state after a.number q kept) (sym (asks.read ∙ same)) r)

-- what is left of a session is within its pass
pub within_after : (definitions : List IndexDef) (shards : ℕ) (window : Option ℕ) (before after : SessionParts) (number : ℕ)
    (read : Result Request (ℕ × Body)) (kept : ℕ) → before.client ≤ greatest_client
    → HasReplied definitions shards window before after number read kept
    → IsWithin after.seen after.pass × (after.client ≤ greatest_client) × (kept ≤ after.room)
within_after definitions shards window before after number read kept low r =
    (r.holds.within, omega (arith, low, r.client), r.room)

-- ---- a line that asks nothing

told-itself : (w : World) (s : Session) (client : ℕ) (b : Body) → BodyAnswers w s (Err (client, b)) b s
told-itself w s client body.NoMemory = refl
told-itself w s client _ = (refl, refl)

module _ (definitions : List IndexDef) (shards : ℕ) (window : Option ℕ) where
  said_of_line : (p : PassParts) (s : Session) (client : ℕ) (b : Body) → IsQuiet b → IsWithin s p
      → HasSaid definitions shards window p p s s (Err (client, b)) b
  said_of_line p s client b quiet within = record {
    answers = told-itself (world_seen definitions shards window p) s client b;
    grown = grown_itself p;
    commits = sym (append-nil p.commits) ∙ ap (λ ns. p.commits ++ ns) (sym quiet.acknowledges);
    draws = sym (append-nil p.draws);
    accepts = All-same (λ id. id < p.next) _ [] quiet.accepts (All-nil (λ id. id < p.next));
    prints = All-same (λ next. next ≤ p.next) _ [] quiet.prints (All-nil (λ next. next ≤ p.next));
    within = within;
  }

  pub replied_of_line : (before after : SessionParts) (number kept : ℕ) (b : Body) (told : Bool) → after.client ≡ before.client
      → after.seen ≡ before.seen → after.pass ≡ before.pass → IsWithin before.seen before.pass → IsQuiet b
      → (IsTrue told → after.text ≡ before.text ++ reply_text (record { client = before.client; line = number; body = b }))
      → (told ≡ false → after.text ≡ before.text ++ reply_text (no_memory_reply before.client number)) → kept ≤ after.room
      → HasReplied definitions shards window before after number (Err (before.client, b)) kept
  replied_of_line before after number kept b false client seen pass within quiet text untold room =
      replied_no_memory definitions shards window before after number (Err (before.client, b)) kept client seen
      (subst (HasRead before.pass) (sym pass) (read_itself before.pass)) within (untold refl) room
  replied_of_line before after number kept b true client seen pass within quiet text untold room =
      replied definitions shards window before after number (Err (before.client, b)) kept b client
      (subst (λ s. HasSaid definitions shards window before.pass after.pass before.seen s (Err (before.client, b)) b) (sym seen)
      (subst (λ q. HasSaid definitions shards window before.pass q before.seen before.seen (Err (before.client, b)) b) (sym pass)
      (said_of_line before.pass before.seen before.client b quiet within)))
      (text refl) room

-- ---- a client that has seen nothing

none_counted : (lists : List (List Entry)) → AreAtLeast (replicate (length lists) 0) (map length lists)
none_counted [] = tt
none_counted (es ∷ lists) = (omega arith, none_counted lists)

pub first_within : (p : PassParts) → first_drawn_id ≤ p.next → IsWithin (first_session (length p.lists)) p
first_within p least = record { place = omega arith; counts = none_counted p.lists; next = least; transaction = tt }

-- as many counts are seen as a pass has lists
pub as_many : (counts : List ℕ) (lists : List (List Entry)) → AreAtLeast counts (map length lists) → length counts ≡ length lists
as_many [] [] h = refl
as_many [] (es ∷ lists) h = absurd h
as_many (c ∷ counts) [] h = absurd h
as_many (c ∷ counts) (es ∷ lists) h = ap suc (as_many counts lists h.1)

pub same_many : (s : Session) (p : PassParts) → IsWithin s p → length s.counts ≡ length p.lists
same_many s p within = as_many s.counts p.lists within.counts

pub same_client : (definitions : List IndexDef) (shards : ℕ) (window : Option ℕ) (before after : SessionParts) (number : ℕ)
    (read : Result Request (ℕ × Body)) (kept : ℕ) → HasReplied definitions shards window before after number read kept
    → after.client ≡ before.client
same_client definitions shards window before after number read kept r = r.client

-- a reply leaves as many counts
pub same_counts : (definitions : List IndexDef) (shards : ℕ) (window : Option ℕ) (before after : SessionParts) (number : ℕ)
    (read : Result Request (ℕ × Body)) (kept : ℕ) → IsWithin before.seen before.pass
    → HasReplied definitions shards window before after number read kept → length after.seen.counts ≡ length before.seen.counts
same_counts definitions shards window before after number read kept within r =
    same_many after.seen after.pass r.holds.within ∙ as_long before.pass.lists after.pass.lists r.holds.grown.lists
    ∙ sym (same_many before.seen before.pass within) where
      as_long : (xs ys : List (List Entry)) → AreLonger xs ys → length ys ≡ length xs
      as_long [] [] h = refl
      as_long [] (y ∷ ys) h = absurd h
      as_long (x ∷ xs) [] h = absurd h
      as_long (x ∷ xs) (y ∷ ys) h = ap suc (as_long xs ys h.1)
